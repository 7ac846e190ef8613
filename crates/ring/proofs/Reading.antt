-- The laws of reading the ring. Assumes nothing.
use mathlib.Core.Path.{◌≡◌, refl, sym, ap, ◌∙◌}
use mathlib.Core.List.{List, ◌∷◌, ◌++◌}
use Prim.Native.Nat.{ℕ, zero, suc, ◌+◌, ◌%◌, ◌≤◌, ◌<◌}
use native.Mathlib.Nat.{add-zero, add-suc, suc-add, zero-add, mod-lt, mod-mod, add-mod_right, not-suc-le-zero, le_of_suc-le-suc}
use native.Mathlib.Numerals.{add-one}
use native.Mathlib.Omega.{arith}
use lib.ListN.{length, get_or, drop}
use lib.Seq.{ext_get_or, get_or-drop}
use Rattle.wire.specs.Wire.{Bytes, bytes_at, put_at}
use Rattle.wire.proofs.Stores.{put_at-before, put_at-after}
use Rattle.ring.specs.Ring.{ring_read, phys_pos}
use Rattle.ring.proofs.Places.{add_same, turn_low}

pub length_read : (start size : ℕ) (img : List ℕ) (p n : ℕ) → length (ring_read start size img p n) ≡ n
unfolding ring_read
length_read start size img p zero = refl
length_read start size img p (suc n) = ap suc (length_read start size img (suc p) n)

-- byte i of a read at p is the image's byte of the place p + i
pub get_d_read : (start size : ℕ) (img : List ℕ) (p n i : ℕ) → i < n → get_or (ring_read start size img p n) i 0 ≡ get_or img (phys_pos start size (p + i)) 0
unfolding ring_read
get_d_read start size img p zero i h = absurd (not-suc-le-zero h)
get_d_read start size img p (suc n) zero h = rw add-zero
get_d_read start size img p (suc n) (suc i) h = get_d_read start size img (suc p) n i (le_of_suc-le-suc h) ∙ rw (add-suc, suc-add p i)

-- what is read is made of bytes, as the image is
pub bytes_read : (start size : ℕ) (img : List ℕ) (p n : ℕ) → Bytes img → Bytes (ring_read start size img p n)
unfolding ring_read
bytes_read start size img p zero h i = omega arith
bytes_read start size img p (suc n) h zero = h (phys_pos start size p)
bytes_read start size img p (suc n) h (suc i) = bytes_read start size img (suc p) n h i

-- two reads, also of two rings, whose bytes are the same one by one
pub read_ext : (start size start' size' : ℕ) (img img' : List ℕ) (p q n : ℕ)
    → ((i : ℕ) → i < n → get_or img (phys_pos start size (p + i)) 0 ≡ get_or img' (phys_pos start' size' (q + i)) 0)
    → ring_read start size img p n ≡ ring_read start' size' img' q n
read_ext start size start' size' img img' p q n h =
    ext_get_or 0 (ring_read start size img p n) (ring_read start' size' img' q n)
    (length_read start size img p n ∙ sym (length_read start' size' img' q n))
    (λ i b.
    let l : i < n = omega (arith, length_read start size img p n) in
    get_d_read start size img p n i l ∙ h i l ∙ sym (get_d_read start' size' img' q n i l))

-- ---- places reduced or not

pub read_same : (start size : ℕ) (img : List ℕ) (p q n : ℕ) → p % size ≡ q % size → ring_read start size img p n ≡ ring_read start size img q n
read_same start size img p q n e =
    read_ext start size start size img img p q n (λ i l. ap (λ (x : ℕ). get_or img (start + x) 0) (add_same size p q i e))

pub read_mod : (start size : ℕ) (img : List ℕ) (p n : ℕ) → ring_read start size img (p % size) n ≡ ring_read start size img p n
read_mod start size img p n = read_same start size img (p % size) p n (mod-mod p size)

-- one turn further
pub read_round : (start size : ℕ) (img : List ℕ) (p n : ℕ) → ring_read start size img (p + size) n ≡ ring_read start size img p n
read_round start size img p n = read_same start size img (p + size) p n (add-mod_right p size)

-- ---- reads split and join

pub read_none : (start size : ℕ) (img : List ℕ) (p q : ℕ) → ring_read start size img p 0 ≡ ring_read start size img q 0
unfolding ring_read
read_none start size img p q = refl

pub read_append : (start size : ℕ) (img : List ℕ) (p n m : ℕ)
    → ring_read start size img p (n + m) ≡ ring_read start size img p n ++ ring_read start size img (p + n) m
unfolding ring_read
read_append start size img p zero m = rw (zero-add, add-zero)
read_append start size img p (suc n) m =
    rw (suc-add n m, add-suc p n, ← suc-add p n)
    (ap (λ (l : List ℕ). get_or img (phys_pos start size p) 0 ∷ l) (read_append start size img (suc p) n m))

-- before the ring's end a read is a part of the image
pub read_straight : (start size : ℕ) (img : List ℕ) (p n : ℕ) → p + n ≤ size → ring_read start size img p n ≡ bytes_at n img (start + p)
unfolding ring_read
read_straight start size img p zero h = refl
read_straight start size img p (suc n) h =
    rw (turn_low size p (omega arith), add-one, ← add-suc start p)
    (ap (λ (l : List ℕ). get_or img (start + p) 0 ∷ l) (read_straight start size img (suc p) n (omega arith)))

-- ---- what a read looks at

-- nothing but the ring: images that agree there are read alike
pub read_only : (start size : ℕ) (img img' : List ℕ) (p n : ℕ) → 0 < size
    → ((j : ℕ) → j < size → get_or img (start + j) 0 ≡ get_or img' (start + j) 0)
    → ring_read start size img p n ≡ ring_read start size img' p n
read_only start size img img' p n h e =
    read_ext start size start size img img' p p n (λ i b. e ((p + i) % size) (mod-lt (p + i) h))

-- images that are the same from the ring's start on are read alike
pub read_behind_start : (start size : ℕ) (img img' : List ℕ) (p n : ℕ) → drop start img ≡ drop start img'
    → ring_read start size img p n ≡ ring_read start size img' p n
read_behind_start start size img img' p n e =
    read_ext start size start size img img' p p n
    (λ i b.
    sym (get_or-drop start img ((p + i) % size) 0)
    ∙ ap (λ (l : List ℕ). get_or l ((p + i) % size) 0) e
    ∙ get_or-drop start img' ((p + i) % size) 0)

-- a store before the ring's start, and one past its end, change no read
pub read_put-before : (start size : ℕ) (img : List ℕ) (at : ℕ) (s : List ℕ) (p n : ℕ) → at + length s ≤ start
    → ring_read start size (put_at img at s) p n ≡ ring_read start size img p n
read_put-before start size img at s p n h =
    read_ext start size start size (put_at img at s) img p p n (λ i b. put_at-after img at s (phys_pos start size (p + i)) (omega arith))

pub read_put-past : (start size : ℕ) (img : List ℕ) (at : ℕ) (s : List ℕ) (p n : ℕ) → 0 < size → start + size ≤ at
    → ring_read start size (put_at img at s) p n ≡ ring_read start size img p n
read_put-past start size img at s p n h l =
    read_ext start size start size (put_at img at s) img p p n
    (λ i b. put_at-before img at s (phys_pos start size (p + i)) (omega (arith, mod-lt (p + i) h)))
