-- The laws of writing the ring: what a write leaves as it was, what is read after it, and which writes can be joined, left out or
-- exchanged. Assumes nothing.
use mathlib.Core.Path.{◌≡◌, refl, sym, ap, ◌∙◌}
use mathlib.Core.Logic.{◌≢◌}
use mathlib.Core.List.{List, [], ◌∷◌, ◌++◌}
use Prim.Native.Nat.{ℕ, zero, suc, ◌+◌, ◌-◌, ◌%◌, ◌≤◌, ◌<◌, suc-le-suc}
use native.Mathlib.Nat.{add-zero, add-suc, suc-add, mod-lt, mod-mod}
use native.Mathlib.Decide.{dec_lt}
use native.Mathlib.Omega.{arith}
use lib.ListN.{length, get_or, set, take, drop, length-set}
use lib.Seq.{ext_get_or, get_or-set_same, get_or-set_other, take-set-le, drop-set-lt, get_or-take, get_or-drop, take_at, drop_at}
use Rattle.wire.specs.Wire.{Bytes, put_at}
use Rattle.wire.proofs.Stores.{put_at-bytes}
use Rattle.ring.specs.Ring.{ring_read, ring_write, ring_distance, phys_pos}
use Rattle.ring.proofs.Places.{suc_same, turn_low, far, apart, around, distance_lt, distance_there}
use Rattle.ring.proofs.Reading.{length_read, get_d_read, read_ext, read_append}

-- ---- lengths, bytes

pub length_write : (start size : ℕ) (img : List ℕ) (p : ℕ) (s : List ℕ) → length (ring_write start size img p s) ≡ length img
unfolding ring_write
length_write start size img p [] = refl
length_write start size img p (b ∷ s) =
    length_write start size (set img (phys_pos start size p) b) (suc p) s ∙ length-set img (phys_pos start size p) b

-- bytes written among bytes are bytes
pub bytes_write : (start size : ℕ) (img : List ℕ) (p : ℕ) (s : List ℕ) → Bytes img → Bytes s → Bytes (ring_write start size img p s)
unfolding ring_write
bytes_write start size img p [] hi hs = hi
bytes_write start size img p (b ∷ s) hi hs =
    bytes_write start size (set img (phys_pos start size p) b) (suc p) s (put_at-bytes img (phys_pos start size p) (b ∷ []) hi one) (λ i. hs (suc i))
  where
    one : Bytes (b ∷ [])
    one zero = hs 0
    one (suc i) = omega arith

-- ---- writes split and join, places reduced or not

pub write_append : (start size : ℕ) (img : List ℕ) (p : ℕ) (s t : List ℕ)
    → ring_write start size img p (s ++ t) ≡ ring_write start size (ring_write start size img p s) (p + length s) t
unfolding ring_write
write_append start size img p [] t = rw add-zero
write_append start size img p (b ∷ s) t =
    write_append start size (set img (phys_pos start size p) b) (suc p) s t ∙ rw (add-suc, suc-add p (length s))

pub write_same : (start size : ℕ) (img : List ℕ) (p q : ℕ) (s : List ℕ) → p % size ≡ q % size
    → ring_write start size img p s ≡ ring_write start size img q s
unfolding ring_write
write_same start size img p q [] e = refl
write_same start size img p q (b ∷ s) e =
    write_same start size (set img (phys_pos start size p) b) (suc p) (suc q) s (suc_same size p q e) ∙ rw e

pub write_mod : (start size : ℕ) (img : List ℕ) (p : ℕ) (s : List ℕ) → ring_write start size img (p % size) s ≡ ring_write start size img p s
write_mod start size img p s = write_same start size img (p % size) p s (mod-mod p size)

pub write_none : (start size : ℕ) (img : List ℕ) (p : ℕ) → ring_write start size img p [] ≡ img
unfolding ring_write
write_none start size img p = refl

-- before the ring's end a write is a store in the image
pub write_straight : (start size : ℕ) (img : List ℕ) (p : ℕ) (s : List ℕ) → p + length s ≤ size
    → ring_write start size img p s ≡ put_at img (start + p) s
unfolding ring_write
write_straight start size img p [] h = refl
write_straight start size img p (b ∷ s) h =
    rw (turn_low size p (omega arith), ← add-suc start p)
    (write_straight start size (set img (start + p) b) (suc p) s (omega arith))

-- ---- what a write leaves as it was

-- a byte at none of the places written
pub write_other : (start size : ℕ) (img : List ℕ) (p : ℕ) (s : List ℕ) (j : ℕ) → ((i : ℕ) → i < length s → j ≢ phys_pos start size (p + i))
    → get_or (ring_write start size img p s) j 0 ≡ get_or img j 0
unfolding ring_write
write_other start size img p [] j h = refl
write_other start size img p (b ∷ s) j h =
    write_other start size (set img (phys_pos start size p) b) (suc p) s j
    (λ i l e. h (suc i) (suc-le-suc l) (e ∙ rw (add-suc, suc-add p i)))
    ∙ get_or-set_other img (phys_pos start size p) j b 0 (λ e. h 0 (omega arith) (e ∙ rw add-zero))

-- the bytes before the ring, and those past it
pub write_before : (start size : ℕ) (img : List ℕ) (p : ℕ) (s : List ℕ) → take start (ring_write start size img p s) ≡ take start img
unfolding ring_write
write_before start size img p [] = refl
write_before start size img p (b ∷ s) =
    write_before start size (set img (phys_pos start size p) b) (suc p) s
    ∙ take-set-le start img (phys_pos start size p) b (omega arith)

pub write_past : (start size : ℕ) (img : List ℕ) (p : ℕ) (s : List ℕ) → 0 < size
    → drop (start + size) (ring_write start size img p s) ≡ drop (start + size) img
unfolding ring_write
write_past start size img p [] h = refl
write_past start size img p (b ∷ s) h =
    write_past start size (set img (phys_pos start size p) b) (suc p) s h
    ∙ drop-set-lt (start + size) img (phys_pos start size p) b (omega (arith, mod-lt p h))

-- a read of an interval apart from it: the read's place q is d places past p, all of the write lies before it, and all of the read
-- within one turn of p
pub read_apart : (start size : ℕ) (img : List ℕ) (p : ℕ) (s : List ℕ) (q d n : ℕ)
    → q % size ≡ (p + d) % size → length s ≤ d → d + n ≤ size
    → ring_read start size (ring_write start size img p s) q n ≡ ring_read start size img q n
read_apart start size img p s q d n e h l =
    read_ext start size start size (ring_write start size img p s) img q q n
    (λ j b. write_other start size img p s (phys_pos start size (q + j))
    (λ i k x. apart size p q d (length s) n i j e h l k b (omega arith)))

-- the same, where the read starts behind the write, where it ends before it, and with the distance that is there
pub read_behind : (start size : ℕ) (img : List ℕ) (p : ℕ) (s : List ℕ) (d n : ℕ) → length s ≤ d → d + n ≤ size
    → ring_read start size (ring_write start size img p s) (p + d) n ≡ ring_read start size img (p + d) n
read_behind start size img p s d n h l = read_apart start size img p s (p + d) d n refl h l

pub read_ahead : (start size : ℕ) (img : List ℕ) (q : ℕ) (s : List ℕ) (d n : ℕ) → n ≤ d → d + length s ≤ size
    → ring_read start size (ring_write start size img (q + d) s) q n ≡ ring_read start size img q n
read_ahead start size img q s d n h l =
    read_apart start size img (q + d) s q (size - d) n (around size q (q + d) d (omega arith) refl) (omega arith) (omega arith)

pub read_distance : (start size : ℕ) (img : List ℕ) (p : ℕ) (s : List ℕ) (q n : ℕ) → 0 < size
    → length s ≤ ring_distance size p q → ring_distance size p q + n ≤ size
    → ring_read start size (ring_write start size img p s) q n ≡ ring_read start size img q n
read_distance start size img p s q n h a b =
    read_apart start size img p s q (ring_distance size p q) n (sym (distance_there size p q h)) a b

-- ---- what is read after a write

-- what was written
pub read_write : (start size : ℕ) (img : List ℕ) (p : ℕ) (s : List ℕ) → start + size ≤ length img → length s ≤ size
    → ring_read start size (ring_write start size img p s) p (length s) ≡ s
unfolding ring_read ring_write
read_write start size img p [] f h = refl
read_write start size img p (b ∷ s) f h =
    let at : ℕ = phys_pos start size p in
    let first : get_or (ring_write start size (set img at b) (suc p) s) at 0 ≡ b =
    write_other start size (set img at b) (suc p) s at
    (λ i l e. far size p (suc i) (omega arith) (omega arith) (rw (add-suc, ← suc-add p i) (omega arith)))
    ∙ get_or-set_same img at b 0 (omega (arith, mod-lt p {m = size} (omega arith))) in
    rw first (ap (λ (l : List ℕ). b ∷ l) (read_write start size (set img at b) (suc p) s (simp length-set f) (omega arith)))

-- some of what was written
pub read_within : (start size : ℕ) (img : List ℕ) (p : ℕ) (s : List ℕ) (d n : ℕ)
    → start + size ≤ length img → length s ≤ size → d + n ≤ length s
    → ring_read start size (ring_write start size img p s) (p + d) n ≡ take n (drop d s)
read_within start size img p s d n f h l =
    let w : List ℕ = ring_write start size img p s in
    let rest : ℕ = length s - (d + n) in
    let lr : length (ring_read start size w p d) ≡ d = length_read start size w p d in
    let e : length s ≡ d + (n + rest) = omega arith in
    let all : ring_read start size w p d ++ (ring_read start size w (p + d) n ++ ring_read start size w (p + d + n) rest) ≡ s =
    rw (← read_append start size w (p + d) n rest, ← read_append start size w p d (n + rest), ← e)
    (read_write start size img p s f h) in
    sym (ap (λ (t : List ℕ). take n (drop d t)) (sym all)
    ∙ ap (λ (t : List ℕ). take n t) (drop_at (ring_read start size w p d) _ d lr)
    ∙ take_at (ring_read start size w (p + d) n) _ n (length_read start size w (p + d) n))

-- byte i of what was written, where it lies in the image
pub get_d_write : (start size : ℕ) (img : List ℕ) (p : ℕ) (s : List ℕ) (i : ℕ) → start + size ≤ length img → length s ≤ size → i < length s
    → get_or (ring_write start size img p s) (phys_pos start size (p + i)) 0 ≡ get_or s i 0
get_d_write start size img p s i f h l =
    sym (get_d_read start size (ring_write start size img p s) p (length s) i l)
    ∙ ap (λ (t : List ℕ). get_or t i 0) (read_write start size img p s f h)

-- ---- when two images are the same

-- a byte of the ring is read at its distance from p
get_d_ring : (start size : ℕ) (img : List ℕ) (p j : ℕ) → j < size
    → get_or img (start + j) 0 ≡ get_or (ring_read start size img p size) (ring_distance size p j) 0
get_d_ring start size img p j h =
    sym (get_d_read start size img p size (ring_distance size p j) (distance_lt size p j (omega arith))
    ∙ ap (λ (x : ℕ). get_or img (start + x) 0) (distance_there size p j (omega arith) ∙ turn_low size j h))

-- they are as long, have the same bytes before and past the ring, and the same turn of it from p on
pub image_ext : (start size : ℕ) (img img' : List ℕ) (p : ℕ) → length img ≡ length img' → take start img ≡ take start img'
    → drop (start + size) img ≡ drop (start + size) img' → ring_read start size img p size ≡ ring_read start size img' p size → img ≡ img'
image_ext start size img img' p l before past ring = ext_get_or 0 img img' l (λ j b. go j (dec_lt j start) (dec_lt j (start + size)))
  where
    go : (j : ℕ) → Dec (j < start) → Dec (j < start + size) → get_or img j 0 ≡ get_or img' j 0
    go j (yes y) _ = sym (get_or-take start img j 0 y) ∙ ap (λ (t : List ℕ). get_or t j 0) before ∙ get_or-take start img' j 0 y
    go j (no x) (yes y) =
        let e : j ≡ start + (j - start) = omega (arith, x) in
        rw e
        (get_d_ring start size img p (j - start) (omega (arith, x))
        ∙ ap (λ (t : List ℕ). get_or t (ring_distance size p (j - start)) 0) ring
        ∙ sym (get_d_ring start size img' p (j - start) (omega (arith, x))))
    go j (no x) (no y) =
        let e : j ≡ start + size + (j - (start + size)) = omega (arith, y) in
        rw e
        (sym (get_or-drop (start + size) img (j - (start + size)) 0)
        ∙ ap (λ (t : List ℕ). get_or t (j - (start + size)) 0) past
        ∙ get_or-drop (start + size) img' (j - (start + size)) 0)

-- two chains of writes leave the same where a turn of the ring reads the same
pub write_ext : (start size : ℕ) (img img' : List ℕ) (p q r : ℕ) (s t : List ℕ) → 0 < size → length img ≡ length img'
    → take start img ≡ take start img' → drop (start + size) img ≡ drop (start + size) img'
    → ring_read start size (ring_write start size img p s) r size ≡ ring_read start size (ring_write start size img' q t) r size
    → ring_write start size img p s ≡ ring_write start size img' q t
write_ext start size img img' p q r s t h l before past ring =
    image_ext start size (ring_write start size img p s) (ring_write start size img' q t) r
    (length_write start size img p s ∙ l ∙ sym (length_write start size img' q t))
    (write_before start size img p s ∙ before ∙ sym (write_before start size img' q t))
    (write_past start size img p s h ∙ past ∙ sym (write_past start size img' q t h))
    ring

-- ---- one write after another

-- of a write longer than a turn the last turn stays
pub write_long : (start size : ℕ) (img : List ℕ) (p : ℕ) (a b : List ℕ) → 0 < size → start + size ≤ length img → length b ≡ size
    → ring_write start size img p (a ++ b) ≡ ring_write start size img (p + length a) b
write_long start size img p a b h f e =
    write_append start size img p a b
    ∙ write_ext start size w img q q q b b h
    (length_write start size img p a) (write_before start size img p a) (write_past start size img p a h)
    (whole w (omega (arith, length_write start size img p a)) ∙ sym (whole img f))
  where
    w : List ℕ
    w = ring_write start size img p a

    q : ℕ
    q = p + length a

    whole : (i : List ℕ) → start + size ≤ length i → ring_read start size (ring_write start size i q b) q size ≡ b
    whole i g = ap (λ (n : ℕ). ring_read start size (ring_write start size i q b) q n) (sym e) ∙ read_write start size i q b g (omega arith)

-- a write over an earlier one that was no longer leaves nothing of it
pub write_over : (start size : ℕ) (img : List ℕ) (p : ℕ) (s t : List ℕ) → 0 < size → start + size ≤ length img
    → length s ≤ length t → length t ≤ size
    → ring_write start size (ring_write start size img p s) p t ≡ ring_write start size img p t
write_over start size img p s t h f l m =
    write_ext start size w img p p p t t h
    (length_write start size img p s) (write_before start size img p s) (write_past start size img p s h)
    (turn w (omega (arith, length_write start size img p s))
    ∙ ap (λ (r : List ℕ). t ++ r) (read_behind start size img p s (length t) rest l (omega arith))
    ∙ sym (turn img f))
  where
    w : List ℕ
    w = ring_write start size img p s

    rest : ℕ
    rest = size - length t

    turn : (i : List ℕ) → start + size ≤ length i
        → ring_read start size (ring_write start size i p t) p size ≡ t ++ ring_read start size i (p + length t) rest
    turn i g =
        ap (λ (n : ℕ). ring_read start size (ring_write start size i p t) p n) (let e : size ≡ length t + rest = omega arith in e)
        ∙ read_append start size (ring_write start size i p t) p (length t) rest
        ∙ rw (read_write start size i p t g m, read_behind start size i p t (length t) rest (omega arith) (omega arith))

-- two writes apart from each other can be exchanged: the second starts d places past the first, as in `read_apart`
set_exchange : (l : List ℕ) (i j a b : ℕ) → i ≢ j → set (set l i a) j b ≡ set (set l j b) i a
set_exchange [] i j a b n = refl
set_exchange (x ∷ l) zero zero a b n = absurd (n refl)
set_exchange (x ∷ l) zero (suc j) a b n = refl
set_exchange (x ∷ l) (suc i) zero a b n = refl
set_exchange (x ∷ l) (suc i) (suc j) a b n = ap (λ (t : List ℕ). x ∷ t) (set_exchange l i j a b (λ e. n (ap suc e)))

write_set : (start size : ℕ) (img : List ℕ) (q : ℕ) (t : List ℕ) (j b : ℕ) → ((i : ℕ) → i < length t → j ≢ phys_pos start size (q + i))
    → ring_write start size (set img j b) q t ≡ set (ring_write start size img q t) j b
unfolding ring_write
write_set start size img q [] j b h = refl
write_set start size img q (c ∷ t) j b h =
    ap (λ (l : List ℕ). ring_write start size l (suc q) t)
    (set_exchange img j (phys_pos start size q) b c (λ e. h 0 (omega arith) (e ∙ rw add-zero)))
    ∙ write_set start size (set img (phys_pos start size q) c) (suc q) t j b
    (λ i l e. h (suc i) (suc-le-suc l) (e ∙ rw (add-suc, suc-add q i)))

write_exchange : (start size : ℕ) (img : List ℕ) (p : ℕ) (s : List ℕ) (q : ℕ) (t : List ℕ)
    → ((i j : ℕ) → i < length s → j < length t → (p + i) % size ≢ (q + j) % size)
    → ring_write start size (ring_write start size img p s) q t ≡ ring_write start size (ring_write start size img q t) p s
unfolding ring_write
write_exchange start size img p [] q t h = refl
write_exchange start size img p (b ∷ s) q t h =
    write_exchange start size (set img (phys_pos start size p) b) (suc p) s q t
    (λ i j k l e. h (suc i) j (suc-le-suc k) l (rw (add-suc, ← suc-add p i) e))
    ∙ ap (λ (m : List ℕ). ring_write start size m (suc p) s)
    (write_set start size img q t (phys_pos start size p) b (λ i l e. h 0 i (omega arith) l (rw add-zero (omega arith))))

pub write_commute : (start size : ℕ) (img : List ℕ) (p : ℕ) (s : List ℕ) (q d : ℕ) (t : List ℕ)
    → q % size ≡ (p + d) % size → length s ≤ d → d + length t ≤ size
    → ring_write start size (ring_write start size img p s) q t ≡ ring_write start size (ring_write start size img q t) p s
write_commute start size img p s q d t e h l =
    write_exchange start size img p s q t (λ i j k m. apart size p q d (length s) (length t) i j e h l k m)

-- what is read, written back to its place, changes nothing
set_back : (l : List ℕ) (i : ℕ) → set l i (get_or l i 0) ≡ l
set_back [] i = refl
set_back (x ∷ l) zero = refl
set_back (x ∷ l) (suc i) = ap (λ (t : List ℕ). x ∷ t) (set_back l i)

pub write_back : (start size : ℕ) (img : List ℕ) (p n : ℕ) → ring_write start size img p (ring_read start size img p n) ≡ img
unfolding ring_read ring_write
write_back start size img p zero = refl
write_back start size img p (suc n) =
    ap (λ (l : List ℕ). ring_write start size l (suc p) (ring_read start size img (suc p) n)) (set_back img (phys_pos start size p))
    ∙ write_back start size img (suc p) n
