-- The laws of segments: an interval goes on at the ring's start where a segment of it ends at the ring's end. So a read or a write
-- falls into parts of the image, of which there are at most two where it is no longer than the ring. Assumes nothing.
use Rattle.refusal.proofs.Laws.{refused, granted}
use mathlib.Core.Path.{◌≡◌, refl, sym, ap, ◌∙◌}
use mathlib.Core.Logic.{◌⊎◌, inl, inr, ⊎_elim}
use mathlib.Core.List.{List, [], ◌∷◌, ◌++◌}
use Prim.Native.Nat.{ℕ, ◌+◌, ◌-◌, ◌%◌, ◌≤◌, ◌<◌, min}
use native.Mathlib.Nat.{add-zero, zero-add, sub-zero, add_assoc, mod-lt, mod-add-mod, add-mod_right, mod_self, zero-mod}
use native.Mathlib.Decide.{dec_le, dec_lt}
use native.Mathlib.Omega.{arith}
use lib.ListN.{length, get_or, take, drop, length-drop, length-append, take-append-drop, replicate, length-replicate, get_or-replicate, replicate-append-replicate}
use lib.Seq.{drop-drop, ext_get_or, get_or-take, get_or-drop, length-sets, length-take-le}
use Rattle.wire.specs.Wire.{bytes_at, put_at}
use Rattle.wire.proofs.Numbers.{cut_mid, bytes_at_part}
use Rattle.wire.proofs.Stores.{put_at-append, put_at-before, put_at-within}
use borrow.Author.Tests.{leb-true}
use Rattle.ring.specs.Ring.{ring_read, ring_write, ring_erase, ring_distance, phys_pos, front_len, wrapped_len, parts_of, ring_parts, front_bytes, wrapped_bytes}
use Rattle.ring.specs.declared.parts.Parts.{Parts}
use Rattle.ring.proofs.Places.{there_ring, turn_low, distance_lt, distance_there}
use Rattle.ring.proofs.Reading.{length_read, get_d_read, read_same, read_mod, read_none, read_append, read_straight}
use Rattle.ring.proofs.Writing.{write_append, write_same, write_mod, write_none, write_straight, write_long, write_ext, get_d_write}
use Rattle.std.specs.Prelude.{Ok}

-- of n bytes from `at` on, k lie before the ring's end: all, or as many as there are
pub record Segment (size at n k : ℕ) : Type 0 where
  pub inside : at + k ≤ size
  pub within : k ≤ n
  pub ends : (at + k ≡ size) ⊎ (k ≡ n)

pub segment : (size at n : ℕ) → at ≤ size → Segment size at n (min n (size - at))
segment size at n h = record { inside = omega arith; within = omega arith; ends = ends (dec_le n (size - at)) }
  where
    ends : Dec (n ≤ size - at) → (at + min n (size - at) ≡ size) ⊎ (min n (size - at) ≡ n)
    ends (yes y) = inr (omega (arith, y))
    ends (no x) = inl (omega (arith, x))

-- there is a byte before the ring's end
pub segment_some : (size at n k : ℕ) → Segment size at n k → at < size → 0 < n → 0 < k
segment_some size at n k g h l = ⊎_elim (λ e. omega arith) (λ e. omega arith) g.ends

-- and how many there are, in numbers
pub segment_min : (size p n k : ℕ) → Segment size (p % size) n k → k ≡ front_len size p n
segment_min size p n k g = ⊎_elim (λ e. omega arith) (λ e. omega arith) g.ends

-- the place where a segment ends is the ring's start, but for the last
end_is_start : (size at k : ℕ) → at + k ≡ size → (at + k) % size ≡ 0 % size
end_is_start size at k e = rw e (mod_self size ∙ sym (zero-mod size))

-- ---- reads

-- a segment, and the rest from the ring's start on
pub read_on : (start size : ℕ) (img : List ℕ) (at n k : ℕ) → Segment size at n k
    → ring_read start size img at n ≡ bytes_at k img (start + at) ++ ring_read start size img 0 (n - k)
read_on start size img at n k g =
    let all : n ≡ k + (n - k) = omega arith in
    ap (λ (m : ℕ). ring_read start size img at m) all
    ∙ read_append start size img at k (n - k)
    ∙ ap (λ (l : List ℕ). l ++ ring_read start size img (at + k) (n - k)) (read_straight start size img at k g.inside)
    ∙ ap (λ (l : List ℕ). bytes_at k img (start + at) ++ l)
    (⊎_elim
    (λ e. read_same start size img (at + k) 0 (n - k) (end_is_start size at k e))
    (λ e. let none : n - k ≡ 0 = omega arith in rw none (read_none start size img (at + k) 0))
    g.ends)

-- the two parts of an interval that is no longer than the ring, and their bytes
pub read_parts : (start size : ℕ) (img : List ℕ) (p n : ℕ) → 0 < size → start + size ≤ length img → n ≤ size
    → ring_read start size img p n
    ≡ take (front_len size p n) (drop (phys_pos start size p) img) ++ take (wrapped_len size p n) (drop start img)
read_parts start size img p n h f l =
    let at : ℕ = p % size in
    let k : ℕ = front_len size p n in
    let below : at < size = mod-lt p h in
    let g : Segment size at n k = segment size at n (omega arith) in
    sym (read_mod start size img p n)
    ∙ read_on start size img at n k g
    ∙ rw (read_straight start size img 0 (n - k) (omega arith), add-zero start)
    (rw (bytes_at_part k img (start + at) (omega (arith, g.inside)), bytes_at_part (n - k) img start (omega arith)))

-- where the parts are granted they lie in the image
pub record Within (start len : ℕ) (parts : Parts) : Type 0 where
  pub front : parts.offset + parts.front_len ≤ len
  pub wrapped : start + parts.wrapped_len ≤ len

pub split_within : (start len file p n : ℕ) (parts : Parts) → ring_parts start len file p n ≡ Ok parts → Within start len parts
split_within start len file p n parts e =
    let a = granted _ _ _ _ refused e in
    let b = granted _ _ _ _ refused a.1 in
    let there = there_ring start len file a.0 in
    let fits = leb-true n (file - start) b.0 in
    let r = mod-lt p {m = file - start} (omega arith) in
    let same : parts_of start (file - start) p n ≡ parts = cc in
    rw (← same) (record { front = omega arith; wrapped = omega arith })

-- and their bytes are those of the interval
pub split_joins : (start : ℕ) (img : List ℕ) (file p n : ℕ) (parts : Parts) → ring_parts start (length img) file p n ≡ Ok parts
    → front_bytes img (Ok parts) ++ wrapped_bytes start img (Ok parts) ≡ ring_read start (file - start) img p n
split_joins start img file p n parts e =
    let a = granted _ _ _ _ refused e in
    let b = granted _ _ _ _ refused a.1 in
    let there = there_ring start (length img) file a.0 in
    let fits = leb-true n (file - start) b.0 in
    let same : parts_of start (file - start) p n ≡ parts = cc in
    rw (← same) (sym (read_parts start (file - start) img p n (omega arith) (omega arith) fits))

-- k bytes stored in out from `done` on, and then the rest: the first part of a read, `image[from..from + k]`
read_stored : (start size : ℕ) (img : List ℕ) (at : ℕ) (out : List ℕ) (done n k : ℕ) → start + size ≤ length img → Segment size at n k
    → put_at (put_at out done (take k (drop (start + at) img))) (done + k) (ring_read start size img 0 (n - k))
    ≡ put_at out done (ring_read start size img at n)
read_stored start size img at out done n k f g =
    let part : List ℕ = take k (drop (start + at) img) in
    let same : bytes_at k img (start + at) ≡ part = bytes_at_part k img (start + at) (omega (arith, g.inside)) in
    let lp : length part ≡ k = length-take-le k (drop (start + at) img) (rw length-drop (omega (arith, g.inside))) in
    sym
    (ap (put_at out done) (read_on start size img at n k g)
    ∙ rw same (put_at-append out done part (ring_read start size img 0 (n - k)) ∙ rw lp))

pub read_first : (start size : ℕ) (img : List ℕ) (at : ℕ) (out : List ℕ) (n k : ℕ) → start + size ≤ length img → Segment size at n k
    → put_at (put_at out 0 (take (start + at + k - (start + at)) (drop (start + at) img))) k (ring_read start size img 0 (n - k))
    ≡ put_at out 0 (ring_read start size img at n)
read_first start size img at out n k f g = rw (cut_mid (start + at) k img) (rw zero-add at (read_stored start size img at out 0 n k f g))

-- and a later one, `image[start..start + k]`, where `done` of n bytes are read
pub read_next : (start size : ℕ) (img out : List ℕ) (done n k : ℕ) → start + size ≤ length img → Segment size 0 (n - done) k
    → put_at (put_at out done (take (start + k - start) (drop start img))) (done + k) (ring_read start size img 0 (n - (done + k)))
    ≡ put_at out done (ring_read start size img 0 (n - done))
read_next start size img out done n k f g =
    let left : n - (done + k) ≡ n - done - k = omega arith in
    let stored = rw (add-zero start) at (read_stored start size img 0 out done (n - done) k f g) in
    rw (cut_mid start k img, left) stored

-- the first `done` bytes of out are the ring's from the place p on, and the next one is the ring's first
pub record Filled (ring : List ℕ) (p : ℕ) (out : List ℕ) (done : ℕ) : Type 0 where
  pub within : done ≤ length out
  pub turned : done < length out → (p + done) % length ring ≡ 0
  pub same : (k : ℕ) → k < done → get_or out k 0 ≡ get_or ring ((p + k) % length ring) 0

-- what is read as far as the ring's end
pub filled_first : (ring : List ℕ) (p at done : ℕ) (out : List ℕ) → 0 < length ring → at ≡ p % length ring → done ≡ min (length out) (length ring - at)
    → Filled ring p (put_at out 0 (take done (drop at ring))) done
filled_first ring p at done out h e m = record { within = omega (arith, n); turned = turned; same = same }
  where
    n : length (put_at out 0 (take done (drop at ring))) ≡ length out
    n = length-sets out 0 (take done (drop at ring))

    low : at < length ring
    low = rw e (mod-lt p h)

    place : (k : ℕ) → (p + k) % length ring ≡ (at + k) % length ring
    place k = rw e (sym (mod-add-mod p (length ring) k))

    turned : done < length (put_at out 0 (take done (drop at ring))) → (p + done) % length ring ≡ 0
    turned l = let all : at + done ≡ length ring = omega (arith, low, n) in place done ∙ rw all (mod_self (length ring))

    same : (k : ℕ) → k < done → get_or (put_at out 0 (take done (drop at ring))) k 0 ≡ get_or ring ((p + k) % length ring) 0
    same k l =
        let long : length (take done (drop at ring)) ≡ done = length-take-le done (drop at ring) (rw length-drop (omega arith)) in
        rw zero-add at (put_at-within out 0 (take done (drop at ring)) k (rw long l) (omega arith))
        ∙ get_or-take done (drop at ring) k 0 l
        ∙ get_or-drop at ring k 0
        ∙ rw (place k, turn_low (length ring) (at + k) (omega arith))

-- and a turn more, or what there is room for
pub filled_next : (ring : List ℕ) (p done turn : ℕ) (out : List ℕ) → Filled ring p out done → done < length out → turn ≡ min (length ring) (length out - done)
    → Filled ring p (put_at out done (take turn ring)) (done + turn)
filled_next ring p done turn out f h m = record { within = omega (arith, n); turned = turned; same = λ k l. same k l (dec_lt k done) }
  where
    n : length (put_at out done (take turn ring)) ≡ length out
    n = length-sets out done (take turn ring)

    turned : done + turn < length (put_at out done (take turn ring)) → (p + (done + turn)) % length ring ≡ 0
    turned l = let all : p + (done + turn) ≡ p + done + length ring = omega (arith, n) in rw all (add-mod_right (p + done) (length ring) ∙ f.turned h)

    same : (k : ℕ) → k < done + turn → Dec (k < done) → get_or (put_at out done (take turn ring)) k 0 ≡ get_or ring ((p + k) % length ring) 0
    same k l (yes y) = put_at-before out done (take turn ring) k y ∙ f.same k y
    same k l (no x) =
        let j : ℕ = k - done in
        let at : done + j ≡ k = omega (arith, x) in
        let low : j < turn = omega (arith, x) in
        let long : length (take turn ring) ≡ turn = length-take-le turn ring (omega arith) in
        let place : (p + k) % length ring ≡ j =
        ap (λ (y : ℕ). (p + y) % length ring) (sym at)
        ∙ ap (λ (y : ℕ). y % length ring) (sym (add_assoc p done j))
        ∙ sym (mod-add-mod (p + done) (length ring) j)
        ∙ rw (f.turned h, zero-add) (turn_low (length ring) j (omega arith)) in
        rw place (rw at at (put_at-within out done (take turn ring) j (rw long low) (omega arith)) ∙ get_or-take turn ring j 0 low)

-- where all is filled it is the read
pub filled_all : (ring : List ℕ) (p done : ℕ) (out : List ℕ) → Filled ring p out done → length out ≤ done → out ≡ ring_read 0 (length ring) ring p (length out)
filled_all ring p done out f h =
    ext_get_or 0 out (ring_read 0 (length ring) ring p (length out))
    (sym (length_read 0 (length ring) ring p (length out)))
    (λ i b. f.same i (omega arith) ∙ sym (rw zero-add at (get_d_read 0 (length ring) ring p (length out) i b)))

-- ---- writes

-- a segment, and the rest from the ring's start on
pub write_on : (start size : ℕ) (img : List ℕ) (at : ℕ) (s t : List ℕ) → Segment size at (length s + length t) (length s)
    → ring_write start size img at (s ++ t) ≡ ring_write start size (put_at img (start + at) s) 0 t
write_on start size img at s t g =
    let one : List ℕ = ring_write start size img at s in
    write_append start size img at s t
    ∙ ⊎_elim
    (λ e. write_same start size one (at + length s) 0 t (end_is_start size at (length s) e))
    (λ e. last (length t) t refl (omega arith))
    g.ends
    ∙ ap (λ (l : List ℕ). ring_write start size l 0 t) (write_straight start size img at s g.inside)
  where
    last : (n : ℕ) (t : List ℕ) → n ≡ length t → n ≡ 0
        → ring_write start size (ring_write start size img at s) (at + length s) t ≡ ring_write start size (ring_write start size img at s) 0 t
    last n [] e z = write_none start size _ (at + length s) ∙ sym (write_none start size _ 0)
    last n (b ∷ t) e z = absurd (omega arith)

-- the first part of a write, `s[0..k]`, and then the rest
write_stored : (start size : ℕ) (img : List ℕ) (at : ℕ) (s : List ℕ) (k : ℕ) → Segment size at (length s) k
    → ring_write start size (put_at img (start + at) (take k s)) 0 (drop k s) ≡ ring_write start size img at s
write_stored start size img at s k g =
    let lt : length (take k s) ≡ k = length-take-le k s g.within in
    let ld : length (drop k s) ≡ length s - k = length-drop k s in
    let all : length (take k s) + length (drop k s) ≡ length s = omega (arith, g.within) in
    sym (write_on start size img at (take k s) (drop k s) (rw (all, lt) g)) ∙ ap (ring_write start size img at) (take-append-drop k s)

pub write_first : (start size : ℕ) (img : List ℕ) (at : ℕ) (s : List ℕ) (k : ℕ) → Segment size at (length s) k
    → ring_write start size (put_at img (start + at) (take (k - 0) (drop 0 s))) 0 (drop k s) ≡ ring_write start size img at s
write_first start size img at s k g = rw (sub-zero k) (write_stored start size img at s k g)

-- and a later one, `s[done..done + k]`
pub write_next : (start size : ℕ) (img s : List ℕ) (done k : ℕ) → Segment size 0 (length s - done) k
    → ring_write start size (put_at img start (take (done + k - done) (drop done s))) 0 (drop (done + k) s) ≡ ring_write start size img 0 (drop done s)
write_next start size img s done k g =
    let stored = rw (add-zero start) at (write_stored start size img 0 (drop done s) k (rw (length-drop done s) g)) in
    rw (cut_mid done k s, ← drop-drop k done s) stored

-- ---- zeros

zeros_split : (k n : ℕ) → k ≤ n → replicate n 0 ≡ replicate {A = ℕ} k 0 ++ replicate (n - k) 0
zeros_split k n h = let all : n ≡ k + (n - k) = omega arith in ap (λ (m : ℕ). replicate m 0) all ∙ sym (replicate-append-replicate k (n - k) 0)

-- zeros once round the ring are zeros from anywhere
zeros_round : (start size : ℕ) (img : List ℕ) (p q : ℕ) → 0 < size → start + size ≤ length img
    → ring_erase start size img p size ≡ ring_erase start size img q size
zeros_round start size img p q h f =
    write_ext start size img img p q 0 (replicate size 0) (replicate size 0) h refl refl refl (turn p ∙ sym (turn q))
  where
    zero_at : (r i : ℕ) → i < size → get_or (ring_erase start size img r size) (start + i % size) 0 ≡ 0
    zero_at r i l =
        let d : ℕ = ring_distance size r i in
        let b : d < size = distance_lt size r i h in
        let n : length (replicate {A = ℕ} size 0) ≡ size = length-replicate size 0 in
        ap (λ (x : ℕ). get_or (ring_erase start size img r size) (start + x) 0) (sym (distance_there size r i h))
        ∙ get_d_write start size img r (replicate size 0) d f (omega arith) (omega arith)
        ∙ get_or-replicate size d 0 0 b

    turn : (r : ℕ) → ring_read start size (ring_erase start size img r size) 0 size ≡ replicate size 0
    turn r =
        ext_get_or 0 (ring_read start size (ring_erase start size img r size) 0 size) (replicate size 0)
        (length_read start size _ 0 size ∙ sym (length-replicate size 0))
        (λ i b.
        let l : i < size = omega (arith, length_read start size (ring_erase start size img r size) 0 size) in
        get_d_read start size (ring_erase start size img r size) 0 size i l ∙ rw zero-add (zero_at r i l) ∙ sym (get_or-replicate size i 0 0 l))

-- once round the ring all is zero, and more zeros change nothing
pub erase_round : (start size : ℕ) (img : List ℕ) (p n : ℕ) → 0 < size → start + size ≤ length img → size ≤ n
    → ring_erase start size img p n ≡ ring_erase start size img p size
erase_round start size img p n h f l =
    let a : ℕ = n - size in
    let all : n ≡ a + size = omega arith in
    let ls : length (replicate {A = ℕ} size 0) ≡ size = length-replicate size 0 in
    ap (λ (m : ℕ). ring_erase start size img p m) all
    ∙ ap (λ (s : List ℕ). ring_write start size img p s) (sym (replicate-append-replicate a size 0))
    ∙ write_long start size img p (replicate a 0) (replicate size 0) h f ls
    ∙ zeros_round start size img (p + length (replicate {A = ℕ} a 0)) p h f

-- so an erasure is at most two stores of zeros
pub erase_parts : (start size : ℕ) (img : List ℕ) (at n once k : ℕ) → at < size → start + size ≤ length img
    → Segment size 0 n once → Segment size at once k
    → put_at (put_at img (start + at) (replicate k 0)) start (replicate (once - k) 0) ≡ ring_erase start size img at n
erase_parts start size img at n once k h f o g =
    let s : List ℕ = replicate k 0 in
    let t : List ℕ = replicate (once - k) 0 in
    let ls : length s ≡ k = length-replicate k 0 in
    let lt : length t ≡ once - k = length-replicate (once - k) 0 in
    let all : length s + length t ≡ once = omega arith in
    sym
    (enough o.ends
    ∙ ap (λ (l : List ℕ). ring_write start size img at l) (zeros_split k once g.within)
    ∙ write_on start size img at s t (rw (all, ls) g)
    ∙ write_straight start size (put_at img (start + at) s) 0 t (omega arith)
    ∙ rw (add-zero start))
  where
    enough : (0 + once ≡ size) ⊎ (once ≡ n) → ring_erase start size img at n ≡ ring_erase start size img at once
    enough (inl e) = let once-round : once ≡ size = omega arith in rw once-round (erase_round start size img at n (omega arith) f (omega arith))
    enough (inr e) = rw e

-- ---- the ring lent alone, whose data start at 0, and any place

-- the first part of a write, and then the rest
pub alone_first : (ring : List ℕ) (p at : ℕ) (s : List ℕ) → 0 < length ring → at ≡ p % length ring
    → let k : ℕ = min (length s) (length ring - at) in
    ring_write 0 (length ring) (put_at ring at (take k s)) 0 (drop k s) ≡ ring_write 0 (length ring) ring p s
alone_first ring p at s h e =
    let low : at < length ring = rw e (mod-lt p h) in
    rw zero-add at (write_stored 0 (length ring) ring at s _ (segment (length ring) at (length s) (omega arith)))
    ∙ rw e (write_mod 0 (length ring) ring p s)

-- and a later one, which is at most a turn, and the last if it is less
pub alone_next : (size : ℕ) (ring s t all : List ℕ) → all ≡ s ++ t → length s ≡ min size (length all)
    → ring_write 0 size (put_at ring 0 s) 0 t ≡ ring_write 0 size ring 0 all
alone_next size ring s t all e f =
    let k : min (length s + length t) (size - 0) ≡ length s = omega (arith, ap length e, length-append s t) in
    sym (write_on 0 size ring 0 s t (rw k at (segment size 0 (length s + length t) (omega arith)))) ∙ rw e

-- the two stores of an erasure
pub alone_erased : (ring : List ℕ) (p at n : ℕ) → 0 < length ring → at ≡ p % length ring
    → let once : ℕ = min n (length ring) in
    let k : ℕ = min once (length ring - at) in
    put_at (put_at ring at (replicate k 0)) 0 (replicate (once - k) 0) ≡ ring_erase 0 (length ring) ring p n
alone_erased ring p at n h e =
    let once : ℕ = min n (length ring) in
    let k : ℕ = min once (length ring - at) in
    let low : at < length ring = rw e (mod-lt p h) in
    let o : Segment (length ring) 0 n once = rw sub-zero at (segment (length ring) 0 n (omega arith)) in
    rw zero-add at (erase_parts 0 (length ring) ring at n once k low (omega arith) o (segment (length ring) at once (omega arith)))
    ∙ rw e (write_mod 0 (length ring) ring p (replicate n 0))
