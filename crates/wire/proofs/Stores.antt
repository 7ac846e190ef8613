-- The laws of stores: what is stored is what is read back, and all else stays. Assumes nothing.
use mathlib.Core.Path.{◌≡◌, refl, sym, ap, ◌∙◌}
use mathlib.Core.Logic.{inl, inr}
use mathlib.Core.List.{List, [], ◌∷◌, ◌++◌, append_assoc, append-nil}
use Prim.Native.Nat.{ℕ, zero, suc, ◌+◌, ◌-◌, ◌≤◌, ◌<◌, min}
use native.Mathlib.Nat.{add-zero, zero-add, suc-add, add-suc}
use native.Mathlib.Numerals.{add-one}
use native.Mathlib.Omega.{arith}
use lib.ListN.{length, get_or-eq_default, get_or, take, drop, set, length-set, length-drop, length-append, take-append-drop, drop_of_length-le, replicate, length-replicate}
use lib.Seq.{sets-eq, drop-cons, drop-drop, length-take-le, set_out, get_or-set_same, get_or-set_other, take_all, take-set-le, drop-set-add, take-append_seam, drop-append_seam, drop-append-add}
use borrow.Rule.Slice.PartMut.{mid_of, post_of, put_mid}
use Rattle.std.proofs.lemmas.Bool.{cases_lt}
use Rattle.std.proofs.lemmas.List.{take-replicate}
use Rattle.wire.proofs.Numbers.{bytes_at_part}
use Rattle.wire.specs.Wire.{Bytes, bytes_at, put_at}

-- stores past the end go nowhere
pub put_at_out : (out : List ℕ) (at : ℕ) (src : List ℕ) → length out ≤ at → put_at out at src ≡ out
put_at_out out at [] h = refl
put_at_out out at (b ∷ src) h = rw (set_out out at b h) (put_at_out out (suc at) src (omega arith))

-- stores one after the other are the store of the joined bytes
pub put_at-append : (out : List ℕ) (at : ℕ) (a b : List ℕ) → put_at out at (a ++ b) ≡ put_at (put_at out at a) (at + length a) b
put_at-append out at [] b = rw add-zero
put_at-append out at (x ∷ a) b = rw (put_at-append (set out at x) (suc at) a b, add-suc, suc-add)

-- a byte outside the stored ones stays
pub put_at-before : (out : List ℕ) (at : ℕ) (src : List ℕ) (i : ℕ) → i < at → get_or (put_at out at src) i 0 ≡ get_or out i 0
put_at-before out at [] i h = refl
put_at-before out at (b ∷ src) i h =
    put_at-before (set out at b) (suc at) src i (omega arith) ∙ get_or-set_other out at i b 0 (λ e. omega arith)

pub put_at-after : (out : List ℕ) (at : ℕ) (src : List ℕ) (i : ℕ) → at + length src ≤ i → get_or (put_at out at src) i 0 ≡ get_or out i 0
put_at-after out at [] i h = refl
put_at-after out at (b ∷ src) i h =
    put_at-after (set out at b) (suc at) src i (omega arith) ∙ get_or-set_other out at i b 0 (λ e. omega arith)

-- a stored byte is there
pub put_at-within : (out : List ℕ) (at : ℕ) (src : List ℕ) (i : ℕ) → i < length src → at + i < length out → get_or (put_at out at src) (at + i) 0 ≡ get_or src i 0
put_at-within out at [] i h l = absurd (omega arith)
put_at-within out at (b ∷ src) zero h l =
    let e : at < length out = omega arith in
    rw add-zero (put_at-before (set out at b) (suc at) src at (omega arith) ∙ get_or-set_same out at b 0 e)
put_at-within out at (b ∷ src) (suc i) h l =
    let e : at + suc i ≡ suc at + i = omega arith in
    rw e (put_at-within (set out at b) (suc at) src i (omega arith) (rw length-set (omega arith)))

-- bytes stored among bytes are bytes
set-bytes : (l : List ℕ) (j b : ℕ) → Bytes l → b < 256 → Bytes (set l j b)
set-bytes [] j b hl hb i = hl i
set-bytes (x ∷ l) zero b hl hb zero = hb
set-bytes (x ∷ l) zero b hl hb (suc i) = hl (suc i)
set-bytes (x ∷ l) (suc j) b hl hb zero = hl 0
set-bytes (x ∷ l) (suc j) b hl hb (suc i) = set-bytes l j b (λ k. hl (suc k)) hb i

pub put_at-bytes : (out : List ℕ) (at : ℕ) (src : List ℕ) → Bytes out → Bytes src → Bytes (put_at out at src)
put_at-bytes out at [] ho hs = ho
put_at-bytes out at (b ∷ src) ho hs = put_at-bytes (set out at b) (suc at) src (set-bytes out at b ho (hs 0)) (λ i. hs (suc i))

-- what is stored is read back
pub bytes_at-put_at : (out : List ℕ) (at : ℕ) (src : List ℕ) → at + length src ≤ length out → bytes_at (length src) (put_at out at src) at ≡ src
bytes_at-put_at out at [] h = refl
bytes_at-put_at out at (b ∷ src) h =
    let l : at < length out = omega arith in
    let first : get_or (put_at (set out at b) (suc at) src) at 0 ≡ b = put_at-before (set out at b) (suc at) src at (omega arith) ∙ get_or-set_same out at b 0 l in
    rw (first, add-one) (ap (λ (r : List ℕ). b ∷ r) (bytes_at-put_at (set out at b) (suc at) src (rw length-set (omega arith))))

-- a store in the part from `from` on is a store in the whole
pub put_at_part : (out : List ℕ) (from at : ℕ) (src : List ℕ) → take from out ++ put_at (drop from out) at src ≡ put_at out (from + at) src
put_at_part out from at [] = take-append-drop from out
put_at_part out from at (b ∷ src) =
    let whole : List ℕ = set out (from + at) b in
    let front : take from whole ≡ take from out = take-set-le from out (from + at) b (omega arith) in
    let back : drop from whole ≡ set (drop from out) at b = drop-set-add from out at b in
    let e : from + suc at ≡ suc (from + at) = omega arith in
    rw (← front, ← back, ← e) (put_at_part whole from (suc at) src)

-- a store of just as many bytes as there are leaves those bytes
pub put_at_all : (out src : List ℕ) → length src ≡ length out → put_at out 0 src ≡ src
put_at_all out src e =
    sets-eq src out 0 (omega arith)
    ∙ rw (zero-add, drop_of_length-le out {i = length src} (omega arith)) (append-nil src)

-- bytes that are stored behind a front take the place of as many others. So a layout is built, field after field
pub put_at-behind : {s t : List ℕ} (front old rest src : List ℕ) → length src ≡ length old →
    s ≡ front ++ (old ++ rest) → t ≡ put_at s (length front) src → t ≡ front ++ src ++ rest
put_at-behind front old rest src e hs ht =
    let whole : List ℕ = front ++ (old ++ rest) in
    let n : length whole ≡ length front + (length old + length rest) = rw (length-append front (old ++ rest), length-append old rest) in
    let back : drop (length front + length src) whole ≡ rest = drop-append-add front (old ++ rest) (length src) ∙ rw e (drop-append_seam old rest) in
    ht
    ∙ ap (λ (l : List ℕ). put_at l (length front) src) hs
    ∙ sets-eq src whole (length front) (omega arith)
    ∙ rw (take-append_seam front (old ++ rest), back)

-- what a part that is lent up to the end comes back with is a store in the whole
pub put_at_lent : (out : List ℕ) (at : ℕ) (src : List ℕ) →
    put_mid at (length out - at) out (put_at (mid_of at (length out - at) out) 0 src) ≡ put_at out at src
put_at_lent out at src =
    let all : mid_of at (length out - at) out ≡ drop at out = take_all (length out - at) (drop at out) (rw length-drop (omega arith)) in
    let none : post_of at (length out - at) out ≡ [] = drop_of_length-le (drop at out) {i = length out - at} (rw length-drop (omega arith)) in
    rw (all, none) (ap (λ (l : List ℕ). take at out ++ l) (append-nil (put_at (drop at out) 0 src)) ∙ put_at_part out at 0 src ∙ rw add-zero)

-- bytes that take the place of as many others are a store in the whole
pub put_at_mid : (out : List ℕ) (at : ℕ) (src : List ℕ) → at + length src ≤ length out → put_mid at (length src) out src ≡ put_at out at src
put_at_mid out at src h =
    ap (λ (l : List ℕ). take at out ++ (src ++ l)) (drop-drop (length src) at out)
    ∙ sym (sets-eq src out at h ∙ append_assoc (take at out) src (drop (at + length src) out))

-- a store behind the first element leaves that
pub put_at-cons : (x : ℕ) (out : List ℕ) (at : ℕ) (src : List ℕ) → put_at (x ∷ out) (suc at) src ≡ x ∷ put_at out at src
put_at-cons x out at [] = refl
put_at-cons x out at (b ∷ src) = put_at-cons x (set out at b) (suc at) src

-- bytes for which there is no room need not be stored
put_at_room : (out : List ℕ) (at k : ℕ) (src : List ℕ) → k ≡ min (length src) (length out - at) → put_at out at (take k src) ≡ put_at out at src
put_at_room out at zero [] e = refl
put_at_room out at (suc k) [] e = refl
put_at_room out at zero (b ∷ src) e = sym (put_at_out out at (b ∷ src) (omega arith))
put_at_room out at (suc k) (b ∷ src) e = put_at_room (set out at b) (suc at) k src (omega (arith, length-set out at b))

-- the first bytes take the place of as many: all that there are, or all that there is room for. In this form the check finds a store of
-- nothing too
pub put_at_front : (out src : List ℕ) → put_at out 0 src ≡ take (min (length out) (length src)) src ++ drop (min (length out) (length src)) out
put_at_front out src =
    let n : ℕ = min (length out) (length src) in
    let count : length (take n src) ≡ n = length-take-le n src (omega arith) in
    sym (rw (count, zero-add) at (sym (sets-eq (take n src) out 0 (omega arith))) ∙ put_at_room out 0 n src (omega arith))

-- what a part of k bytes that is lent comes back with, once it is filled, is a store of n in the whole, where k are enough
pub put_at_filled : (out : List ℕ) (at k n v : ℕ) → at + k ≤ length out → k ≡ min n (length out - at) →
    put_mid at k out (replicate (length (mid_of at k out)) v) ≡ put_at out at (replicate n v)
put_at_filled out at k n v w e =
    let size : length (mid_of at k out) ≡ k = length-take-le k (drop at out) (rw length-drop (omega arith)) in
    let all : length (replicate n v) ≡ n = length-replicate n v in
    let count : length (replicate k v) ≡ k = length-replicate k v in
    let front : take k (replicate n v) ≡ replicate k v = take-replicate k n v (omega arith) in
    rw size (rw count at (put_at_mid out at (replicate k v) (omega arith)) ∙ rw front at (put_at_room out at k (replicate n v) (omega arith)))

-- past the end there are zeros
bytes_at_past : (w : ℕ) (s : List ℕ) (at : ℕ) → length s ≤ at → bytes_at w s at ≡ replicate w 0
bytes_at_past zero s at h = refl
bytes_at_past (suc w) s at h = rw (get_or-eq_default s 0 {n = at} h, bytes_at_past w s (at + 1) (omega arith))

-- so the bytes at a place are zeros with the bytes stored that there are
pub bytes_at_padded : (w : ℕ) (s : List ℕ) (at : ℕ) → put_at (replicate w 0) 0 (take w (drop at s)) ≡ bytes_at w s at
bytes_at_padded zero s at = refl
bytes_at_padded (suc w) s at = elim (cases_lt at (length s)) [
  | inl h ↦
      let first : ℕ = get_or s at 0 in
      rw (drop-cons s at 0, add-one)
      (put_at-cons first (replicate w 0) 0 (take w (drop (suc at) s)) ∙ ap (λ (l : List ℕ). first ∷ l) (bytes_at_padded w s (suc at)))
  | inr h ↦ rw (drop_of_length-le s {i = at} h) (sym (bytes_at_past (suc w) s at h))
]

-- and where all are there, they are the first of the rest
pub bytes_at_first : (w : ℕ) (s : List ℕ) (at : ℕ) → w ≤ length (take (length s - at) (drop at s)) → at < length s → take w (take (length s - at) (drop at s)) ≡ bytes_at w s at
bytes_at_first w s at h l =
    let all : take (length s - at) (drop at s) ≡ drop at s = take_all (length s - at) (drop at s) (rw length-drop (omega arith)) in
    let enough : w ≤ length s - at = rw (all, length-drop) at h in
    rw all (sym (bytes_at_part w s at (omega arith)))
