-- The laws of a relocation: what it leaves as it was, and that a longer ring then reads on as the shorter one did. Assumes nothing.
use mathlib.Core.Path.{◌≡◌, sym, ap, ◌∙◌}
use mathlib.Core.List.{List, ◌++◌}
use Prim.Native.Nat.{ℕ, ◌+◌, ◌-◌, ◌%◌, ◌≤◌, ◌<◌}
use native.Mathlib.Nat.{add-zero}
use native.Mathlib.Decide.{dec_le}
use native.Mathlib.Omega.{arith}
use lib.ListN.{length, get_or, take, drop}
use lib.Seq.{length-sets, length-take-le}
use Rattle.std.proofs.lemmas.List.{get_or-take}
use Rattle.wire.specs.Wire.{Bytes, bytes_at, put_at}
use Rattle.wire.proofs.Numbers.{cut_mid, bytes_at_part, length-bytes_at, bytes-bytes_at, bytes_at_same, bytes_at-append, get_d_bytes_at}
use Rattle.wire.proofs.Stores.{put_at_part, put_at-append, put_at-before, put_at-after, put_at-within, put_at-bytes}
use Rattle.ring.specs.Ring.{ring_read, relocated}
use Rattle.ring.proofs.Places.{turn_low, turn_high}
use Rattle.ring.proofs.Reading.{read_ext}

pub length-relocated : (start : ℕ) (img : List ℕ) (old c : ℕ) → length (relocated start img old c) ≡ length img
length-relocated start img old c = length-sets img old (bytes_at c img start)

pub bytes-relocated : (start : ℕ) (img : List ℕ) (old c : ℕ) → Bytes img → Bytes (relocated start img old c)
bytes-relocated start img old c h = put_at-bytes img old (bytes_at c img start) h (bytes-bytes_at c img start h)

-- what lies before and behind the copy is as it was
pub relocated-before : (start : ℕ) (img : List ℕ) (old c j : ℕ) → j < old → get_or (relocated start img old c) j 0 ≡ get_or img j 0
relocated-before start img old c j h = put_at-before img old (bytes_at c img start) j h

pub relocated-after : (start : ℕ) (img : List ℕ) (old c j : ℕ) → old + c ≤ j → get_or (relocated start img old c) j 0 ≡ get_or img j 0
relocated-after start img old c j h = put_at-after img old (bytes_at c img start) j (rw length-bytes_at h)

-- byte j of the copy is byte j of the ring
pub relocated-within : (start : ℕ) (img : List ℕ) (old c j : ℕ) → j < c → old + c ≤ length img
    → get_or (relocated start img old c) (old + j) 0 ≡ get_or img (start + j) 0
relocated-within start img old c j h f =
    put_at-within img old (bytes_at c img start) j (rw length-bytes_at h) (omega arith) ∙ get_d_bytes_at c img start j h

-- where the c bytes at the ring's start lie past its end too, a ring that holds both reads on as the shorter one did
pub read_relocated : (start size : ℕ) (img : List ℕ) (c new p n : ℕ) → c ≤ size → size + c ≤ new → start + size + c ≤ length img → p + n ≤ size + c
    → ring_read start new (relocated start img (start + size) c) p n ≡ ring_read start size img p n
read_relocated start size img c new p n h k f l =
    read_ext start new start size (relocated start img (start + size) c) img p p n
    (λ i b. rw (turn_low new (p + i) (omega arith)) (go (p + i) (omega arith) (dec_le size (p + i))))
  where
    go : (j : ℕ) → j < size + c → Dec (size ≤ j) → get_or (relocated start img (start + size) c) (start + j) 0 ≡ get_or img (start + j % size) 0
    go j b (yes y) =
        let e : start + j ≡ start + size + (j - size) = omega arith in
        rw (e, turn_high size j y (omega arith)) (relocated-within start img (start + size) c (j - size) (omega arith) f)
    go j b (no x) =
        rw (turn_low size j (omega (arith, x))) (relocated-before start img (start + size) c (start + j) (omega (arith, x)))

-- the first k bytes, and then the rest
pub relocate_on : (start : ℕ) (img : List ℕ) (old k c : ℕ) → start + (k + c) ≤ old
    → relocated start img old (k + c) ≡ relocated (start + k) (relocated start img old k) (old + k) c
relocate_on start img old k c f =
    let kept : bytes_at c (relocated start img old k) (start + k) ≡ bytes_at c img (start + k) =
    bytes_at_same c (relocated start img old k) img (start + k) (λ i l. relocated-before start img old k (start + k + i) (omega arith)) in
    ap (put_at img old) (bytes_at-append k c img start)
    ∙ put_at-append img old (bytes_at k img start) (bytes_at c img (start + k))
    ∙ rw (length-bytes_at k img start, ← kept)

-- the image lent in two parts, the file and the room behind it: what is copied into the room
pub relocated_lent : (start : ℕ) (img : List ℕ) (to len : ℕ) → start + len ≤ to → to ≤ length img
    → relocated start img to len ≡ take to img ++ put_at (drop to img) 0 (take (start + len - start) (drop start (take to img)))
relocated_lent start img to len f h =
    let front : List ℕ = take to img in
    let long : length front ≡ to = length-take-le to img h in
    let part : take (start + len - start) (drop start front) ≡ bytes_at len img start =
    cut_mid start len front
    ∙ sym (bytes_at_part len front start (omega arith))
    ∙ bytes_at_same len front img start (λ i l. get_or-take to img (start + i) 0 (omega arith)) in
    sym (rw part (put_at_part img to 0 (bytes_at len img start) ∙ rw add-zero))
