-- The ring as a part of the image that is lent: what is read of the part is read of the image, and what is written there is written in the
-- image. Assumes nothing.
use mathlib.Core.Path.{◌≡◌, sym, ap, ◌∙◌}
use mathlib.Core.List.{List, [], ◌∷◌, ◌++◌}
use Prim.Native.Nat.{ℕ, suc, ◌+◌, ◌%◌, ◌<◌}
use native.Mathlib.Nat.{zero-add, mod-lt}
use native.Mathlib.Omega.{arith}
use lib.ListN.{set, take, drop}
use lib.Seq.{take-set-le, drop-set-add, drop-set-lt, get_or-take, get_or-drop, take-set-lt}
use borrow.Rule.Slice.PartMut.{mid_of, put_mid, put_same}
use Rattle.ring.specs.Ring.{ring_read, ring_write}
use Rattle.ring.proofs.Reading.{read_ext}

pub read_lent : (start size : ℕ) (img : List ℕ) (p n : ℕ) → 0 < size → ring_read 0 size (mid_of start size img) p n ≡ ring_read start size img p n
read_lent start size img p n h =
    read_ext 0 size start size (mid_of start size img) img p p n
    (λ i b.
    let l : (p + i) % size < size = mod-lt (p + i) h in
    rw zero-add (get_or-take size _ ((p + i) % size) 0 l ∙ get_or-drop start img ((p + i) % size) 0))

pub write_lent : (start size : ℕ) (img : List ℕ) (p : ℕ) (s : List ℕ) → 0 < size →
    put_mid start size img (ring_write 0 size (mid_of start size img) p s) ≡ ring_write start size img p s
unfolding ring_write
write_lent start size img p [] h = put_same start size img
write_lent start size img p (b ∷ s) h =
    let j : ℕ = p % size in
    let l : j < size = mod-lt p h in
    let later : List ℕ = set img (start + j) b in
    let front : take start later ≡ take start img = take-set-le start img (start + j) b (omega arith) in
    let rest : drop start later ≡ set (drop start img) j b = drop-set-add start img j b in
    let mid : mid_of start size later ≡ set (mid_of start size img) j b = rw rest (take-set-lt size (drop start img) j b l) in
    let past : drop size (drop start later) ≡ drop size (drop start img) = rw rest (drop-set-lt size (drop start img) j b l) in
    rw zero-add
    (ap (λ (x : List ℕ). put_mid start size img (ring_write 0 size x (suc p) s)) (sym mid)
    ∙ ap (λ (x : List ℕ). x ++ (ring_write 0 size (mid_of start size later) (suc p) s ++ drop size (drop start img))) (sym front)
    ∙ ap (λ (x : List ℕ). take start later ++ (ring_write 0 size (mid_of start size later) (suc p) s ++ x)) (sym past)
    ∙ write_lent start size later (suc p) s h)
