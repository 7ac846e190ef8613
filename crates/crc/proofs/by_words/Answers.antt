-- `crc::by_words` meets its contract, by the invariant that Invariants.antt tells. Assumes nothing.
use mathlib.Core.Path.{ap, ◌∙◌}
use mathlib.Core.List.{List, []}
use Prim.Native.Nat.{ℕ, ◌/◌, ◌-◌}
use native.Mathlib.Omega.{arith}
use lib.ListN.{get_or, drop, length}
use lib.Seq.{get_or-take}
use Rattle.crc.specs.Crc.{bytes_in}
use Rattle.crc.specs.Words.{above, number}
use Rattle.crc.proofs.Words.{above_zero}
use Rattle.crc.proofs.Parts.{same_more, next_word, chunk_at, words_done}
use Rattle.crc.proofs.by_words.Goals as goal

pub loop-w-init : goal.loop-w-init
unfolding bytes_in above
loop-w-init c bs h = ap (λ (r : ℕ). bytes_in r bs) (above_zero 64 c.from.result ∙ c.from.ensures)

pub loop-w-preserved : goal.loop-w-preserved
loop-w-preserved c =
    let part = c.args.part.now in
    let k = c.loop-w.w-index in
    let n = length part / 8 in
    let e = c.as_chunks.ensures in
    let f = c.split_at.ensures in
    let w = get_or c.split_at.result.0.now k [] in
    let words = c.as_chunks.result.0.now in
    same_more 40 (number c.loop-w.p) (number c.push.new.p) _ _ w c.loop-w.invariant c.push.ensures
    (next_word k c.args.state part w
    (ap (λ (ws : List (List ℕ)). get_or ws k []) f.front ∙ get_or-take _ words k [] (omega (arith, c.loop-w-test.true, f.front_len))
    ∙ ap (λ (ws : List (List ℕ)). get_or ws k []) e.front ∙ chunk_at n k part [] (omega (arith, c.loop-w-test.true, f.front_len, e.front_len))))

pub returns : goal.returns
returns c =
    let part = c.args.part.now in
    let n = length part / 8 in
    let e = c.as_chunks.ensures in
    let f = c.split_at.ensures in
    words_done part c.as_chunks.result.1.now c.as_chunks.result.0.now c.split_at.result.1.now n (n - 5) c.loop-w.w-index (number c.loop-w.p) c.args.state c.settle.result c.odd_bytes.result
    (omega (arith, c.requires)) (omega (arith, c.loop-w-test.false, c.loop-w.auto.w-index-end, f.front_len, e.front_len)) (omega arith) e.front
    (f.back ∙ ap (λ (j : ℕ). drop (j - 5) c.as_chunks.result.0.now) e.front_len) e.back c.loop-w.invariant c.settle.ensures c.odd_bytes.ensures
