-- `crc::by_tables` meets its contract, by the invariant that Invariants.antt tells. Assumes nothing.
use mathlib.Core.Path.{refl, ap, ap₂, ◌∙◌}
use mathlib.Core.List.{List, []}
use Prim.Native.Nat.{ℕ, ◌*◌, ◌/◌}
use native.Mathlib.Omega.{arith}
use lib.ListN.{get_or, length}
use Rattle.crc.specs.Crc.{bytes_in}
use Rattle.crc.proofs.Parts.{word_in, next_word, chunk_at, all_in}
use Rattle.crc.proofs.by_tables.Goals as goal

pub loop-w-init : goal.loop-w-init
unfolding bytes_in
loop-w-init c = refl

pub loop-w-preserved : goal.loop-w-preserved
loop-w-preserved c =
    let part = c.args.part.now in
    let k = c.loop-w.w-index in
    let e = c.as_chunks.ensures in
    word_in (get_or c.as_chunks.result.0.now k []) c.loop-w.s _ _ c.meet-s.result c.meet-s.ensures c.loop-w.invariant
    (next_word k c.args.state part _ (ap (λ (ws : List (List ℕ)). get_or ws k []) e.front ∙ chunk_at (length part / 8) k part [] (omega (arith, c.loop-w-test.true, e.front_len))))

pub returns : goal.returns
returns c =
    let part = c.args.part.now in
    let e = c.as_chunks.ensures in
    c.odd_bytes.ensures ∙ ap₂ bytes_in c.loop-w.invariant e.back
    ∙ all_in c.args.state (c.loop-w.w-index * 8) (length part / 8 * 8) part (omega (arith, c.loop-w-test.false, c.loop-w.auto.w-index-end, e.front_len))
