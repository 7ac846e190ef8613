-- `crc::by_far_bytes` meets its contract, by the invariant that Invariants.antt tells. Assumes nothing.
use mathlib.Core.Path.{sym, ap, ap₂, ◌∙◌}
use mathlib.Core.List.{List, [], ◌++◌}
use Prim.Native.Nat.{ℕ, ◌-◌}
use native.Mathlib.Omega.{arith}
use lib.ListN.{length, take, take-append-drop}
use Rattle.std.specs.Slice.Iter.{chunks_size, chunks_rest}
use Rattle.crc.specs.Crc.{bytes_in}
use Rattle.crc.specs.Words.{spread}
use Rattle.crc.proofs.Far.{next_left, blocks_done}
use Rattle.crc.proofs.by_far_bytes.Goals as goal

pub loop-block-init : goal.loop-block-init
unfolding bytes_in
loop-block-init c =
    let part = c.args.part.now in
    let e = c.chunks-block-items.ensures in
    let same = c.into_iter-block-iterator.ensures.into_iter_gives in (
      ap chunks_size same ∙ e.size,
      [],
      sym
          (ap₂ (λ (a b : List ℕ). a ++ b) (ap chunks_rest same ∙ e.rest ∙ c.split_at.ensures.front) c.split_at.ensures.back
          ∙ take-append-drop (length part - 304) part),
      λ bs h. ap (λ (r : ℕ). bytes_in r bs) c.far_from-far.ensures,
    )

pub loop-block-preserved : goal.loop-block-preserved
loop-block-preserved c =
    let i = c.loop-block.invariant in
    let e = c.in-Some.ensures.steps in
    let left = next_left c.args.part.now i.1 c.in-Some.block.now (chunks_rest c.loop-block.block-iterator) (chunks_rest c.next.new.self) c.split_at.result.1.now _ _ (spread (take 300 c.loop-block.far)) c.args.state i.2 e.1.0 i.3 c.fill.ensures c.slide.ensures in
    (e.0 ∙ i.0, left.0, left.1, left.2)

pub returns : goal.returns
returns c =
    let i = c.loop-block.invariant in
    blocks_done c.args.part.now i.1 (chunks_rest c.loop-block.block-iterator) c.split_at.result.1.now (spread (take 300 c.loop-block.far)) (spread (take 300 c.clear.new.far)) c.by_words.result c.args.state
    c.in-None.ensures.steps.1.0 (omega (arith, c.split_at.ensures.back_len, c.requires)) i.2 i.3 (ap spread c.clear.ensures.0) (c.by_words.ensures ∙ c.mixed.ensures)
