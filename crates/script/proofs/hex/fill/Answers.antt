-- `script::hex::fill` meets its contract, by the invariant that Invariants.antt tells. Assumes nothing.
use native.Mathlib.Omega.{arith}
use native.Mathlib.Numerals.{add-one}
use mathlib.Core.Path.{sym, ◌∙◌}
use Prim.Native.Nat.{◌+◌, ◌*◌}
use lib.ListN.{length, length-set}
use lib.Seq.{take-suc, take-suc-set, take_all}
use Rattle.std.proofs.Common.{rules}
use Rattle.std.proofs.lemmas.List.{length_push}
use Rattle.std.proofs.lemmas.Iterator.Consumers.{YieldsList-turn, YieldsList-end, YieldsList-at}
use Rattle.script.specs.Hex.{unhex}
use Rattle.script.proofs.DigitLaws.{below_at}
use Rattle.script.proofs.HexLaws.{unhex-length, unhex-at}
use Rattle.script.proofs.PairLaws.{YieldsList-from_pairs, pair_turn, pair_turns}
use Rattle.script.proofs.hex.fill.Goals as goal

pub byte-requires : goal.byte-requires
byte-requires c =
    let s = c.args.word.now in
    let k = length c.loop-i.yielded in
    let items = c.enumerate-i-items.ensures in
    let pairs = YieldsList-from_pairs s (rw items.source c.chunks_exact.ensures.rest) (rw items.source c.chunks_exact.ensures.size) items.count in
    let road = YieldsList-at c.into_iter-i-iterator.ensures.into_iter_gives pairs in
    let turn = YieldsList-turn road c.loop-i.yielded _ c.loop-i.yielded_by _ _ (c.in-Some.i, c.in-Some.pair) c.in-Some.is c.next.ensures.steps in
    let pair = pair_turn s k c.in-Some.i c.in-Some.pair.now turn in
    record {
      high_is_digit = rw pair.2 (below_at 16 s (2 * k) c.requires.digits (omega (arith, pair.0)));
      low_is_digit = rw pair.2 (below_at 16 s (2 * k + 1) c.requires.digits pair.0);
    }

pub loop-i-preserved : goal.loop-i-preserved
loop-i-preserved c =
    let s = c.args.word.now in
    let out = c.loop-i.out in
    let k = length c.loop-i.yielded in
    let items = c.enumerate-i-items.ensures in
    let pairs = YieldsList-from_pairs s (rw items.source c.chunks_exact.ensures.rest) (rw items.source c.chunks_exact.ensures.size) items.count in
    let road = YieldsList-at c.into_iter-i-iterator.ensures.into_iter_gives pairs in
    let turn = YieldsList-turn road c.loop-i.yielded _ c.loop-i.yielded_by _ _ (c.in-Some.i, c.in-Some.pair) c.in-Some.is c.next.ensures.steps in
    let pair = pair_turn s k c.in-Some.i c.in-Some.pair.now turn in
    let value = rw pair.2 at c.byte.ensures in (
      search rules,
      search rules,
      simp length-set c.loop-i.invariant.2,
      rw (length_push c.loop-i.yielded (c.in-Some.i, c.in-Some.pair), pair.1, add-one, take-suc-set out k c.byte.result (omega (arith, pair.0)), take-suc (unhex s) k 0 (omega (arith, unhex-length s, pair.0)))
          (rw (c.loop-i.invariant.3, unhex-at s k pair.0, value)),
    )

pub returns : goal.returns
returns c =
    let s = c.args.word.now in
    let k = length c.loop-i.yielded in
    let items = c.enumerate-i-items.ensures in
    let pairs = YieldsList-from_pairs s (rw items.source c.chunks_exact.ensures.rest) (rw items.source c.chunks_exact.ensures.size) items.count in
    let road = YieldsList-at c.into_iter-i-iterator.ensures.into_iter_gives pairs in
    let end = YieldsList-end road c.loop-i.yielded _ c.loop-i.yielded_by _ _ c.in-None.is c.next.ensures.steps in
    let all = end.1 ∙ pair_turns s in
    sym (take_all k c.loop-i.out (omega (arith, all))) ∙ c.loop-i.invariant.3 ∙ take_all k (unhex s) (omega (arith, all, unhex-length s))
