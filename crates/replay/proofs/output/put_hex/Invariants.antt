-- `replay::output::put_hex` is safe and ends: a part has no more than 64 bytes. Assumes nothing.
use Rattle.std.proofs.Common.{◌≡◌}
use Rattle.replay.proofs.output.put_hex.Given as goal

abbrev pub invariant-loop-part : goal.invariant-loop-part
invariant-loop-part g l =
    (goal.iterator-loop-part g).can_next l.part-iterator
    × (goal.iterator-loop-part g).is_finite l.part-iterator
    × (l.part-iterator.size ≡ 64)
