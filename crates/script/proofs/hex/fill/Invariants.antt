-- `script::hex::fill` meets its contract. The invariant: the first bytes, as many as there were turns, are those that the digits spell.
-- Assumes nothing.
use mathlib.Core.Path.{◌≡◌}
use lib.ListN.{length, take}
use Rattle.script.specs.Hex.{unhex}
use Rattle.script.proofs.hex.fill.Given as goal

abbrev pub invariant-loop-i : goal.invariant-loop-i
invariant-loop-i l =
    (goal.iterator-loop-i).can_next l.i-iterator
    × (goal.iterator-loop-i).is_finite l.i-iterator
    × (length l.out ≡ length l.initial.out)
    × (take (length l.yielded) l.out ≡ take (length l.yielded) (unhex l.word))
