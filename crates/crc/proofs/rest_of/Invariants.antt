-- `crc::rest_of` meets its contract. The loop's invariant: w is the number of the bytes behind those that are left. Assumes nothing.
use mathlib.Core.Path.{◌≡◌}
use mathlib.Core.List.{List, ◌++◌}
use Prim.Native.Nat.{ℕ}
use Rattle.crc.specs.Words.{le}
use Rattle.crc.proofs.rest_of.Given as goal

abbrev pub invariant-loop-b : goal.invariant-loop-b
invariant-loop-b l = (ys : List ℕ) × (l.rest ≡ l.b-iterator.iter.rest.now ++ ys) × (l.w ≡ le ys)
