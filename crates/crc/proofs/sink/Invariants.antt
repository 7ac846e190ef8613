-- `crc::sink` meets its contract. The loop's invariant: what is looked up so far is what 4 * j shifts make of the 4 * j high bits of x.
-- Assumes nothing.
use mathlib.Core.Path.{◌≡◌}
use Prim.Native.Nat.{◌-◌, ◌*◌, ◌/◌, ◌^◌}
use Rattle.crc.specs.Crc.{shifts}
use Rattle.crc.proofs.sink.Given as goal

abbrev pub invariant-loop-j : goal.invariant-loop-j
invariant-loop-j l = l.r ≡ shifts (l.j * 4) (l.x / 2 ^ (64 - l.j * 4))
