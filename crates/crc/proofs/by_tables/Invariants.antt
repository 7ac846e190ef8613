-- `crc::by_tables` meets its contract. The loop's invariant: s is the register after the words so far. Assumes nothing.
use mathlib.Core.Path.{◌≡◌}
use Prim.Native.Nat.{◌*◌}
use lib.ListN.{take}
use Rattle.crc.specs.Crc.{bytes_in}
use Rattle.crc.proofs.by_tables.Given as goal

abbrev pub invariant-loop-w : goal.invariant-loop-w
invariant-loop-w l = l.s ≡ bytes_in l.state (take (l.w-index * 8) l.part)
