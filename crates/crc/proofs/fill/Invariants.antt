-- `crc::fill` meets its contract. The loop's invariant: 300 bytes or more make of what the last 300 bytes add to them what they make of the register
-- after the bytes so far. Assumes nothing.
use mathlib.Core.Path.{◌≡◌}
use lib.ListN.{length, take, drop}
use Rattle.crc.specs.Crc.{bytes_in}
use Rattle.crc.specs.Words.{Same, spread}
use Rattle.crc.proofs.fill.Given as goal

abbrev pub invariant-loop-i : goal.invariant-loop-i
invariant-loop-i l = (length l.far ≡ 1900)
    × Same 300 (spread (take 300 (drop l.i l.far))) (bytes_in (spread (take 300 l.initial.far)) (take l.i l.block))
