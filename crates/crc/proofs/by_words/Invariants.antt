-- `crc::by_words` meets its contract. The loop's invariant: 40 bytes or more make of the words that wait what they make of the register after the
-- words so far. Assumes nothing.
use Prim.Native.Nat.{◌*◌}
use lib.ListN.{take}
use Rattle.crc.specs.Crc.{bytes_in}
use Rattle.crc.specs.Words.{number, Same}
use Rattle.crc.proofs.by_words.Given as goal

abbrev pub invariant-loop-w : goal.invariant-loop-w
invariant-loop-w l = Same 40 (number l.p) (bytes_in l.state (take (l.w-index * 8) l.part))
