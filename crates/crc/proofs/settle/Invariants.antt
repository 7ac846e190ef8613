-- `crc::settle` meets its contract. The loop's invariant: the words that are left, as many as wait yet, put into the register and what waits, make
-- what all the words make of what waited. Assumes nothing.
use mathlib.Core.Path.{◌≡◌}
use lib.ListN.{length}
use lib.Bits.{bit_xor}
use Rattle.std.specs.List.{concat}
use Rattle.std.specs.Iterator.Adapters.{zip_first, zip_second}
use Rattle.std.specs.Slice.Iter.{iter_rest}
use Rattle.crc.specs.Crc.{bytes_in}
use Rattle.crc.specs.Words.{number}
use Rattle.crc.proofs.settle.Given as goal

abbrev pub invariant-loop-waiting : goal.invariant-loop-waiting
invariant-loop-waiting l =
    let ps = iter_rest (zip_first l.waiting-iterator) in
    let ws = iter_rest (zip_second l.waiting-iterator) in
    (length ps ≡ length ws) × (bytes_in (bit_xor l.s (number ps)) (concat ws) ≡ bytes_in (number l.p) (concat l.last))
