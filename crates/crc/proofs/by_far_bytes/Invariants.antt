-- `crc::by_far_bytes` meets its contract. The loop's invariant: behind the bytes so far are the blocks that are left and the last bytes, and 300
-- bytes or more make of what the last 300 bytes add to them what they make of the register after the bytes so far. Assumes nothing.
use mathlib.Core.Path.{◌≡◌}
use mathlib.Core.List.{List, ◌++◌}
use Prim.Native.Nat.{ℕ}
use lib.ListN.{take}
use Rattle.std.specs.Slice.Iter.{chunks_size, chunks_rest}
use Rattle.crc.specs.Crc.{bytes_in}
use Rattle.crc.specs.Words.{Same, spread}
use Rattle.crc.proofs.by_far_bytes.Given as goal

abbrev pub invariant-loop-block : goal.invariant-loop-block
invariant-loop-block l = (chunks_size l.block-iterator ≡ 1600)
    × (done : List ℕ)
    × (l.part ≡ done ++ (chunks_rest l.block-iterator ++ l.last))
    × Same 300 (spread (take 300 l.far)) (bytes_in l.state done)
