-- `ring::read::read_ring` meets its contract. The loop's invariant: the first `done` bytes are read. Assumes nothing.
use Rattle.std.proofs.Common.{◌-◌, length}
use Rattle.ring.proofs.Segments.{Filled}
use Rattle.ring.proofs.read.read_ring.Given as goal

abbrev pub invariant-loop-done : goal.invariant-loop-done
invariant-loop-done l = Filled l.ring l.logical_pos l.buf l.done

abbrev pub decreases-loop-done : goal.decreases-loop-done
decreases-loop-done l = length l.buf - l.done
