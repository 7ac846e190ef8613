-- `ring::write::write_ring` meets its contract. The loop's invariant: what is left to write, from the ring's start on, makes of the ring
-- what all of it makes. Assumes nothing.
use Rattle.std.proofs.Common.{◌≡◌, length}
use Rattle.std.specs.Slice.Iter.{chunks_rest, chunks_size}
use Rattle.ring.specs.Ring.{ring_write}
use Rattle.ring.proofs.write.write_ring.Given as goal

abbrev pub invariant-loop-part : goal.invariant-loop-part
invariant-loop-part l = record {
  size : chunks_size l.part-iterator ≡ length l.fn.ring;
  ring : ring_write 0 (length l.fn.ring) l.ring 0 (chunks_rest l.part-iterator) ≡ ring_write 0 (length l.fn.ring) l.fn.ring l.logical_pos l.buf;
}
