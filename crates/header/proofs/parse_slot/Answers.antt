-- `header::parse_slot` meets its contract: the slot's bytes are there. Assumes nothing.
use native.Mathlib.Omega.{arith}
use lib.ListN.{length-take}
use Rattle.header.proofs.parse_slot.Goals as goal

pub slice_bounds-crc32-end : goal.slice_bounds-crc32-end
slice_bounds-crc32-end c = rw length-take (omega arith)
