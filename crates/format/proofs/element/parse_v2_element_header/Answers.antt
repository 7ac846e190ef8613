-- `format::element::parse_v2_element_header` meets its contract: the header's bytes are there. Assumes nothing.
use native.Mathlib.Omega.{arith}
use lib.ListN.{length-take}
use Rattle.format.proofs.element.parse_v2_element_header.Goals as goal

pub slice_bounds-crc32-end : goal.slice_bounds-crc32-end
slice_bounds-crc32-end c = rw length-take (omega arith)
