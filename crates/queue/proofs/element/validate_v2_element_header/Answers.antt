-- `queue::element::validate_v2_element_header` meets its contract: 28 where there is no ring, else what the ring's bytes say. Assumes
-- nothing.
use Rattle.ring.proofs.Places.{ring_known}
use Rattle.queue.proofs.element.validate_v2_element_header.Goals as goal

pub header_at-requires : goal.header_at-requires
header_at-requires c = ring_known _ _ _ _ c.has_ring.ensures c.if-not-has_ring.false
