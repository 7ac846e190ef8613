-- `queue::element::header_at` meets its contract: the ring's 28 bytes are read, and parsed. Assumes nothing.
use Rattle.ring.proofs.Calls.{ring_ok}
use Rattle.queue.proofs.element.header_at.Goals as goal

pub unwrap-requires : goal.unwrap-requires
unwrap-requires c = ring_ok _ _ _ _ c.read_at.ensures.value c.requires.0 c.requires.1
