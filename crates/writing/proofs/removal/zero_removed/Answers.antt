-- `writing::removal::zero_removed` meets its contract: a place of the ring is its own remainder, so the zeros are as many as the new first
-- is past the old one. Assumes nothing.
use Rattle.ring.proofs.Calls.{ring_ok}
use Rattle.writing.proofs.removal.zero_removed.Goals as goal

pub unwrap-requires : goal.unwrap-requires
unwrap-requires c = ring_ok _ _ _ _ c.erase_at.ensures.value c.requires.0 c.requires.1
