-- `writing::expansion::relink_header` meets its contract: the two tests are those of `names_moved`, and where both fail the header is
-- written in a ring that is there. Assumes nothing.
use Rattle.ring.proofs.Calls.{ring_ok}
use Rattle.writing.proofs.expansion.relink_header.Goals as goal

pub unwrap-requires : goal.unwrap-requires
unwrap-requires c = ring_ok _ _ _ _ c.write_at.ensures.value c.requires.0 c.requires.1
