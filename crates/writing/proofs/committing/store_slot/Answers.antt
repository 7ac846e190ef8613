-- `writing::committing::store_slot` meets its contract: what `put` stores at the active slot are the bytes of what the slot holds. Assumes
-- nothing.
use mathlib.Core.Path.{◌∙◌}
use Rattle.writing.specs.Commit.{slot_stored}
use Rattle.writing.proofs.committing.store_slot.Goals as goal

pub returns : goal.returns
unfolding slot_stored
returns c =
    c.put.ensures ∙ rw (c.offset.ensures, c.build_slot_bytes-bytes.ensures, c.slot_data.ensures)
