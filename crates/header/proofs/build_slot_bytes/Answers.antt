-- `header::build_slot_bytes` meets its contract: the stores lay out a slot.
-- Assumes nothing.
use Rattle.crc.specs.Crc.{crc_of}
use Rattle.header.specs.Slot.{slot_fields}
use Rattle.header.proofs.Stores.{sealed, fields_laid}
use Rattle.header.proofs.build_slot_bytes.Goals as goal

pub returns : goal.returns
returns c =
    let d = c.args.«data» in
    let fields =
    fields_laid d
    c.put.ensures
    c.put_number.ensures
    c.put_number-2.ensures
    c.put_number-3.ensures
    c.put_number-4.ensures
    c.put_number-5.ensures
    c.put_number-6.ensures in
    sealed crc_of (slot_fields d) fields c.crc32-sum.ensures c.put_number-7.ensures
