-- `format::element::header_bytes` meets its contract: the stores lay out a header.
-- Assumes nothing.
use Rattle.format.proofs.Stores.{header_laid}
use Rattle.format.proofs.element.header_bytes.Goals as goal

pub returns : goal.returns
returns c =
    let a = c.args in
    header_laid a.seq a.prev_phys a.len
    c.put.ensures
    c.put_number.ensures
    c.put_number-2.ensures
    c.put_number-3.ensures
    c.crc32-sum.ensures
    c.put_number-4.ensures
