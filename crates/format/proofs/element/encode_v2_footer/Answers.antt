-- `format::element::encode_v2_footer` meets its contract: the stores lay out a footer.
-- Assumes nothing.
use Rattle.format.proofs.Stores.{footer_laid}
use Rattle.format.proofs.element.encode_v2_footer.Goals as goal

pub returns : goal.returns
returns c =
    let a = c.args in
    footer_laid a.seq a.payload.now
    c.put.ensures
    c.put_number.ensures
    c.crc32_joined-sum.ensures
    c.put_number-2.ensures
