-- `format::element::encode_v2_element_header` meets its contract, by what `header_bytes` ensures. Assumes nothing.
use Rattle.refusal.proofs.Laws.{decide}
use Rattle.format.proofs.element.encode_v2_element_header.Goals as goal

pub returns : goal.returns
returns c = rw c.header_bytes.ensures (search decide)
