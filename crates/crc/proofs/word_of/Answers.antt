-- `crc::word_of` meets its contract: the library's number of eight bytes is that of the definition. Assumes nothing.
use mathlib.Core.Path.{◌∙◌}
use native.Mathlib.Omega.{arith}
use Rattle.crc.proofs.Parts.{le_eight}
use Rattle.crc.proofs.word_of.Goals as goal

pub returns : goal.returns
returns c = c.from_le_bytes.ensures ∙ le_eight c.args.bytes.now (omega arith)
