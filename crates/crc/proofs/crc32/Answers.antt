-- `crc::crc32` meets its contract: the definition, opened.
-- Assumes nothing.
use borrow.Author.Rules.{rules}
use Rattle.crc.specs.Crc.{crc_of}
use Rattle.crc.proofs.crc32.Goals as goal

pub returns : goal.returns
unfolding crc_of
returns c = search rules
