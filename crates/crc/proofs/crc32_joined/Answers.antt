-- `crc::crc32_joined` meets its contract: the bytes of two lists, one after the other, are those of the joined list.
-- Assumes nothing.
use Rattle.crc.specs.Crc.{crc_of}
use Rattle.crc.proofs.Linear.{bytes-append}
use Rattle.crc.proofs.crc32_joined.Goals as goal

pub returns : goal.returns
unfolding crc_of
returns c = simp bytes-append (cc)
