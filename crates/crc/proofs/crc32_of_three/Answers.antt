-- `crc::crc32_of_three` meets its contract: the bytes of lists, one after the other, are those of the joined list.
-- Assumes nothing.
use Rattle.crc.specs.Crc.{crc_of}
use Rattle.crc.proofs.Linear.{bytes-append}
use Rattle.crc.proofs.crc32_of_three.Goals as goal

pub returns : goal.returns
unfolding crc_of
returns c = simp bytes-append (cc)
