-- `crc::table` meets its contract: the static is the list that the rule is proved of, which antt computes to compare them.
-- Assumes nothing.
use Rattle.crc.specs.Crc.{shift, shifts}
use Rattle.crc.proofs.Rows.{tab, filled}
use Rattle.crc.proofs.table.Goals as goal

pub returns : goal.returns
unfolding tab shift shifts
returns c = filled
