-- `crc::far_from` meets its contract: four bytes with zeros behind them add themselves, 300 bytes on, and nothing else.
-- Assumes nothing.
use mathlib.Core.Path.{◌∙◌}
use Rattle.crc.proofs.Far.{four_bytes}
use Rattle.crc.proofs.far_from.Goals as goal

pub returns : goal.returns
returns c = four_bytes c.args.state c.copy_from_slice.new.self c.ranges.state.fits (c.copy_from_slice.ensures.after ∙ c.to_le_bytes.ensures)
