-- `crc::slide` meets its contract: the library's move puts the bytes from n on at the front. Assumes nothing.
use mathlib.Core.Path.{ap, ◌∙◌}
use native.Mathlib.Omega.{arith}
use lib.ListN.{take}
use Rattle.crc.proofs.Far.{slid}
use Rattle.crc.proofs.slide.Goals as goal

pub returns : goal.returns
returns c = ap (take 300) c.copy_within.ensures.after ∙ slid c.args.far.now c.args.n (omega arith)
