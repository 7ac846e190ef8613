-- `writing::growth::check_growth` meets its contract: only a file that is to be longer, and wraps, is walked. Assumes nothing.
use mathlib.Core.Path.{sym, ◌∙◌}
use Rattle.writing.proofs.StateLaws.{wrapped-some}
use Rattle.writing.proofs.growth.check_growth.Goals as goal

pub check_old_ring-requires : goal.check_old_ring-requires
check_old_ring-requires c = (c.requires, wrapped-some c.args.q.state (sym c.wraps.ensures ∙ c.if-wraps.true))
