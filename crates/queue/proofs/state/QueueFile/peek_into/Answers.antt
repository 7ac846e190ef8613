-- `queue::state::QueueFile::peek_into` meets its contract: what fits lies in the ring and has room, so it is read once its footer is
-- checked; otherwise the output is not touched. Assumes nothing.
use Rattle.std.specs.Prelude.{Ok}
use mathlib.Core.Path.{ap, sym, ◌∙◌}
use Rattle.queue.proofs.PeekLaws.{fit_known}
use Rattle.queue.proofs.state.QueueFile.peek_into.Goals as goal

pub validate_footer-requires : goal.validate_footer-requires
validate_footer-requires c = (fit_known _ _ _ _ (sym c.fit_peek.ensures ∙ (c.in_ok-len.was ∙ ap Ok c.in-Some.is))).0

pub read_payload-requires : goal.read_payload-requires
read_payload-requires c =
    let k = fit_known _ _ _ _ (sym c.fit_peek.ensures ∙ (c.in_ok-len.was ∙ ap Ok c.in-Some.is)) in
    record { lies = k.0; len_in_bounds = k.1 }
