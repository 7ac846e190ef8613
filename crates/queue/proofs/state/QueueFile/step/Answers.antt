-- `queue::state::QueueFile::step` meets its contract: an element that is handed out lies in the ring and there is room for its payload, so
-- it is read; otherwise the output is not touched. Assumes nothing.
use mathlib.Core.Path.{sym, ap, ◌∙◌}
use Rattle.std.specs.Prelude.{Ok}
use Rattle.queue.proofs.IterLaws.{step_known}
use Rattle.queue.proofs.state.QueueFile.step.Goals as goal

pub read_payload-requires : goal.read_payload-requires
read_payload-requires c =
    let k = step_known _ _ _ _ _ (sym c.judge_step.ensures ∙ (c.in_ok-stepped.was ∙ ap Ok c.in-Some.is)) in
    record { lies = k.0; len_in_bounds = k.1 }
