-- `queue::state::QueueFile::used_bytes` meets its contract: it is asked of the state where that is sound. Assumes nothing.
use mathlib.Core.Path.{ap, ◌∙◌}
use Rattle.refusal.proofs.Laws.{met}
use Rattle.queue.specs.State.{used_bytes}
use Rattle.queue.proofs.SoundQueueLaws.{judged}
use Rattle.queue.proofs.state.QueueFile.used_bytes.Goals as goal
use Rattle.std.specs.Prelude.{Ok}

pub returns : goal.returns
returns c =
    let j = judged c.sound.ensures c.in_ok-q.was in
    met _ _ _ j.sound (ap Ok (c.used.ensures.0 ∙ ap used_bytes j.state))
