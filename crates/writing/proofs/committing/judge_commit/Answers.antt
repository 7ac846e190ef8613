-- `writing::committing::judge_commit` meets its contract: the numbers are judged of a state that is sound. Assumes nothing.
use Rattle.refusal.proofs.Laws.{met}
use Rattle.queue.proofs.SoundQueueLaws.{judged}
use Rattle.writing.specs.Commit.{judge_commit}
use Rattle.writing.proofs.committing.judge_commit.Goals as goal

pub returns : goal.returns
unfolding judge_commit
returns c =
    let j = judged c.sound.ensures c.in_ok-sound.was in
    let n = rw j.state at c.judge_numbers.ensures in
    met _ _ _ j.sound n
