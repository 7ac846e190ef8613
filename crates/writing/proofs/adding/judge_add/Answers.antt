-- `writing::adding::judge_add` meets its contract: it is judged of a state that is sound. Assumes nothing.
use Rattle.queue.proofs.SoundQueueLaws.{judged}
use Rattle.writing.proofs.adding.judge_add.Goals as goal

pub returns : goal.returns
returns c =
    let j = judged c.sound.ensures c.in_ok-sound.was in
    rw (j.state, j.image_len) at c.judge_element.ensures
