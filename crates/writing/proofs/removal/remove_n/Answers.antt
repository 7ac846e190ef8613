-- `writing::removal::remove_n` meets its contract: each test of the code is one of the definition. Assumes nothing.
use borrow.Author.Tests.{lt-leb, ne_eqb}
use Rattle.refusal.proofs.Laws.{met}
use Rattle.queue.proofs.SoundQueueLaws.{judged}
use Rattle.writing.specs.Removal.{remove_of}
use Rattle.writing.proofs.removal.remove_n.Goals as goal

pub remove_some-requires : goal.remove_some-requires
remove_some-requires c =
    let j = judged c.sound.ensures c.in_ok-sound.was in
    (j.image_len, rw j.state c.if-n-q.false)

pub returns : goal.returns
unfolding remove_of
returns c =
    let j = judged c.sound.ensures c.in_ok-sound.was in
    let r = rw j.state at c.remove_some.ensures in
    met _ _ _ j.sound (rw (ne_eqb _ _ c.if-n-eq0.false, ne_eqb _ _ c.if-q-eq0.false, lt-leb _ _ c.if-n-q.false) r)
