-- `queue::sound_queue::SoundQueue::used` meets its contract: a sound state uses no more than its file. Assumes nothing.
use borrow.Author.Tests.{eq-eqb, ne_eqb}
use Rattle.queue.specs.State.{used_bytes}
use Rattle.queue.proofs.Sound.{sound_lengths_lem, sound-ends, last_lies}
use Rattle.queue.proofs.sound_queue.SoundQueue.used.Goals as goal

pub returns-then-self-eq0 : goal.returns-then-self-eq0
unfolding used_bytes
returns-then-self-eq0 c =
    let l = sound_lengths_lem _ _ c.args.self.is_sound in
    (rw (eq-eqb _ _ c.if-self-eq0.true), l.start)

pub ends_used-requires : goal.ends_used-requires
ends_used-requires c =
    let s = c.args.self.is_sound in
    record {
      lies = last_lies _ _ s c.if-self-eq0.false;
      pos_bound = (sound-ends _ _ s c.if-self-eq0.false).first-place;
    }

pub returns : goal.returns
unfolding used_bytes
returns c =
    let s = sound-ends _ _ c.args.self.is_sound c.if-self-eq0.false in
    (rw (ne_eqb _ _ c.if-self-eq0.false) c.ends_used.ensures, rw c.ends_used.ensures s.used)
