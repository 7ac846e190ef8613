-- `queue::sound_queue::SoundQueue::check_trail` meets its contract. The loop's invariant: the whole walk is what is left of it. Assumes nothing.
use mathlib.Core.Path.{◌≡◌}
use Prim.Native.Nat.{◌+◌, ◌-◌, ◌^◌, ◌≤◌, ◌<◌}
use lib.ListN.{length}
use Rattle.queue.specs.Element.{capacity}
use Rattle.queue.specs.Strict.{trail_from, check_trail}
use Rattle.queue.proofs.Sound.{Lengths}
use Rattle.queue.proofs.sound_queue.SoundQueue.check_trail.Given as goal

abbrev pub invariant-loop : goal.invariant-loop
invariant-loop l = Lengths l.q (length l.image)
    × (l.pos < capacity l.q.file_len)
    × (l.spans ≤ capacity l.q.file_len)
    × (l.seq + (l.q.elem_cnt - l.counter) < 2 ^ 64)
    × (check_trail l.q l.image ≡ trail_from l.image l.q.file_len l.q.last.pos (l.q.elem_cnt - l.counter) l.pos l.seq l.link l.spans)

abbrev pub decreases-loop : goal.decreases-loop
decreases-loop l = l.q.elem_cnt - l.counter
