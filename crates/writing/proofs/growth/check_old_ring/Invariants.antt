-- `writing::growth::check_old_ring` meets its contract. The loop's invariant: the whole walk is what is left of it. Assumes nothing.
use mathlib.Core.Path.{◌≡◌}
use Prim.Native.Nat.{◌-◌, ◌^◌, ◌≤◌, ◌<◌}
use lib.ListN.{length}
use Rattle.queue.specs.Element.{capacity}
use Rattle.writing.specs.Growth.{walk_from, walk_old_ring}
use Rattle.writing.proofs.growth.check_old_ring.Given as goal

abbrev pub invariant-loop : goal.invariant-loop
invariant-loop l = (8192 < l.q.file_len)
    × (l.q.file_len ≤ length l.image)
    × (l.q.file_len < 2 ^ 63)
    × (l.pos < capacity l.q.file_len)
    × (l.spans ≤ capacity l.q.file_len)
    × (walk_old_ring l.q l.image ≡ walk_from l.image l.q.file_len l.q.last.pos (l.q.elem_cnt - l.counter) l.before l.pos l.spans)

abbrev pub decreases-loop : goal.decreases-loop
decreases-loop l = l.q.elem_cnt - l.counter
