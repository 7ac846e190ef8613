-- `writing::expansion::relink` meets its contract. The loop's invariant: the whole walk is what is left of it, in an image that is as
-- long as it was. Assumes nothing.
use mathlib.Core.Path.{◌≡◌}
use Prim.Native.Nat.{◌-◌, ◌<◌}
use lib.ListN.{length}
use Rattle.writing.specs.Expansion.{relink_from}
use Rattle.writing.proofs.expansion.relink.Given as goal

abbrev pub invariant-loop : goal.invariant-loop
invariant-loop l = (length l.image ≡ length l.initial.image)
    × (l.pos < l.file_len - 8192)
    × (relink_from l.file_len l.moved.old_len l.moved.end l.elem_cnt l.initial.image l.first_pos ≡ relink_from l.file_len l.moved.old_len l.moved.end (l.elem_cnt - l.counter) l.image l.pos)

abbrev pub decreases-loop : goal.decreases-loop
decreases-loop l = l.elem_cnt - l.counter
