-- `writing::removal::skip_elements_from` meets its contract. The loop's invariant: the whole walk is what is left of it, from an element
-- that lies in the ring. Assumes nothing.
use mathlib.Core.Path.{◌≡◌}
use lib.ListN.{length}
use Rattle.queue.specs.Element.{Lies}
use Rattle.writing.specs.Removal.{skip_from}
use Rattle.writing.proofs.removal.skip_elements_from.Given as goal

abbrev pub invariant-loop-left : goal.invariant-loop-left
invariant-loop-left l = Lies (length l.image) l.file_len l.elem × (skip_from l.image l.file_len l.n l.initial.elem ≡ skip_from l.image l.file_len l.left l.elem)

abbrev pub decreases-loop-left : goal.decreases-loop-left
decreases-loop-left l = l.left
