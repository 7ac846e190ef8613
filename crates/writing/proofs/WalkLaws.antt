-- One step of the walk in the old ring, as the code counts it. Assumes nothing.
use mathlib.Core.Path.{◌≡◌}
use mathlib.Core.List.{List}
use Prim.Native.Nat.{ℕ, ◌+◌, ◌-◌, ◌<◌}
use Rattle.queue.proofs.Steps.{one_less}
use Rattle.writing.specs.Growth.{walk_step, walk_from}

-- what is left at step i, of n, is one step and what is left at i + 1
pub walk_unroll : (img : List ℕ) (file last n i before p spans : ℕ) → i < n →
    walk_from img file last (n - i) before p spans ≡ walk_step img file p spans (walk_from img file last (n - (i + 1)))
unfolding walk_from
walk_unroll img file last n i before p spans h = rw (one_less n i h)
