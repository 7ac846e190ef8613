-- One step of recovery as the code counts it. Assumes nothing.
use mathlib.Core.Path.{◌≡◌, ◌∙◌}
use mathlib.Core.List.{List}
use Prim.Native.Nat.{ℕ, suc, ◌+◌, ◌-◌, ◌<◌}
use native.Mathlib.Omega.{arith}
use lib.ListN.{length}
use mathlib.Core.Bool.{true}
use Rattle.refusal.proofs.Laws.{pass}
use Rattle.ring.specs.Ring.{has_ring}
use Rattle.queue.specs.Recover.{recover_step, recover_from, recover_head}
use Rattle.queue.proofs.Steps.{one_less}

-- where there is a ring, recovery is the walk from the tail
pub recover_opens : (img : List ℕ) (file tail ts n : ℕ) → has_ring 8192 (length img) file ≡ true →
    recover_head img file tail ts n ≡ recover_from img file ts n 0 tail
unfolding recover_head
recover_opens img file tail ts n h = pass _ _ _ h

-- what is left at step s is that step and what is left after it
pub recover_unroll : (img : List ℕ) (file ts n s p : ℕ) → s < n →
    recover_from img file ts (n - s) s p ≡ recover_step img file ts (n - (s + 1)) s p (recover_from img file ts (n - (s + 1)) (s + 1))
unfolding recover_from
recover_unroll img file ts n s p h = rw (one_less n s h)

-- the whole recovery, at step s of its walk
pub recover_here : (img : List ℕ) (file tail ts n s p : ℕ) → has_ring 8192 (length img) file ≡ true → s < n →
    recover_from img file ts n 0 tail ≡ recover_from img file ts (n - s) s p →
    recover_head img file tail ts n ≡ recover_step img file ts (n - (s + 1)) s p (recover_from img file ts (n - (s + 1)) (s + 1))
recover_here img file tail ts n s p r h i = recover_opens img file tail ts n r ∙ i ∙ recover_unroll img file ts n s p h

-- the last step has none after it, and any other has one
pub none_left : (n s : ℕ) → s + 1 ≡ n → n - (s + 1) ≡ 0
none_left n s e = omega arith

pub some_left : (n s : ℕ) → s < n → (s + 1 ≡ n → ⊥) → n - (s + 1) ≡ suc (n - (s + 2))
some_left n s h d = omega (arith, d)
