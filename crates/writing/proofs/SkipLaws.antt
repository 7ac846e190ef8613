-- The walk that skips some elements, of more: that there are some, one step of it, as the code counts it, and where it comes out.
-- Assumes nothing.
use Rattle.refusal.proofs.Laws.{refused, same_ok}
use mathlib.Core.Path.{◌≡◌, refl}
use mathlib.Core.List.{List}
use Prim.Native.Nat.{ℕ, zero, suc, ◌-◌, ◌<◌}
use native.Mathlib.Nat.{mod-lt}
use native.Mathlib.Omega.{arith}
use Rattle.refusal.specs.declared.Refusal.{Refusal}
use Rattle.format.specs.declared.element.V2ElementHeader.{V2ElementHeader}
use Rattle.refusal.specs.Answer.{on_ok}
use Rattle.queue.specs.Element.{capacity, element_here, header_at}
use Rattle.queue.specs.declared.element.Element.{Element}
use Rattle.writing.specs.Growth.{behind}
use Rattle.writing.specs.Removal.{skip_step, skip_from}
use Rattle.std.specs.Prelude.{Result, Ok, Err}

-- ---- how many there are

-- where there are more than n, there are some
pub above-none : (n m : ℕ) → n < m → m ≡ 0 → ⊥
above-none n m h e = omega (arith, h, e)

-- ---- one step

-- what is left of it, where it is not none, is one step and one less
pub skip_unroll : (img : List ℕ) (file left : ℕ) (e : Element) → (left ≡ 0 → ⊥) →
    skip_from img file left e ≡ skip_step img file e (skip_from img file (left - 1))
unfolding skip_from
skip_unroll img file zero e n = absurd (n refl)
skip_unroll img file (suc left) e n = let z : suc left - 1 ≡ left = omega arith in rw z

-- ---- where it comes out

place_step : (img : List ℕ) (file left : ℕ) (e to : Element) (d : Result V2ElementHeader Refusal) →
    ((g : V2ElementHeader) → skip_from img file left (element_here (behind file e) g) ≡ Ok to → to.pos < capacity file) →
    on_ok Err d (λ g. skip_from img file left (element_here (behind file e) g)) ≡ Ok to → to.pos < capacity file
place_step img file left e to (Err r) rest h = absurd (refused h)
place_step img file left e to (Ok g) rest h = rest g h

-- at a place of the ring, since the place behind an element is a remainder
pub skip_place : (img : List ℕ) (file n : ℕ) (e to : Element) → 8192 < file → e.pos < capacity file → skip_from img file n e ≡ Ok to →
    to.pos < capacity file
unfolding skip_from
skip_place img file zero e to s p h = rw (← same_ok e to h) p
skip_place img file (suc left) e to s p h =
    place_step img file left e to (header_at img file (behind file e))
    (λ g. skip_place img file left (element_here (behind file e) g) to s (mod-lt _ (omega (arith, s)))) h
