-- What the ring's calls answer in a ring that is known to be there. Assumes nothing.
use mathlib.Core.Path.{◌≡◌, refl, sym, subst, ◌∙◌}
use Prim.Native.Nat.{ℕ, ◌+◌, ◌-◌, ◌^◌, ◌≤◌, ◌<◌}
use native.Mathlib.Omega.{arith}
use borrow.Author.Tests.{le-leb, lt-ltb}
use Rattle.refusal.specs.declared.Refusal.{Refusal}
use Rattle.refusal.proofs.Laws.{pass}
use Rattle.ring.specs.Ring.{ring_add, ring_distance, add_places, distance_of_places}
use Rattle.ring.proofs.Places.{ring_there}
use Rattle.std.specs.Prelude.{Result, Ok, IsOk}

pub add_known : (len file p d : ℕ) → 8192 < file → file ≤ len → p + d < 2 ^ 64 →
    add_places 8192 len file p d ≡ Ok (ring_add (file - 8192) p d)
add_known len file p d h l s =
    pass _ _ _ (ring_there 8192 len file h l) ∙ pass _ _ _ (le-leb (p + d) (2 ^ 64 - 1) (omega arith))

pub distance_known : (len file p q : ℕ) → 8192 < file → file ≤ len → p < file - 8192 → q < file - 8192 →
    distance_of_places 8192 len file p q ≡ Ok (ring_distance (file - 8192) p q)
distance_known len file p q h l a b =
    pass _ _ _ (ring_there 8192 len file h l) ∙ pass _ _ _ (lt-ltb _ _ a) ∙ pass _ _ _ (lt-ltb _ _ b)

-- an answer that is known to be a place is that place, and is one
pub same_place : {answer known : Result ℕ Refusal} {p q : ℕ} → answer ≡ known → known ≡ Ok q → answer ≡ Ok p → p ≡ q
same_place a b e = cc

pub place_ok : {answer known : Result ℕ Refusal} {q : ℕ} → answer ≡ known → known ≡ Ok q → IsOk answer
place_ok a b = subst IsOk (sym (a ∙ b)) refl
