-- The laws that a caller of the ring's functions cites: what their verdicts are where there is a ring, and what then is there.
-- Assumes nothing.
use mathlib.Core.Path.{◌≡◌, refl, sym, ap, subst, ◌∙◌}
use Prim.Native.Nat.{ℕ, ◌+◌, ◌≤◌, ◌<◌}
use mathlib.Core.List.{List}
use borrow.Author.Tests.{le-leb, leb-true}
use Rattle.refusal.specs.Answer.{after}
use Rattle.refusal.proofs.Laws.{pass, granted, refused}
use Rattle.ring.specs.Ring.{judge_ring, judge_relocation}
use Rattle.ring.proofs.Places.{ring_there, there_ring}
use Rattle.std.specs.Prelude.{Result, Ok, IsOk}
use Rattle.refusal.specs.declared.Refusal.{Refusal}

-- a read, a write or an erasure is granted just where there is a ring
pub ring_granted : (start len file : ℕ) → start < file → file ≤ len → judge_ring start len file ≡ Ok tt
ring_granted start len file h l = pass _ _ _ (ring_there start len file h l)

pub granted_ring : (start len file : ℕ) → judge_ring start len file ≡ Ok tt → (start < file) × (file ≤ len)
granted_ring start len file e = there_ring start len file (granted _ _ _ _ refused e).0

-- so a caller that knows that there is a ring may unwrap the answer
pub ring_ok : (r : Result (Unit {0}) Refusal) (start len file : ℕ) → r ≡ judge_ring start len file → start < file → file ≤ len → IsOk r
ring_ok r start len file v h l = subst IsOk (sym (v ∙ ring_granted start len file h l)) refl

-- a relocation is granted just where what is copied lies before its new place, and the image has room for it there
pub relocation_granted : (start len old c : ℕ) → start + c ≤ old → old + c ≤ len → judge_relocation start len old c ≡ Ok tt
relocation_granted start len old c h l = pass _ _ _ (le-leb _ _ h) ∙ pass _ _ _ (le-leb _ _ l)

pub granted_relocation : (start len old c : ℕ) → judge_relocation start len old c ≡ Ok tt → (start + c ≤ old) × (old + c ≤ len)
granted_relocation start len old c e =
    let a = granted _ _ _ _ refused e in
    (leb-true _ _ a.0, leb-true _ _ (granted _ _ _ _ refused a.1).0)

-- where a verdict is Granted, what is there is what was asked
pub asked : (r : Result (Unit {0}) Refusal) (l new old : List ℕ) → l ≡ after r new old → r ≡ Ok tt → l ≡ new
asked r l new old e g = e ∙ ap (λ (v : Result (Unit {0}) Refusal). after v new old) g

-- the two joined, for a caller that knows that there is a ring
pub on_ring : (r : Result (Unit {0}) Refusal) (start len file : ℕ) (l new old : List ℕ) → r ≡ judge_ring start len file → l ≡ after r new old
    → start < file → file ≤ len → l ≡ new
on_ring r start len file l new old v e h k = asked r l new old e (v ∙ ring_granted start len file h k)
