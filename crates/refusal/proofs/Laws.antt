-- The laws of `demand`: past a demand that is met the answer is the rest's, at one that is not met it is the refusal; and
-- the ruleset `decide`, by which a function of numbers proves what it answers at a `return`. Assumes nothing.
use mathlib.Core.Path.{◌≡◌, refl, sym, ap, ◌∙◌}
use mathlib.Core.Bool.{Bool, true, false, not}
use Prim.Native.Nat.{ℕ}
use native.Mathlib.Omega.{arith}
use lib.Dec.{eqb}
use borrow.Author.Tests.{le-leb, lt-leb, lt-ltb, le-ltb, eq-eqb, ne_eqb, not-true, not-false}
use Rattle.refusal.specs.Answer.{on_verdict}
use Rattle.refusal.specs.Demand.{demand}
use Rattle.refusal.specs.declared.Refusal.{Refusal}
use Rattle.std.specs.Prelude.{Result, Ok, Err, Option, Some, None}
use Rattle.std.specs.Result.{result_unwrap_or}

pub pass : {A : Type 0} (b : Bool) (stops next : A) → b ≡ true → demand b stops next ≡ next
unfolding demand
pass b stops next e = ap (λ (t : Bool). demand t stops next) e

pub stop : {A : Type 0} (b : Bool) (stops next : A) → b ≡ false → demand b stops next ≡ stops
unfolding demand
stop b stops next e = ap (λ (t : Bool). demand t stops next) e

-- the same two, as the answer of a function that is to equal the definition
pub met : {A : Type 0} {r : A} (b : Bool) (stops next : A) → b ≡ true → r ≡ next → r ≡ demand b stops next
met b stops next e h = h ∙ sym (pass b stops next e)

pub unmet : {A : Type 0} {r : A} (b : Bool) (stops next : A) → b ≡ false → r ≡ stops → r ≡ demand b stops next
unmet b stops next e h = h ∙ sym (stop b stops next e)

-- where the answer is not the refusal, the demand was met
pub granted : {A : Type 0} (b : Bool) (stops next r : A) → (stops ≡ r → ⊥) → demand b stops next ≡ r → (b ≡ true) × (next ≡ r)
unfolding demand
granted true stops next r n e = (refl, e)
granted false stops next r n e = absurd (n e)

-- an answer that is refused is none
pub refused : {A : Type 0} {r : Refusal} {x : A} → ◌≡◌ {A = Result A Refusal} (Err r) (Ok x) → ⊥
refused e = let z : ◌≡◌ {A = ℕ} 0 1 = cc in omega arith

-- two answers that are the same give the same
pub same_ok : {A : Type 0} (x y : A) → ◌≡◌ {A = Result A Refusal} (Ok x) (Ok y) → x ≡ y
same_ok x y e = cc

-- an answer of nothing is not one of something
pub nothing : {A : Type 0} {x : A} → ◌≡◌ {A = Result (Option A) Refusal} (Ok None) (Ok (Some x)) → ⊥
nothing e = let z : ◌≡◌ {A = ℕ} 0 1 = cc in omega arith

-- where an answer that goes on from another is not refused, that one was granted
pub on_granted : {A : Type 0} (refuse : Refusal → A) (v : Result (Unit {0}) Refusal) (next a : A) → ((r : Refusal) → refuse r ≡ a → ⊥)
    → on_verdict refuse v next ≡ a → (v ≡ Ok tt) × (next ≡ a)
on_granted refuse (Ok tt) next a n e = (refl, e)
on_granted refuse (Err r) next a n e = absurd (n r e)

-- so what is answered then is what was to be
pub same_answer : {A : Type 0} (v : Result (Unit {0}) Refusal) (x y : A) → on_verdict Err v (Ok x) ≡ Ok y → x ≡ y
same_answer v x y e = same_ok x y (on_granted Err v (Ok x) (Ok y) (λ r. refused) e).1

-- what holds of it, and of what stands in for it where it is refused, holds of what is had
pub given_or : {A : Type 0} (P : A → Type 0) (v : Result (Unit {0}) Refusal) (x other : A) → P x → P other
    → P (result_unwrap_or (on_verdict Err v (Ok x)) other)
given_or P (Ok tt) x other p q = p
given_or P (Err r) x other p q = q

-- what holds of the refusal, and of the rest once the demand is met, holds of the answer
pub keep : {A : Type 0} (Q : A → Type 0) (b : Bool) (stops next : A) → Q stops → (b ≡ true → Q next) → Q (demand b stops next)
unfolding demand
keep Q true stops next s n = n refl
keep Q false stops next s n = s

pub eq_neb : (a b : ℕ) → a ≡ b → not (eqb a b) ≡ false
eq_neb a b e = ap not (eq-eqb a b e)

pub ne_neb : (a b : ℕ) → (a ≡ b → ⊥) → not (eqb a b) ≡ true
ne_neb a b n = ap not (ne_eqb a b n)

-- what a callee's flag says, where its negation is the test
pub flag_no : (t b : Bool) → t ≡ b → not t ≡ true → b ≡ false
flag_no t b e n = sym e ∙ not-true t n

pub flag_yes : (t b : Bool) → t ≡ b → not t ≡ false → b ≡ true
flag_yes t b e n = sym e ∙ not-false t n

-- `search decide` proves what a function of numbers answers at a `return`, from the tests that led there
pub ruleset decide = (met, unmet, le-leb, lt-leb, lt-ltb, le-ltb, eq-eqb, ne_eqb, eq_neb, ne_neb, flag_no, flag_yes)
