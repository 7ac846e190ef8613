-- What `array::from_fn` puts in each place, where the calls leave what is called as it was. Assumes nothing.
use mathlib.Core.Path.{◌≡◌, ◌∙◌, subst}
use mathlib.Core.List.{List}
use Prim.Native.Nat.{ℕ, zero, suc, ◌+◌, ◌<◌}
use native.Mathlib.Nat.{not-suc-le-zero, le_of_suc-le-suc}
use native.Mathlib.Omega.{arith}
use lib.ListN.{get_or}
use Rattle.std.specs.Fn.{Mut, Called}
use Rattle.std.specs.Array.{IsFromFnResultFrom}

module _ {F : Type 0} {g : Mut F (ℕ × Unit {0}) ℕ} (f : F) (v : ℕ → ℕ) (turn : (i r : ℕ) (q : F) → Called g f (i, tt) r q → (r ≡ v i) × (q ≡ f)) (ys : List ℕ) where
  pub each_place : (p : F) (i n k j : ℕ) → i + k ≡ j → p ≡ f → IsFromFnResultFrom g p ys i n → k < n → get_or ys j 0 ≡ v j
  each_place p i zero k j at same e h = absurd (not-suc-le-zero h)
  each_place p i (suc n) zero j at same e h =
      let t = turn i e.1 e.0 (subst (λ x. Called g x (i, tt) e.1 e.0) same e.3) in
      subst (λ x. get_or ys x 0 ≡ v x) (omega (arith, at)) (e.2.1 0 ∙ t.0)
  each_place p i (suc n) (suc k) j at same e h =
      let t = turn i e.1 e.0 (subst (λ x. Called g x (i, tt) e.1 e.0) same e.3) in
      each_place e.0 (i + 1) n k j (omega (arith, at)) t.1 e.4 (le_of_suc-le-suc h)
