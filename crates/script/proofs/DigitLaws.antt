-- What a digit is worth, and the laws by which a scan learns that every byte is a digit of its base, each stated once over the base.
-- Assumes nothing.
use mathlib.Core.Path.{◌≡◌, refl}
use mathlib.Core.Bool.{true, false, and-eq-true_iff}
use mathlib.Core.List.{List, [], ◌∷◌}
use Prim.Native.Nat.{ℕ, zero, suc, ◌≤◌, ◌<◌}
use native.Mathlib.Omega.{arith}
use lib.Dec.{ltb}
use lib.ListN.{length, get_or, drop}
use lib.Seq.{drop-cons}
use borrow.Author.Tests.{lt-ltb, le-ltb, ltb-true}
use Rattle.std.proofs.Common.{Option, Some, None}
use Rattle.std.specs.List.{list_all}
use Rattle.std.specs.Option.{IfSome, is_some, unwrap_or}
use Rattle.std.proofs.lemmas.Bool.Decides.{nat_tests}
use Rattle.script.specs.Digit.{digit_of, worth_of, all_below}

-- a digit is worth less than 16
digit_fits : (b : ℕ) → IfSome (digit_of b) (λ d. d < 16)
unfolding digit_of
digit_fits b = grind (arith, nat_tests)

-- in one number: what it is worth, or 16
pub worth_some : (b d : ℕ) → digit_of b ≡ Some d → worth_of b ≡ d
unfolding worth_of
worth_some b d e = rw e

pub worth_none : (b : ℕ) → digit_of b ≡ None → worth_of b ≡ 16
unfolding worth_of
worth_none b e = rw e

-- a byte is a digit where it is worth less than 16
below_lem : (o : Option ℕ) → IfSome o (λ d. d < 16) → ltb (unwrap_or o 16) 16 ≡ is_some o
below_lem None h = le-ltb 16 16 (omega arith)
below_lem (Some d) h = lt-ltb d 16 h

below_some : (b : ℕ) → ltb (worth_of b) 16 ≡ is_some (digit_of b)
unfolding worth_of
below_some b = below_lem (digit_of b) (digit_fits b)

module _ (base : ℕ) where
  module _ (s : List ℕ) (i : ℕ) (h : i < length s) where
    pub below_turn : worth_of (get_or s i 0) < base → all_below base (drop i s) ≡ all_below base (drop (suc i) s)
    unfolding all_below
    below_turn w = rw (drop-cons s i 0, lt-ltb _ base w)

    pub below_stops : base ≤ worth_of (get_or s i 0) → all_below base (drop i s) ≡ false
    unfolding all_below
    below_stops w = rw (drop-cons s i 0, le-ltb _ base w)

  pub below_at : (s : List ℕ) (i : ℕ) → all_below base s ≡ true → i < length s → worth_of (get_or s i 0) < base
  unfolding all_below
  below_at [] i e h = absurd (omega arith)
  below_at (b ∷ s) zero e h = ltb-true (worth_of b) base ((and-eq-true_iff (ltb (worth_of b) base) (all_below base s)).0 e).0
  below_at (b ∷ s) (suc i) e h = below_at s i ((and-eq-true_iff (ltb (worth_of b) base) (all_below base s)).0 e).1 (omega arith)

pub below_all : (s : List ℕ) → all_below 16 s ≡ list_all (λ b. is_some (digit_of b)) s
unfolding all_below
below_all [] = refl
below_all (b ∷ s) = rw (below_some b, below_all s)
