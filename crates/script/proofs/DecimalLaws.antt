-- What a word spells whose digits so far make n and that goes on with s: the laws that a scan from left to right goes by.
-- Assumes nothing.
use mathlib.Core.Path.{◌≡◌, ◌∙◌}
use mathlib.Core.Bool.{cond, ◌&&◌, and-false}
use mathlib.Core.List.{List, [], ◌∷◌}
use Prim.Native.Nat.{ℕ, suc, ◌+◌, ◌*◌, ◌^◌, ◌≤◌, ◌<◌}
use native.Mathlib.Omega.{arith}
use lib.Dec.{ltb}
use lib.ListN.{length, get_or, drop}
use lib.Seq.{drop-cons}
use borrow.Author.Tests.{lt-ltb, le-ltb}
use Rattle.std.proofs.Common.{Option, Some, None}
use Rattle.script.specs.Digit.{worth_of, all_below}
use Rattle.script.specs.Decimal.{value_onto, number_of}
use Rattle.script.proofs.DigitLaws.{below_turn, below_stops}

unfoldable pub goes_on : ℕ → List ℕ → Option ℕ
goes_on n s = cond (all_below 10 s && ltb (value_onto n s) (2 ^ 64)) (Some (value_onto n s)) None

pub number-empty : (w : List ℕ) → length w ≡ 0 → number_of w ≡ None
unfolding number_of
number-empty w h = rw (le-ltb 0 (length w) (omega arith))

pub number-some : (w : List ℕ) → (length w ≡ 0 → ⊥) → number_of w ≡ goes_on 0 w
unfolding number_of goes_on
number-some w h = rw (lt-ltb 0 (length w) (omega arith))

-- a digit more never makes a number less
value_grows : (n : ℕ) (s : List ℕ) → n ≤ value_onto n s
unfolding value_onto
value_grows n [] = omega arith
value_grows n (b ∷ s) = omega (arith, value_grows (n * 10 + worth_of b) s)

pub number_large : (n : ℕ) (s : List ℕ) → 2 ^ 64 ≤ n → goes_on n s ≡ None
unfolding goes_on
number_large n s h = rw (le-ltb (value_onto n s) (2 ^ 64) (omega (arith, value_grows n s)), and-false)

module _ (n : ℕ) (s : List ℕ) (i : ℕ) (h : i < length s) where
  pub number_turn : (d : ℕ) → d ≡ worth_of (get_or s i 0) → d < 10 → goes_on n (drop i s) ≡ goes_on (n * 10 + d) (drop (suc i) s)
  unfolding goes_on value_onto
  number_turn d e w = rw (e, below_turn 10 s i h (omega arith), drop-cons s i 0)

  -- what is no digit, or a digit of a larger base, ends it
  pub number_stops : 10 ≤ worth_of (get_or s i 0) → goes_on n (drop i s) ≡ None
  unfolding goes_on
  number_stops w = rw (below_stops 10 s i h w)

  pub number_over : (d : ℕ) → d ≡ worth_of (get_or s i 0) → d < 10 → 2 ^ 64 ≤ n * 10 + d → goes_on n (drop i s) ≡ None
  number_over d e w h = number_turn d e w ∙ number_large (n * 10 + d) (drop (suc i) s) h

pub number-ends : (n : ℕ) → n < 2 ^ 64 → goes_on n [] ≡ Some n
unfolding goes_on value_onto all_below
number-ends n h = rw (lt-ltb n (2 ^ 64) h)
