-- The definitions of lines and words in the library's words: where the first such byte stands, and the parts that a `split` gives.
-- Assumes nothing.
use mathlib.Core.Path.{◌≡◌, refl, sym, ap, ◌∙◌}
use mathlib.Core.Bool.{Bool, cond, not}
use mathlib.Core.List.{List, [], ◌∷◌}
use Rattle.std.proofs.Common.{Some, None}
use Rattle.std.specs.Option.{unwrap_or}
use Rattle.std.proofs.lemmas.Bool.Decides.{nat_tests}
use Prim.Native.Nat.{ℕ, zero, suc, ◌+◌, ◌≤◌}
use native.Mathlib.Omega.{arith}
use native.Mathlib.Numerals.{one-add}
use native.Mathlib.Nat.{zero-add}
use lib.Dec.{eqb, ltb}
use lib.ListN.{length, drop}
use Rattle.std.specs.List.{position, position_or_len, count_by, slice_split, onto_first}
use Rattle.std.proofs.lemmas.List.Recursion.{is_position_or_len}
use Rattle.std.proofs.lemmas.List.Sums.{prefix_len-le-length}
use Rattle.std.proofs.lemmas.List.Splits.{length-slice_split}
use Rattle.script.specs.Line.{next_of, onto, words}

-- what `position` gives, or the length
place_lem : (n m : ℕ) → n ≤ m → unwrap_or (cond (ltb n m) (Some n) None) m ≡ n
place_lem n m h = grind (arith, nat_tests)

pub first_place : (p : ℕ → Bool) (xs : List ℕ) → unwrap_or (position p xs) (length xs) ≡ position_or_len p xs
first_place p xs = place_lem (position_or_len p xs) (length xs) (prefix_len-le-length (λ x. not (p x)) xs)

module _ (b : ℕ) where
  next_first : (s : List ℕ) → next_of b s 0 ≡ position_or_len (λ x. eqb x b) s
  unfolding next_of
  next_first s = is_position_or_len (λ s. next_of b s 0) (λ x. eqb x b) refl (λ x xs. rw (one-add (next_of b xs 0))) s

  -- from a place within the list, the first such byte behind it
  pub next_from : (s : List ℕ) (from : ℕ) → from ≤ length s → next_of b s from ≡ from + position_or_len (λ x. eqb x b) (drop from s)
  unfolding next_of
  next_from s zero h = next_first s ∙ sym (zero-add _)
  next_from [] (suc from) h = absurd (omega arith)
  next_from (x ∷ s) (suc from) h = omega (arith, next_from s from (omega arith))

  -- from the end on there is none
  pub next_end : (s : List ℕ) (from : ℕ) → length s ≤ from → next_of b s from ≡ length s
  unfolding next_of
  next_end [] from h = refl
  next_end (x ∷ s) zero h = absurd (omega arith)
  next_end (x ∷ s) (suc from) h = ap suc (next_end s from (omega arith))

same_onto : (b : ℕ) (ws : List (List ℕ)) → onto b ws ≡ onto_first b ws
same_onto b [] = refl
same_onto b (w ∷ ws) = refl

-- words are the parts between spaces
pub words_split : (s : List ℕ) → words s ≡ slice_split (λ b. eqb b 32) s
unfolding words
words_split [] = refl
words_split (b ∷ s) = rw (words_split s, same_onto b (slice_split (λ b. eqb b 32) s))

pub words_count : (s : List ℕ) → length {A = List ℕ} (words s) ≡ count_by (λ b. eqb b 32) s + 1
words_count s = ap (length {A = List ℕ}) (words_split s) ∙ length-slice_split (λ b. eqb b 32) s
