-- Lines of a text and words of a line.
-- Assumes nothing.
use Rattle.std.specs.Prelude.{ℕ, zero, suc, ◌≤◌, cond, List, [], ◌∷◌, eqb, get_or}

-- where the next b of s stands from `from` on, or the end of s
unfoldable pub next_of : ℕ → List ℕ → ℕ → ℕ
next_of b [] from = 0
next_of b (x ∷ s) zero = cond (eqb x b) 0 (suc (next_of b s zero))
next_of b (x ∷ s) (suc from) = suc (next_of b s from)

-- what every answer of next_of is: within the list, and not before `from` where that is within it
pub record Within (from size at : ℕ) : Type 0 where
  pub ends : at ≤ size
  pub starts : from ≤ size → from ≤ at

-- b put before the first word (every line has one, so the first case is never met)
abbrev pub onto : ℕ → List (List ℕ) → List (List ℕ)
onto b [] = (b ∷ []) ∷ []
onto b (w ∷ ws) = (b ∷ w) ∷ ws

-- the words of a line: what lies between single spaces, so that a line with k spaces has k + 1 words, some of them perhaps empty
unfoldable pub words : List ℕ → List (List ℕ)
words [] = [] ∷ []
words (b ∷ s) = cond (eqb b 32) ([] ∷ words s) (onto b (words s))

-- the i-th word, counted from 0; an empty one where there is none
unfoldable pub word_at : List ℕ → ℕ → List ℕ
word_at line i = get_or (words line) i []
