-- Numbers: decimal, leading zeros allowed, at least one digit, and below 2^64.
-- Assumes nothing.
use Rattle.std.specs.Prelude.{ℕ, ◌+◌, ◌*◌, ◌^◌, cond, ◌&&◌, List, [], ◌∷◌, ltb, length, Option, Some, None}
use Rattle.script.specs.Digit.{worth_of, all_below}

-- the number whose digits are those of n and then those of s
unfoldable pub value_onto : ℕ → List ℕ → ℕ
value_onto n [] = n
value_onto n (b ∷ s) = value_onto (n * 10 + worth_of b) s

-- the number that a word spells: it has a digit, all are decimal, and the number is below 2^64
unfoldable pub number_of : List ℕ → Option ℕ
number_of word =
    cond (ltb 0 (length word) && (all_below 10 word && ltb (value_onto 0 word) (2 ^ 64)))
    (Some (value_onto 0 word))
    None
