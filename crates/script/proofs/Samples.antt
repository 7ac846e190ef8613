-- Worked examples: the definitions compute, each on the bytes of the text that its comment quotes.
-- Assumes nothing.
use mathlib.Core.Path.{◌≡◌, refl}
use Prim.Native.Nat.{ℕ}
use mathlib.Core.List.{List, [], ◌∷◌, ◌++◌}
use Rattle.std.proofs.Common.{Some, None}
use Rattle.script.specs.Digit.{digit_of, worth_of, all_below}
use Rattle.script.specs.Decimal.{value_onto, number_of}
use Rattle.script.specs.Hex.{is_dash, is_hex, unhex, bytes_of}
use Rattle.script.specs.Line.{next_of, words, word_at}

-- from 0 the line of "ab\ncd" ends at its newline, and from 3 at the text's end
end-at_newline : (next_of 10 (97 ∷ 98 ∷ 10 ∷ 99 ∷ 100 ∷ []) 0 ≡ 2) × (next_of 10 (97 ∷ 98 ∷ 10 ∷ 99 ∷ 100 ∷ []) 3 ≡ 5)
unfolding next_of
end-at_newline = (refl, refl)

-- "a  b " has four words, two of them empty
empty-words : words (97 ∷ 32 ∷ 32 ∷ 98 ∷ 32 ∷ []) ≡ (97 ∷ []) ∷ [] ∷ (98 ∷ []) ∷ [] ∷ []
unfolding words
empty-words = refl

-- "a b" has no fourth word
no_fourth_word : word_at (97 ∷ 32 ∷ 98 ∷ []) 3 ≡ []
unfolding words word_at
no_fourth_word = refl

-- "007"
zeros_lead : number_of (48 ∷ 48 ∷ 55 ∷ []) ≡ Some 7
unfolding number_of value_onto all_below worth_of digit_of
zeros_lead = refl

-- "1844674407370955161"
abbrev front : List ℕ
front = 49 ∷ 56 ∷ 52 ∷ 52 ∷ 54 ∷ 55 ∷ 52 ∷ 52 ∷ 48 ∷ 55 ∷ 51 ∷ 55 ∷ 48 ∷ 57 ∷ 53 ∷ 53 ∷ 49 ∷ 54 ∷ 49 ∷ []

-- with "5" behind it the largest number, and with "6" one too many
largest : (number_of (front ++ (53 ∷ [])) ≡ Some 18446744073709551615) × (number_of (front ++ (54 ∷ [])) ≡ None)
unfolding number_of value_onto all_below worth_of digit_of
largest = (refl, refl)

-- no digit at all, and a hex digit
no_number : (number_of [] ≡ None) × (number_of (49 ∷ 97 ∷ []) ≡ None)
unfolding number_of value_onto all_below worth_of digit_of
no_number = (refl, refl)

-- "0aff" into three bytes: the third stays
two_bytes : bytes_of (48 ∷ 97 ∷ 102 ∷ 102 ∷ []) (1 ∷ 2 ∷ 3 ∷ []) ≡ (Some 2, 10 ∷ 255 ∷ 3 ∷ [])
unfolding bytes_of is_dash is_hex unhex all_below worth_of digit_of
two_bytes = refl

-- "-"
no_bytes_lem : bytes_of (45 ∷ []) (1 ∷ []) ≡ (Some 0, 1 ∷ [])
unfolding bytes_of is_dash is_hex unhex all_below worth_of digit_of
no_bytes_lem = refl

-- "0A", "0af", and "0aff" where there is room for one byte
upper_case : bytes_of (48 ∷ 65 ∷ []) (1 ∷ []) ≡ (None, 1 ∷ [])
unfolding bytes_of is_dash is_hex unhex all_below worth_of digit_of
upper_case = refl

odd_digit : bytes_of (48 ∷ 97 ∷ 102 ∷ []) (1 ∷ []) ≡ (None, 1 ∷ [])
unfolding bytes_of is_dash is_hex unhex all_below worth_of digit_of
odd_digit = refl

no_room : bytes_of (48 ∷ 97 ∷ 102 ∷ 102 ∷ []) (1 ∷ []) ≡ (None, 1 ∷ [])
unfolding bytes_of is_dash is_hex unhex all_below worth_of digit_of
no_room = refl
