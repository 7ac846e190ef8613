-- Byte strings: two lower-case hex digits a byte, `-` for none, at most 262,144 bytes.
-- Assumes nothing.
use Rattle.std.specs.Prelude.{ℕ, ◌+◌, ◌*◌, ◌%◌, Bool, cond, ◌&&◌, ◌||◌, List, [], ◌∷◌, ◌++◌, eqb, leb, ltb, length, get_or, drop, Option, Some, None}
use Rattle.script.specs.Digit.{worth_of, all_below}

-- `-`
unfoldable pub is_dash : List ℕ → Bool
is_dash word = eqb (length word) 1 && eqb (get_or word 0 0) 45

-- pairs of hex digits, at least one
unfoldable pub is_hex : List ℕ → Bool
is_hex word = ltb 0 (length word) && (eqb (length word % 2) 0 && all_below 16 word)

-- the bytes that pairs of hex digits spell
unfoldable pub unhex : List ℕ → List ℕ
unhex [] = []
unhex (a ∷ []) = []
unhex (a ∷ b ∷ s) = (worth_of a * 16 + worth_of b) ∷ unhex s

-- how many bytes a word spells, and `out` with them at its start; where the word is no byte string or spells too many, `out` as it is
unfoldable pub bytes_of : List ℕ → List ℕ → Option ℕ × List ℕ
bytes_of word out =
    cond ((is_dash word || is_hex word) && (leb (length (unhex word)) 262144 && leb (length (unhex word)) (length out)))
    (Some (length (unhex word)), unhex word ++ drop (length (unhex word)) out)
    (None, out)
