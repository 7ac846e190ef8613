-- Bytes and numbers: the bytes of a number, the highest first; the number that stands at a place of a list of bytes; a
-- list with bytes stored in it. Past the end of a list there are zeros to read, and what is stored there goes nowhere.
-- Assumes nothing.
use Rattle.std.specs.Prelude.{ℕ, zero, suc, ◌+◌, ◌*◌, ◌/◌, ◌%◌, ◌<◌, List, [], ◌∷◌, ◌++◌, Bool, true, false, ◌&&◌, get_or, eqb}
use Rattle.std.proofs.lemmas.List.Edits.{sets}

-- every element is a byte (past the end `get_or` gives 0, which is one)
abbrev pub Bytes : List ℕ → Type 0
Bytes s = (i : ℕ) → get_or s i 0 < 256

-- the w low bytes of n, the highest first
abbrev pub be : ℕ → ℕ → List ℕ
be zero n = []
be (suc w) n = be w (n / 256) ++ (n % 256 ∷ [])

-- the number whose bytes are those of acc and then those of s
abbrev pub be_onto : ℕ → List ℕ → ℕ
be_onto acc [] = acc
be_onto acc (b ∷ s) = be_onto (acc * 256 + b) s

-- the number whose bytes are s, the highest first
abbrev pub be_val : List ℕ → ℕ
be_val s = be_onto 0 s

-- the w bytes of s from `at` on
abbrev pub bytes_at : ℕ → List ℕ → ℕ → List ℕ
bytes_at zero s at = []
bytes_at (suc w) s at = get_or s at 0 ∷ bytes_at w s (at + 1)

-- the number whose bytes are the w of s from `at` on
abbrev pub word : ℕ → List ℕ → ℕ → ℕ
word w s at = be_val (bytes_at w s at)

-- out once the bytes of src are stored in it from `at` on, one after the other
abbrev pub put_at : List ℕ → ℕ → List ℕ → List ℕ
put_at out at src = sets out at src

-- whether s begins with the bytes of p
abbrev pub starts_with : List ℕ → List ℕ → Bool
starts_with s [] = true
starts_with [] (x ∷ p) = false
starts_with (y ∷ s) (x ∷ p) = eqb y x && starts_with s p
