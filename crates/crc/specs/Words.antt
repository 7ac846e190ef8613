-- The register of specs/Crc.antt on numbers of any width. A bit of a byte goes in when it meets the low end, so bits above the register's 32 are
-- bits that wait for their byte: they may be added to the register now or to the bytes then. Assumes nothing.
use Rattle.std.specs.Prelude.{◌≡◌, List, [], ◌∷◌, ℕ, ◌+◌, ◌*◌, ◌^◌, ◌≤◌, length, get_or, drop, replicate}
use Rattle.std.specs.Int.Bits.{bit_xor}
use Rattle.crc.specs.Crc.{bytes_in}

-- the number of a list of bytes, the low byte first
abbrev pub le : List ℕ → ℕ
le [] = 0
le (b ∷ bs) = le bs * 256 + b

-- the k bits a, with h above them
unfoldable pub above : ℕ → ℕ → ℕ → ℕ
above k a h = bit_xor a (h * 2 ^ k)

-- the number of the words that wait
abbrev pub number : List ℕ → ℕ
number [] = 0
number (w ∷ ws) = above 64 w (number ws)

-- two registers of which n bytes or more make the same
abbrev pub Same : ℕ → ℕ → ℕ → Type 0
Same n r s = (bs : List ℕ) → n ≤ length bs → bytes_in r bs ≡ bytes_in s bs

-- r is the register after the bytes of a word, where s was the register and v waited for it; what waits above v comes down
abbrev pub Met : List ℕ → ℕ → ℕ → ℕ → Type 0
Met bs s v r = (h : ℕ) → bit_xor r h ≡ bytes_in (bit_xor s (above 64 v h)) bs

-- the sum of a list of bytes, each in its place, the low one first: `le`, bit by bit
unfoldable pub placed : List ℕ → ℕ
placed [] = 0
placed (b ∷ bs) = above 8 b (placed bs)

abbrev pub sum4 : ℕ → ℕ → ℕ → ℕ → ℕ
sum4 a b c d = bit_xor a (bit_xor b (bit_xor c d))

-- what 300 bytes that have left make of those behind them: byte j gets bytes j, j + 89, j + 117 and j + 155, which are 300, 211, 183 and 145
-- places before it
unfoldable pub spread : List ℕ → ℕ
spread l = sum4 (placed l) (placed (drop 89 l)) (placed (drop 117 l)) (placed (drop 155 l))

-- its low byte, where the list is read from i on
abbrev pub reach : List ℕ → ℕ → ℕ
reach l i = sum4 (get_or l i 0) (get_or l (i + 89) 0) (get_or l (i + 117) 0) (get_or l (i + 155) 0)

-- n zeros
unfoldable pub zeros : ℕ → List ℕ
zeros n = replicate n 0
