-- The check sequence of 32 bits of ITU-T Recommendation V.42, 8.1.1.6.2, by polynomials over the integers modulo 2, as it is known.
-- Two remainders of division by the generator are added, and each coefficient of the sum is exchanged, 0 for 1 and 1 for 0:
--   a) that of x^k (x^31 + x^30 + .. + x + 1), where the message has k bits;
--   b) that of x^32 times the message.
-- No register stands here, no mirrored number and no exclusive or: those are how crates/crc/specs/Crc.antt says it. Assumes nothing.
use Rattle.std.specs.Prelude.{ℕ, zero, suc, ◌+◌, ◌*◌, ◌/◌, ◌%◌, ◌≡◌, Bool, true, false, not, ◌||◌, List, [], ◌∷◌, ◌++◌, map, eqb, length, drop, replicate}
use Rattle.wire.specs.Wire.{Bytes}
use Rattle.crc.specs.Crc.{crc_of}

-- ---- polynomials

-- the coefficients, the highest power's first
abbrev pub Poly : Type 0
Poly = List Bool

-- modulo 2 a sum is a difference too
abbrev pub mod2 : Bool → Bool → Bool
mod2 false b = b
mod2 true b = not b

-- of two polynomials with as many coefficients
unfoldable pub sum : Poly → Poly → Poly
sum [] q = []
sum (a ∷ p) [] = []
sum (a ∷ p) (b ∷ q) = mod2 a b ∷ sum p q

-- x^n times p
abbrev pub times_x : ℕ → Poly → Poly
times_x n p = p ++ replicate n false

-- x^(n-1) + .. + x + 1
abbrev pub ones : ℕ → Poly
ones n = replicate n true

-- n coefficients: 1 at the powers that are listed
abbrev pub is_in : ℕ → List ℕ → Bool
is_in k [] = false
is_in k (e ∷ es) = eqb k e || is_in k es

abbrev pub powers : ℕ → List ℕ → Poly
powers zero es = []
powers (suc k) es = is_in k es ∷ powers k es

-- x^32 + x^26 + x^23 + x^22 + x^16 + x^12 + x^11 + x^10 + x^8 + x^7 + x^5 + x^4 + x^2 + x + 1
unfoldable pub generator : Poly
generator = powers 33 (32 ∷ 26 ∷ 23 ∷ 22 ∷ 16 ∷ 12 ∷ 11 ∷ 10 ∷ 8 ∷ 7 ∷ 5 ∷ 4 ∷ 2 ∷ 1 ∷ 0 ∷ [])

-- ---- long division by the generator

-- 33 coefficients, less the generator where it goes into them: where the highest is 1
unfoldable pub less : Poly → Poly
less [] = []
less (false ∷ p) = false ∷ p
less (true ∷ p) = sum (true ∷ p) generator

-- a step: the dividend's next coefficient is written behind the 32 that are left, the generator is taken off, and the highest, a 0 now,
-- is dropped
unfoldable pub bring_down : Poly → Bool → Poly
bring_down r b = drop 1 (less (r ++ (b ∷ [])))

-- all steps, from what is left so far
unfoldable pub divide : Poly → Poly → Poly
divide r [] = r
divide r (b ∷ p) = divide (bring_down r b) p

-- what is left in the end: 32 coefficients
unfoldable pub remainder : Poly → Poly
remainder p = divide (replicate 32 false) p

-- ---- the message

-- a byte is sent low bit first: its n low bits in that order
abbrev pub odd : ℕ → Bool
odd zero = false
odd (suc b) = true

unfoldable pub bits_of : ℕ → ℕ → List Bool
bits_of zero b = []
bits_of (suc n) b = odd (b % 2) ∷ bits_of n (b / 2)

-- the bit that is sent first is the coefficient of the highest power
unfoldable pub message : List ℕ → Poly
message [] = []
message (b ∷ bs) = bits_of 8 b ++ message bs

-- ---- the check sequence

-- a) and b), added
unfoldable pub remainders : Poly → Poly
remainders m = sum (remainder (times_x (length m) (ones 32))) (remainder (times_x 32 m))

unfoldable pub check_sequence : List ℕ → Poly
check_sequence bs = map not (remainders (message bs))

-- bits as a number, where the one that is sent first is the low one, as in a byte
abbrev pub bit : Bool → ℕ
bit false = 0
bit true = 1

unfoldable pub number : List Bool → ℕ
number [] = 0
number (b ∷ p) = number p * 2 + bit b

-- the check sequence is sent from the highest power on
unfoldable pub v42 : List ℕ → ℕ
v42 bs = number (check_sequence bs)

-- ---- the theorem

-- CRC-32 of any bytes is that number
abbrev pub CrcIsV42 : Type 0
CrcIsV42 = (bs : List ℕ) → Bytes bs → crc_of bs ≡ v42 bs

-- of "123456789" it is the value that is published for it
abbrev pub CheckValue : Type 0
CheckValue = v42 (0x31 ∷ 0x32 ∷ 0x33 ∷ 0x34 ∷ 0x35 ∷ 0x36 ∷ 0x37 ∷ 0x38 ∷ 0x39 ∷ []) ≡ 0xCBF43926
