-- CRC-32 is the check sequence of V.42. `number` reads a polynomial's coefficients as bits, the highest power's as the low bit. So read, a
-- sum of polynomials is the exclusive or of numbers, and a step of the long division is a shift of the register. Assumes nothing.
use Prim.Native.Nat.{ℕ, zero, suc, ◌+◌, ◌-◌, ◌*◌, ◌/◌, ◌%◌, ◌^◌, ◌<◌}
use mathlib.Core.Path.{◌≡◌, refl, sym, ap, ap₂, ◌∙◌, subst}
use mathlib.Core.Bool.{Bool, true, false, not}
use mathlib.Core.List.{List, [], ◌∷◌, ◌++◌, map}
use native.Mathlib.Nat.{le_of_suc-le-suc, not-suc-le-zero, div-add-mod', suc_inj, suc-ne-zero, mod-lt, zero-lt-suc, zero-add, add-zero, add_comm, suc-add, zero-mul, mul_assoc, add-mul, mul-one, pow-suc, add_assoc}
use native.Mathlib.Omega.{arith}
use lib.ListN.{length, drop, replicate, length-append, length-replicate}
use lib.Arith.{lt-one, digits_div, digits_mod}
use lib.Bits.{bit_xor, differ, xor_step, xor_comm, xor_zero_r, xor_shifted}
use Rattle.wire.specs.Wire.{Bytes}
use Rattle.crc.specs.Crc.{poly, fed, shift, shifts, byte_in, bytes_in, crc_of}
use Rattle.crc.proofs.Linear.{xor_assoc, shift_xor, shifts_xor, shift_double, shifts_up, shifts_add}
use Rattle.vfortytwo.specs.V42.{Poly, mod2, sum, times_x, ones, generator, less, bring_down, divide, remainder, odd, bits_of, message, remainders, check_sequence, bit, number, v42, CrcIsV42, CheckValue}

pub check_value : CheckValue
unfolding sum generator less bring_down divide remainder bits_of message remainders check_sequence number v42
check_value = refl

-- ---- the number of a polynomial

bit_lt : (b : Bool) → bit b < 2
bit_lt false = omega arith
bit_lt true = omega arith

number_div : (b : Bool) (p : Poly) → number (b ∷ p) / 2 ≡ number p
unfolding number
number_div b p = digits_div (number p) (bit_lt b)

number_mod : (b : Bool) (p : Poly) → number (b ∷ p) % 2 ≡ bit b
unfolding number
number_mod b p = digits_mod (number p) (bit_lt b)

bit-mod2 : (a b : Bool) → bit (mod2 a b) ≡ differ (bit a) (bit b)
bit-mod2 false b = refl
bit-mod2 true false = refl
bit-mod2 true true = refl

-- of a sum it is the exclusive or of the two
number-sum : (p q : Poly) → length p ≡ length q → number (sum p q) ≡ bit_xor (number p) (number q)
unfolding number sum
number-sum [] [] e = refl
number-sum [] (b ∷ q) e = absurd (suc-ne-zero (length q) (sym e))
number-sum (a ∷ p) [] e = absurd (suc-ne-zero (length p) e)
number-sum (a ∷ p) (b ∷ q) e =
    ap₂ (λ (x y : ℕ). x * 2 + y) (number-sum p q (suc_inj e)) (bit-mod2 a b)
    ∙ sym (xor_step (number (a ∷ p)) (number (b ∷ q))
    ∙ ap₂ (λ (x y : ℕ). x * 2 + y) (ap₂ bit_xor (number_div a p) (number_div b q)) (ap₂ differ (number_mod a p) (number_mod b q)))

pub length-sum : (p q : Poly) → length p ≡ length q → length (sum p q) ≡ length p
unfolding sum
length-sum [] [] e = refl
length-sum [] (b ∷ q) e = refl
length-sum (a ∷ p) [] e = absurd (suc-ne-zero (length p) e)
length-sum (a ∷ p) (b ∷ q) e = ap suc (length-sum p q (suc_inj e))

number_append : (p q : Poly) → number (p ++ q) ≡ number q * 2 ^ length p + number p
unfolding number
number_append [] q = sym (add-zero (number q * 1) ∙ mul-one (number q))
number_append (b ∷ p) q =
    ap (λ (x : ℕ). x * 2 + bit b) (number_append p q)
    ∙ ap (λ (x : ℕ). x + bit b)
    (add-mul (number q * 2 ^ length p) (number p) 2 ∙ ap (λ (x : ℕ). x + number p * 2) (mul_assoc (number q) (2 ^ length p) 2))
    ∙ add_assoc (number q * (2 ^ length p * 2)) (number p * 2) (bit b)
    ∙ ap (λ (x : ℕ). number q * x + (number p * 2 + bit b)) (sym (pow-suc 2 (length p)))

number_lt : (p : Poly) → number p < 2 ^ length p
unfolding number
number_lt [] = omega arith
number_lt (b ∷ p) = omega (arith, number_lt p, bit_lt b, pow-suc 2 (length p))

number-zeros : (n : ℕ) → number (replicate n false) ≡ 0
unfolding number
number-zeros zero = refl
number-zeros (suc n) = ap (λ (x : ℕ). x * 2 + 0) (number-zeros n)

number-times_x : (n : ℕ) (p : Poly) → number (times_x n p) ≡ number p
number-times_x n p =
    number_append p (replicate n false) ∙ ap (λ (x : ℕ). x * 2 ^ length p + number p) (number-zeros n)
    ∙ ap (λ (x : ℕ). x + number p) (zero-mul (2 ^ length p)) ∙ zero-add (number p)

-- it and that of the exchanged coefficients make as many ones as there are coefficients
number_not : (p : Poly) → number (map not p) + number p + 1 ≡ 2 ^ length p
unfolding number
number_not [] = refl
number_not (false ∷ p) = omega (arith, number_not p, pow-suc 2 (length p))
number_not (true ∷ p) = omega (arith, number_not p, pow-suc 2 (length p))

-- ---- a step of the long division

generator-poly : number (drop 1 generator) ≡ poly
unfolding number generator
generator-poly = refl

-- with the highest coefficient gone, what is left is the number after a shift
less-shift : (p : Poly) → length p ≡ 33 → number (drop 1 (less p)) ≡ shift (number p)
unfolding less sum shift generator
less-shift [] e = absurd (suc-ne-zero 32 (sym e))
less-shift (false ∷ p) e = sym (ap₂ fed (number_mod false p) (number_div false p))
less-shift (true ∷ p) e =
    number-sum p (drop 1 generator) (suc_inj e) ∙ ap (bit_xor (number p)) generator-poly
    ∙ sym (ap₂ fed (number_mod true p) (number_div true p))

less-length : (p : Poly) → length p ≡ 33 → length (drop 1 (less p)) ≡ 32
unfolding less sum generator
less-length [] e = absurd (suc-ne-zero 32 (sym e))
less-length (false ∷ p) e = suc_inj e
less-length (true ∷ p) e = length-sum p (drop 1 generator) (suc_inj e) ∙ suc_inj e

pub brought : (r : Poly) (b : Bool) → length r ≡ 32 → length (r ++ (b ∷ [])) ≡ 33
brought r b e = length-append r (b ∷ []) ∙ ap (λ (n : ℕ). n + 1) e

bit-number : (b : Bool) → number (b ∷ []) ≡ bit b
unfolding number
bit-number b = zero-add (bit b)

brought_number : (r : Poly) (b : Bool) → length r ≡ 32 → number (r ++ (b ∷ [])) ≡ bit_xor (number r) (bit b * 2 ^ 32)
brought_number r b e =
    number_append r (b ∷ [])
    ∙ ap₂ (λ (x n : ℕ). x * 2 ^ n + number r) (bit-number b) e
    ∙ sym (xor_shifted (bit b) 32 (number r) (subst (λ (n : ℕ). number r < 2 ^ n) e (number_lt r)))
    ∙ xor_comm (bit b * 2 ^ 32) (number r)

pub length-bring_down : (r : Poly) (b : Bool) → length r ≡ 32 → length (bring_down r b) ≡ 32
unfolding bring_down
length-bring_down r b e = less-length (r ++ (b ∷ [])) (brought r b e)

number-bring_down : (r : Poly) (b : Bool) → length r ≡ 32 → number (bring_down r b) ≡ shift (bit_xor (number r) (bit b * 2 ^ 32))
unfolding bring_down
number-bring_down r b e = less-shift (r ++ (b ∷ [])) (brought r b e) ∙ ap shift (brought_number r b e)

-- ---- all of its steps: a shift for each coefficient of the dividend

pub length-divide : (r p : Poly) → length r ≡ 32 → length (divide r p) ≡ 32
unfolding divide
length-divide r [] e = e
length-divide r (b ∷ p) e = length-divide (bring_down r b) p (length-bring_down r b e)

top_lt : (b : Bool) → bit b * 2 ^ 32 < 2 ^ 33
top_lt false = omega arith
top_lt true = omega arith

regroup : (x b : ℕ) → x * 2 ^ 33 + b * 2 ^ 32 ≡ (x * 2 + b) * 2 ^ 32
regroup x b = omega arith

double : (x : ℕ) → x * 2 ^ 33 ≡ x * 2 ^ 32 * 2
double x = omega arith

-- the coefficient that comes next, and behind it the others
next : (b : Bool) (p : Poly) → bit_xor (bit b * 2 ^ 32) (number p * 2 ^ 33) ≡ number (b ∷ p) * 2 ^ 32
unfolding number
next b p =
    xor_comm (bit b * 2 ^ 32) (number p * 2 ^ 33) ∙ xor_shifted (number p) 33 (bit b * 2 ^ 32) (top_lt b) ∙ regroup (number p) (bit b)

-- the others may be added before the shift
turn : (r : ℕ) (b : Bool) (p : Poly)
    → bit_xor (shift (bit_xor r (bit b * 2 ^ 32))) (number p * 2 ^ 32) ≡ shift (bit_xor r (number (b ∷ p) * 2 ^ 32))
turn r b p =
    ap (bit_xor (shift (bit_xor r (bit b * 2 ^ 32)))) (sym (ap shift (double (number p)) ∙ shift_double (number p * 2 ^ 32)))
    ∙ sym (shift_xor (bit_xor r (bit b * 2 ^ 32)) (number p * 2 ^ 33))
    ∙ ap shift (xor_assoc r (bit b * 2 ^ 32) (number p * 2 ^ 33) ∙ ap (bit_xor r) (next b p))

number-divide : (r p : Poly) → length r ≡ 32 → number (divide r p) ≡ shifts (length p) (bit_xor (number r) (number p * 2 ^ 32))
unfolding divide shifts number
number-divide r [] e = sym (ap (bit_xor (number r)) (zero-mul (2 ^ 32)) ∙ xor_zero_r (number r))
number-divide r (b ∷ p) e =
    number-divide (bring_down r b) p (length-bring_down r b e)
    ∙ ap (shifts (length p)) (ap (λ (x : ℕ). bit_xor x (number p * 2 ^ 32)) (number-bring_down r b e) ∙ turn (number r) b p)

length-remainder : (p : Poly) → length (remainder p) ≡ 32
unfolding remainder
length-remainder p = length-divide (replicate 32 false) p refl

number-remainder : (p : Poly) (k : ℕ) → length p ≡ 32 + k → number (remainder p) ≡ shifts k (number p)
unfolding remainder
number-remainder p k e =
    number-divide (replicate 32 false) p refl
    ∙ ap₂ (λ (n x : ℕ). shifts n (bit_xor x (number p * 2 ^ 32))) e (number-zeros 32)
    ∙ shifts_add 32 k (number p * 2 ^ 32) ∙ ap (shifts k) (shifts_up 32 (number p))

-- ---- the message's bytes, as they go into the register

bit-odd : (b : ℕ) → b < 2 → bit (odd b) ≡ b
bit-odd zero h = refl
bit-odd (suc zero) h = refl
bit-odd (suc (suc b)) h = absurd (not-suc-le-zero (le_of_suc-le-suc (le_of_suc-le-suc h)))

number_bits : (n b : ℕ) (m : Poly) → b < 2 ^ n → number (bits_of n b ++ m) ≡ number m * 2 ^ n + b
unfolding bits_of number
number_bits zero b m h = sym (ap₂ (λ (x y : ℕ). x + y) (mul-one (number m)) (lt-one h) ∙ add-zero (number m))
number_bits (suc n) b m h =
    ap₂ (λ (x y : ℕ). x * 2 + y) (number_bits n (b / 2) m (omega (arith, pow-suc 2 n))) (bit-odd (b % 2) (mod-lt b (zero-lt-suc 1)))
    ∙ ap (λ (x : ℕ). x + b % 2) (add-mul (number m * 2 ^ n) (b / 2) 2 ∙ ap (λ (x : ℕ). x + b / 2 * 2) (mul_assoc (number m) (2 ^ n) 2))
    ∙ add_assoc (number m * (2 ^ n * 2)) (b / 2 * 2) (b % 2)
    ∙ ap₂ (λ (x y : ℕ). number m * x + y) (sym (pow-suc 2 n)) (div-add-mod' b 2)

length_bits : (n b : ℕ) (m : Poly) → length (bits_of n b ++ m) ≡ n + length m
unfolding bits_of
length_bits zero b m = sym (zero-add (length m))
length_bits (suc n) b m = ap suc (length_bits n (b / 2) m) ∙ sym (suc-add n (length m))

-- a byte goes in now, and those behind it wait above it
number_byte : (r b m : ℕ) → b < 256 → shifts 8 (bit_xor r (m * 2 ^ 8 + b)) ≡ bit_xor (shifts 8 (bit_xor r b)) m
number_byte r b m small =
    ap (λ (x : ℕ). shifts 8 (bit_xor r x)) (sym (xor_shifted m 8 b small) ∙ xor_comm (m * 2 ^ 8) b)
    ∙ ap (shifts 8) (sym (xor_assoc r b (m * 2 ^ 8)))
    ∙ shifts_xor 8 (bit_xor r b) (m * 2 ^ 8)
    ∙ ap (bit_xor (shifts 8 (bit_xor r b))) (shifts_up 8 m)

number-message : (r : ℕ) (bs : List ℕ) → Bytes bs → bytes_in r bs ≡ shifts (length (message bs)) (bit_xor r (number (message bs)))
unfolding bytes_in byte_in message shifts number
number-message r [] h = sym (xor_zero_r r)
number-message r (b ∷ bs) h =
    let m = message bs in
    let all = bit_xor r (number (bits_of 8 b ++ m)) in
    number-message (shifts 8 (bit_xor r b)) bs (λ i. h (suc i))
    ∙ ap (shifts (length m))
    (sym (ap (λ (x : ℕ). shifts 8 (bit_xor r x)) (number_bits 8 b m (h 0)) ∙ number_byte r b (number m) (h 0)))
    ∙ sym (ap (λ (n : ℕ). shifts n all) (length_bits 8 b m) ∙ shifts_add 8 (length m) all)

-- ---- the two remainders, whose sum is what the register holds in the end

length-times_x : (n : ℕ) (p : Poly) → length (times_x n p) ≡ length p + n
length-times_x n p = length-append p (replicate n false) ∙ ap (λ (k : ℕ). length p + k) (length-replicate n false)

number-ones : number (ones 32) ≡ 0xFFFF_FFFF
unfolding number
number-ones = refl

length-remainders : (m : Poly) → length (remainders m) ≡ 32
unfolding remainders
length-remainders m =
    length-sum (remainder (times_x (length m) (ones 32))) (remainder (times_x 32 m))
    (length-remainder (times_x (length m) (ones 32)) ∙ sym (length-remainder (times_x 32 m)))
    ∙ length-remainder (times_x (length m) (ones 32))

number-remainders : (m : Poly) → number (remainders m) ≡ shifts (length m) (bit_xor 0xFFFF_FFFF (number m))
unfolding remainders
number-remainders m =
    number-sum (remainder (times_x (length m) (ones 32))) (remainder (times_x 32 m))
    (length-remainder (times_x (length m) (ones 32)) ∙ sym (length-remainder (times_x 32 m)))
    ∙ ap₂ bit_xor
    (number-remainder (times_x (length m) (ones 32)) (length m) (length-times_x (length m) (ones 32))
    ∙ ap (shifts (length m)) (number-times_x (length m) (ones 32) ∙ number-ones))
    (number-remainder (times_x 32 m) (length m) (length-times_x 32 m ∙ add_comm (length m) 32) ∙ ap (shifts (length m)) (number-times_x 32 m))
    ∙ sym (shifts_xor (length m) 0xFFFF_FFFF (number m))

complement : (p : Poly) → length p ≡ 32 → number (map not p) ≡ 0xFFFF_FFFF - number p
complement p e = ends (number (map not p)) (number p) (number_not p ∙ ap (λ (n : ℕ). 2 ^ n) e)
  where
    ends : (x y : ℕ) → x + y + 1 ≡ 2 ^ 32 → x ≡ 0xFFFF_FFFF - y
    ends x y q = omega arith

pub crc_is_v42 : CrcIsV42
unfolding crc_of v42 check_sequence
crc_is_v42 bs h =
    ap (λ (x : ℕ). 0xFFFF_FFFF - x) (number-message 0xFFFF_FFFF bs h ∙ sym (number-remainders (message bs)))
    ∙ sym (complement (remainders (message bs)) (length-remainders (message bs)))
