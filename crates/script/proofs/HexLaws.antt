-- The bytes that pairs of hex digits spell: how many they are, and each by its two digits.
-- Assumes nothing.
use mathlib.Core.Path.{◌≡◌, refl, ◌∙◌}
use mathlib.Core.Bool.{true}
use mathlib.Core.List.{List, [], ◌∷◌}
use Prim.Native.Nat.{ℕ, zero, suc, ◌+◌, ◌*◌, ◌/◌, ◌%◌, ◌<◌}
use native.Mathlib.Omega.{arith}
use lib.ListN.{length, get_or}
use Rattle.std.proofs.lemmas.Bool.Decides.{nat_tests}
use Rattle.script.specs.Digit.{worth_of, all_below}
use Rattle.script.specs.Hex.{is_dash, is_hex, unhex}

pub unhex-length : (s : List ℕ) → length (unhex s) ≡ length s / 2
unfolding unhex
unhex-length [] = refl
unhex-length (a ∷ []) = refl
unhex-length (a ∷ b ∷ s) = omega (arith, unhex-length s)

pub unhex-at : (s : List ℕ) (i : ℕ) → 2 * i + 1 < length s → get_or (unhex s) i 0 ≡ worth_of (get_or s (2 * i) 0) * 16 + worth_of (get_or s (2 * i + 1) 0)
unfolding unhex
unhex-at [] i h = absurd (omega arith)
unhex-at (a ∷ []) i h = absurd (omega arith)
unhex-at (a ∷ b ∷ s) zero h = refl
unhex-at (a ∷ b ∷ s) (suc i) h =
    let e : 2 * suc i ≡ suc (suc (2 * i)) = omega arith in
    let f : 2 * suc i + 1 ≡ suc (suc (2 * i + 1)) = omega arith in
    unhex-at s i (omega arith) ∙ rw (f, e)

-- `-` spells no byte
pub unhex_dash : (s : List ℕ) → is_dash s ≡ true → unhex s ≡ []
unfolding is_dash unhex
unhex_dash [] e = refl
unhex_dash (a ∷ []) e = refl
unhex_dash (a ∷ b ∷ s) e = grind (arith, nat_tests)

-- a word that is hex is pairs of digits
pub hex_pairs : (w : List ℕ) → is_hex w ≡ true → (length w % 2 ≡ 0) × (all_below 16 w ≡ true)
unfolding is_hex
hex_pairs w e = grind (arith, nat_tests)

-- what the answers of `parse_bytes` go by
pub ruleset hex_laws = (unhex-length, unhex_dash, hex_pairs, nat_tests)
