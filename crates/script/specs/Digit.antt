-- What a digit is worth, in a number and in a byte string alike.
-- Assumes nothing.
use Rattle.std.specs.Prelude.{ℕ, ◌+◌, ◌-◌, Bool, true, cond, ◌&&◌, List, [], ◌∷◌, leb, ltb, Option, Some, None, unwrap_or}

-- `0` to `9`, then `a` to `f`; nothing where the byte is no digit
unfoldable pub digit_of : ℕ → Option ℕ
digit_of b = cond (leb 48 b && leb b 57) (Some (b - 48)) (cond (leb 97 b && leb b 102) (Some (b - 97 + 10)) None)

-- the same in one number, which is 16 where the byte is no digit, so that a digit that is worth less than a base is one of that base
unfoldable pub worth_of : ℕ → ℕ
worth_of b = unwrap_or (digit_of b) 16

-- whether every byte is a digit of this base
unfoldable pub all_below : ℕ → List ℕ → Bool
all_below base [] = true
all_below base (b ∷ s) = ltb (worth_of b) base && all_below base s
