-- A remainder, told without the long division: p = q G + r, where G is the generator and r has fewer coefficients than G. The long
-- division of specs/V42.antt gives it, and nothing else is one. Assumes nothing.
use Rattle.std.specs.Prelude.{◌≡◌, Bool, true, false, [], ◌∷◌, ◌++◌, length, replicate}
use Rattle.vfortytwo.specs.V42.{Poly, sum, generator, remainder}

-- a coefficient times the generator
abbrev pub once : Bool → Poly
once false = replicate 33 false
once true = generator

-- q times the generator: 32 coefficients more than q has
unfoldable pub times_g : Poly → Poly
times_g [] = replicate 32 false
times_g (b ∷ q) = sum (once b ++ replicate (length q) false) (false ∷ times_g q)

-- r is what is left of p. A sum is of polynomials with as many coefficients, so p has 32 zeros before it here, and r as many as q is long
pub record LeftOf (p r : Poly) : Type 0 where
  pub quotient : Poly
  pub long : length quotient ≡ length p
  pub below : length r ≡ 32
  pub whole : sum (times_g quotient) (replicate (length quotient) false ++ r) ≡ replicate 32 false ++ p

-- exactly the remainder of the long division is left
abbrev pub RemainderIsLeft : Type 0
RemainderIsLeft = (p : Poly) → LeftOf p (remainder p)

abbrev pub NothingElseIsLeft : Type 0
NothingElseIsLeft = (p r : Poly) → LeftOf p r → r ≡ remainder p
