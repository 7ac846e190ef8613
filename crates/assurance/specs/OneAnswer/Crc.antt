-- No second answer fits a promise of the crate `crc`. Assumes nothing.
use Rattle.std.specs.Prelude.{ℕ, ◌≡◌, List, ◌++◌}
use Rattle.crc.specs.Crc.{bytes_in, crc_of}
use Rattle.assurance.specs.OneAnswer.{NoSecond}

pub record CrcAnswers : Type 0 where
  pub update : (state : ℕ) (part : List ℕ) → NoSecond (λ (r : ℕ). r ≡ bytes_in state part)
  pub crc32 : (part : List ℕ) → NoSecond (λ (r : ℕ). r ≡ crc_of part)
  pub crc32_joined : (a b : List ℕ) → NoSecond (λ (r : ℕ). r ≡ crc_of (a ++ b))
  pub crc32_of_three : (a b c : List ℕ) → NoSecond (λ (r : ℕ). r ≡ crc_of (a ++ b ++ c))
