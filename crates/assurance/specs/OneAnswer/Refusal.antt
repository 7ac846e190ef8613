-- No second answer fits a promise of the crate `refusal`. Assumes nothing.
use Rattle.std.specs.Prelude.{ℕ, ◌≡◌}
use Rattle.refusal.specs.Table.{number_of, values_of}
use Rattle.refusal.specs.declared.Refusal.{Refusal}
use Rattle.assurance.specs.OneAnswer.{NoSecond}

pub record RefusalAnswers : Type 0 where
  pub Refusal::number : (self : Refusal) → NoSecond (λ (r : ℕ). r ≡ number_of self)
  pub Refusal::values : (self : Refusal) → NoSecond (λ (r : ℕ × ℕ). r ≡ values_of self)
