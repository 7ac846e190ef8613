-- No second answer fits a promise of the crate `wire`. Assumes nothing.
use Rattle.std.specs.Prelude.{ℕ, ◌≡◌, Bool, List, length, take, drop, replicate}
use Rattle.wire.specs.Wire.{be, be_val, word, put_at, starts_with}
use Rattle.assurance.specs.OneAnswer.{NoSecond, Numbers}

pub record WireAnswers : Type 1 where
  pub «Number::bytes» : {A : Type 0} (N : ℕ) (value : A → ℕ) (self : A) → NoSecond (λ (r : List ℕ). r ≡ be N (value self))
  pub «Number::of_bytes» : {A : Type 0} (with_value : ℕ → A) (bytes : List ℕ) → NoSecond (λ (r : A). r ≡ with_value (be_val bytes))
  pub get : {A : Type 0} (T : Numbers A) (N : ℕ) (s : List ℕ) (at : ℕ) → NoSecond (λ (r : A). r ≡ T.with_value (word N s at))
  pub starts_with : (s p : List ℕ) → NoSecond (λ (r : Bool). r ≡ starts_with s p)
  pub part : (s : List ℕ) (at n : ℕ) → NoSecond (λ (r : List ℕ). r ≡ take n (drop at s))
  pub copy_into : (out src : List ℕ) → NoSecond (λ (out' : List ℕ). out' ≡ put_at out 0 src)
  pub put : (out : List ℕ) (at : ℕ) (src : List ℕ) → NoSecond (λ (out' : List ℕ). out' ≡ put_at out at src)
  pub put_number :
      {A : Type 0} (T : Numbers A) (N : ℕ) (out : List ℕ) (at : ℕ) (v : A) →
      NoSecond (λ (out' : List ℕ). out' ≡ put_at out at (be N (T.value v)))
  pub fill : (out : List ℕ) (value : ℕ) → NoSecond (λ (out' : List ℕ). out' ≡ replicate (length out) value)
  pub fill_at : (out : List ℕ) (at n value : ℕ) → NoSecond (λ (out' : List ℕ). out' ≡ put_at out at (replicate n value))
