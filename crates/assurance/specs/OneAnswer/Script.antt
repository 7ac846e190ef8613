-- No second answer fits a promise of the crate `script`. Assumes nothing.
use Rattle.std.specs.Prelude.{ℕ, ◌≡◌, List, length, Option}
use Rattle.script.specs.Decimal.{number_of}
use Rattle.script.specs.Digit.{digit_of}
use Rattle.script.specs.Hex.{bytes_of}
use Rattle.script.specs.Line.{next_of, words, word_at}
use Rattle.assurance.specs.OneAnswer.{NoSecond, NoSecondPair}

pub record ScriptAnswers : Type 0 where
  pub parse_number : (word : List ℕ) → NoSecond (λ (r : Option ℕ). r ≡ number_of word)
  pub digit : (b : ℕ) → NoSecond (λ (r : Option ℕ). r ≡ digit_of b)
  pub parse_bytes : (word out : List ℕ) → NoSecondPair (λ (r : Option ℕ) (out' : List ℕ). (r, out') ≡ bytes_of word out)
  pub line_end : (text : List ℕ) (from : ℕ) → NoSecond (λ (r : ℕ). r ≡ next_of 10 text from)
  pub count_words : (line : List ℕ) → NoSecond (λ (r : ℕ). r ≡ length (words line))
  pub word : (line : List ℕ) (i : ℕ) → NoSecond (λ (r : List ℕ). r ≡ word_at line i)
