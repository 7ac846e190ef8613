-- No second answer fits a promise of the crate `writing`. Assumes nothing.
use Rattle.std.specs.Prelude.{ℕ, ◌≡◌, List, Result}
use Rattle.refusal.specs.declared.Refusal.{Refusal}
use Rattle.queue.specs.declared.state.QueueFile.{QueueFile}
use Rattle.queue.specs.declared.state.Settings.{Settings}
use Rattle.writing.specs.Adding.{judge_add, add_of}
use Rattle.writing.specs.Clearing.{clear_of}
use Rattle.writing.specs.Commit.{commit_of}
use Rattle.writing.specs.Expansion.{expand_of}
use Rattle.writing.specs.Fresh.{fresh_of}
use Rattle.writing.specs.Length.{grow_length}
use Rattle.writing.specs.Removal.{remove_of}
use Rattle.assurance.specs.OneAnswer.{NoSecond, NoSecondPair}

pub record WritingAnswers : Type 0 where
  pub judge_add : (q : QueueFile) (image_len payload_len : ℕ) → NoSecond (λ (r : Result ℕ Refusal). r ≡ judge_add q image_len payload_len)
  pub add :
      (q : QueueFile) (image payload : List ℕ) → NoSecondPair (λ (r : Result QueueFile Refusal) (image' : List ℕ). (r, image') ≡ add_of q payload image)
  pub clear : (q : QueueFile) (image : List ℕ) → NoSecondPair (λ (r : Result QueueFile Refusal) (image' : List ℕ). (r, image') ≡ clear_of q image)
  pub commit : (q : QueueFile) (image : List ℕ) → NoSecondPair (λ (r : Result QueueFile Refusal) (image' : List ℕ). (r, image') ≡ commit_of q image)
  pub compute_expanded_len :
      (current_len remaining_bytes data_len : ℕ) →
      NoSecond (λ (r : Result ℕ Refusal). r ≡ grow_length current_len remaining_bytes data_len)
  pub expand_if_necessary :
      (q : QueueFile) (image : List ℕ) (data_len : ℕ) →
      NoSecondPair (λ (r : Result QueueFile Refusal) (image' : List ℕ). (r, image') ≡ expand_of q data_len image)
  pub fresh :
      (image : List ℕ) (file_len : ℕ) (settings : Settings) →
      NoSecondPair (λ (r : Result QueueFile Refusal) (image' : List ℕ). (r, image') ≡ fresh_of file_len settings image)
  pub remove_n :
      (q : QueueFile) (image : List ℕ) (n : ℕ) → NoSecondPair (λ (r : Result QueueFile Refusal) (image' : List ℕ). (r, image') ≡ remove_of q n image)
