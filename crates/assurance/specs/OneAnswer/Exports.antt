-- No second answer fits a promise of the crate `exports`. Assumes nothing.
use Rattle.std.specs.Prelude.{ℕ, ◌-◌, ◌≡◌, List, length}
use Rattle.refusal.specs.Answer.{number_or_0, after}
use Rattle.crc.specs.Crc.{crc_of}
use Rattle.ring.specs.Ring.{ring_read, ring_write, ring_erase, relocated, judge_ring, judge_relocation}
use Rattle.exports.specs.Runs.{opened, adds_of, removes_of, clears_of, peeks_of, steps_of}
use Rattle.assurance.specs.OneAnswer.{NoSecond, NoSecondPair}

pub record ExportsAnswers : Type 0 where
  pub port_crc32 : (part : List ℕ) → NoSecond (λ (r : ℕ). r ≡ crc_of part)
  pub port_ring_read :
      (image : List ℕ) (file_len logical_pos : ℕ) (buf : List ℕ) →
      NoSecondPair (λ (r : ℕ) (buf' : List ℕ).
      (r ≡ number_or_0 (judge_ring 8192 (length image) file_len))
      × (buf' ≡ after (judge_ring 8192 (length image) file_len) (ring_read 8192 (file_len - 8192) image logical_pos (length buf)) buf))
  pub port_ring_write :
      (image : List ℕ) (file_len logical_pos : ℕ) (buf : List ℕ) →
      NoSecondPair (λ (r : ℕ) (image' : List ℕ).
      (r ≡ number_or_0 (judge_ring 8192 (length image) file_len))
      × (image' ≡ after (judge_ring 8192 (length image) file_len) (ring_write 8192 (file_len - 8192) image logical_pos buf) image))
  pub port_ring_erase :
      (image : List ℕ) (file_len logical_pos len : ℕ) →
      NoSecondPair (λ (r : ℕ) (image' : List ℕ).
      (r ≡ number_or_0 (judge_ring 8192 (length image) file_len))
      × (image' ≡ after (judge_ring 8192 (length image) file_len) (ring_erase 8192 (file_len - 8192) image logical_pos len) image))
  pub port_relocate :
      (image : List ℕ) (orig_file_len moved_count : ℕ) →
      NoSecondPair (λ (r : ℕ) (image' : List ℕ).
      (r ≡ number_or_0 (judge_relocation 8192 (length image) orig_file_len moved_count))
      × (image' ≡ after (judge_relocation 8192 (length image) orig_file_len moved_count) (relocated 8192 image orig_file_len moved_count) image))
  pub port_open : (image : List ℕ) (real_len : ℕ) → NoSecond (λ (r : ℕ). r ≡ number_or_0 (opened image real_len))
  pub port_add :
      (image : List ℕ) (real_len : ℕ) (payload : List ℕ) (n : ℕ) →
      NoSecondPair (λ (r : ℕ) (image' : List ℕ). (r, image') ≡ adds_of payload n real_len image)
  pub port_remove :
      (image : List ℕ) (real_len n : ℕ) → NoSecondPair (λ (r : ℕ) (image' : List ℕ). (r, image') ≡ removes_of n real_len image)
  pub port_clear :
      (image : List ℕ) (real_len n : ℕ) → NoSecondPair (λ (r : ℕ) (image' : List ℕ). (r, image') ≡ clears_of n real_len image)
  pub port_peek :
      (image : List ℕ) (real_len : ℕ) (out : List ℕ) (n : ℕ) →
      NoSecondPair (λ (r : ℕ) (out' : List ℕ). (r, out') ≡ peeks_of image real_len n out)
  pub port_iterate :
      (image : List ℕ) (real_len : ℕ) (out : List ℕ) (n : ℕ) →
      NoSecondPair (λ (r : ℕ) (out' : List ℕ). (r, out') ≡ steps_of image real_len n out)
