-- No second answer fits a promise of the crate `ring`. Assumes nothing.
use Rattle.std.specs.Prelude.{ℕ, ◌-◌, ◌≡◌, Bool, List, length, Result}
use Rattle.refusal.specs.Answer.{after}
use Rattle.refusal.specs.declared.Refusal.{Refusal}
use Rattle.ring.specs.Ring.{ring_read, ring_write, ring_erase, relocated, has_ring, judge_ring, judge_relocation, add_places, distance_of_places, ring_parts, front_bytes, wrapped_bytes}
use Rattle.assurance.specs.OneAnswer.{NoSecond, NoSecondPair}
use Rattle.ring.specs.declared.parts.Parts.{Parts}

pub record RingAnswers : Type 0 where
  pub split :
      (image_len file_len logical_pos len : ℕ) →
      NoSecond (λ (r : Result Parts Refusal). r ≡ ring_parts 8192 image_len file_len logical_pos len)
  pub front_part :
      (image : List ℕ) (file_len logical_pos len : ℕ) →
      NoSecond (λ (r : List ℕ). r ≡ front_bytes image (ring_parts 8192 (length image) file_len logical_pos len))
  pub wrapped_part :
      (image : List ℕ) (file_len logical_pos len : ℕ) →
      NoSecond (λ (r : List ℕ). r ≡ wrapped_bytes 8192 image (ring_parts 8192 (length image) file_len logical_pos len))
  pub has_ring : (start image_len file_len : ℕ) → NoSecond (λ (r : Bool). r ≡ has_ring start image_len file_len)
  pub add :
      (image_len file_len logical_pos delta : ℕ) →
      NoSecond (λ (r : Result ℕ Refusal). r ≡ add_places 8192 image_len file_len logical_pos delta)
  pub distance : (image_len file_len from to : ℕ) → NoSecond (λ (r : Result ℕ Refusal). r ≡ distance_of_places 8192 image_len file_len from to)
  pub read_at :
      (image : List ℕ) (file_len logical_pos : ℕ) (buf : List ℕ) →
      NoSecondPair (λ (r : Result (Unit {0}) Refusal) (buf' : List ℕ).
      (r ≡ judge_ring 8192 (length image) file_len)
      × (buf' ≡ after r (ring_read 8192 (file_len - 8192) image logical_pos (length buf)) buf))
  pub relocate :
      (image : List ℕ) (orig_file_len moved_count : ℕ) →
      NoSecondPair (λ (r : Result (Unit {0}) Refusal) (image' : List ℕ).
      (r ≡ judge_relocation 8192 (length image) orig_file_len moved_count)
      × (image' ≡ after r (relocated 8192 image orig_file_len moved_count) image))
  pub write_at :
      (image : List ℕ) (file_len logical_pos : ℕ) (buf : List ℕ) →
      NoSecondPair (λ (r : Result (Unit {0}) Refusal) (image' : List ℕ).
      (r ≡ judge_ring 8192 (length image) file_len)
      × (image' ≡ after r (ring_write 8192 (file_len - 8192) image logical_pos buf) image))
  pub erase_at :
      (image : List ℕ) (file_len logical_pos len : ℕ) →
      NoSecondPair (λ (r : Result (Unit {0}) Refusal) (image' : List ℕ).
      (r ≡ judge_ring 8192 (length image) file_len)
      × (image' ≡ after r (ring_erase 8192 (file_len - 8192) image logical_pos len) image))
