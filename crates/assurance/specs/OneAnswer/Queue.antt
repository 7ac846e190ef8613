-- No second answer fits a promise of the crate `queue`. Assumes nothing.
use Rattle.std.specs.Prelude.{ℕ, ◌≡◌, Bool, List, length, Result, Option}
use Rattle.std.specs.Borrow.{Bor}
use Rattle.refusal.specs.declared.Refusal.{Refusal}
use Rattle.format.specs.declared.element.V2ElementHeader.{V2ElementHeader}
use Rattle.queue.specs.Element.{element_here, read_header, payload_at}
use Rattle.queue.specs.Iter.{start_of, judge_step, stepped_output, cursor_after, reader_of, next_of, next_output}
use Rattle.queue.specs.Opening.{open_queue}
use Rattle.queue.specs.Peek.{judge_peek, peeked_output, judge_peek_place, peeked_part}
use Rattle.queue.specs.Places.{to_logical}
use Rattle.queue.specs.Recover.{recover_head}
use Rattle.queue.specs.SoundQueue.{sound_queue}
use Rattle.queue.specs.State.{remaining_bytes, sound, judge_used, judge_remaining}
use Rattle.queue.specs.Strict.{open_strictly}
use Rattle.queue.specs.declared.element.Element.{Element}
use Rattle.queue.specs.declared.iter.Cursor.{Cursor}
use Rattle.queue.specs.declared.iter.Iter.{Iter}
use Rattle.queue.specs.declared.iter.Next.{Next}
use Rattle.queue.specs.declared.sound_queue.SoundQueue.{SoundQueue}
use Rattle.queue.specs.declared.state.QueueFile.{QueueFile}
use Rattle.queue.specs.declared.state.Settings.{Settings}
use Rattle.assurance.specs.OneAnswer.{NoSecond, NoSecondPair}
use Rattle.queue.specs.declared.peek.Part.{Part}
use Rattle.queue.specs.declared.iter.Step.{Step}

pub record QueueAnswers : Type 0 where
  pub «Element::here» : (pos : ℕ) (header : V2ElementHeader) → NoSecond (λ (r : Element). r ≡ element_here pos header)
  pub validate_v2_element_header :
      (image : List ℕ) (file_len logical_pos : ℕ) → NoSecond (λ (r : Result V2ElementHeader Refusal). r ≡ read_header image file_len logical_pos)
  pub «Cursor::after» : (self : Cursor) (stepped : Result (Option Step) Refusal) → NoSecond (λ (r : Cursor). r ≡ cursor_after stepped self)
  pub «QueueFile::iter» : (self : QueueFile) → NoSecond (λ (r : Cursor). r ≡ start_of self)
  pub «QueueFile::step» :
      (self : QueueFile) (image : List ℕ) (cursor : Cursor) (out : List ℕ) →
      NoSecondPair (λ (r : Result (Option Step) Refusal) (out' : List ℕ).
      (r ≡ judge_step self image cursor (length out))
      × (out' ≡ stepped_output r image self.file_len out))
  pub «Iter::new» : (image : Bor (List ℕ)) (state : QueueFile) → NoSecond (λ (r : Iter). r ≡ reader_of image state)
  pub «Iter::next» :
      (self : Iter) (out : List ℕ) →
      NoSecondPair (λ (r : Next) (out' : List ℕ).
      (r ≡ next_of self (length out))
      × (out' ≡ next_output self out))
  pub «open» : (image : List ℕ) (real_len : ℕ) (settings : Settings) → NoSecond (λ (r : Result QueueFile Refusal). r ≡ open_queue image real_len settings)
  pub QueueFile::peek_into :
      (self : QueueFile) (image out : List ℕ) →
      NoSecondPair (λ (r : Result (Option ℕ) Refusal) (out' : List ℕ).
      (r ≡ judge_peek self image (length out))
      × (out' ≡ peeked_output r (payload_at image self.file_len self.first) out))
  pub QueueFile::peek_place : (self : QueueFile) (image : List ℕ) → NoSecond (λ (r : Result (Option Part) Refusal). r ≡ judge_peek_place self image)
  pub QueueFile::peek_part :
      (self : QueueFile) (image : List ℕ) → NoSecond (λ (r : List ℕ). r ≡ peeked_part image (judge_peek_place self image))
  pub to_logical : (phys : ℕ) → NoSecond (λ (r : Result ℕ Refusal). r ≡ to_logical phys)
  pub recover_v2_head :
      (image : List ℕ) (file_len last_logical_pos last_seq elem_cnt : ℕ) →
      NoSecond (λ (r : Result Element Refusal). r ≡ recover_head image file_len last_logical_pos last_seq elem_cnt)
  pub QueueFile::is_sound : (self : QueueFile) (image_len : ℕ) → NoSecond (λ (r : Bool). r ≡ sound self image_len)
  pub QueueFile::sound : (self : QueueFile) (image_len : ℕ) → NoSecond (λ (r : Result SoundQueue Refusal). r ≡ sound_queue self image_len)
  pub SoundQueue::remaining : (self : SoundQueue) → NoSecond (λ (r : ℕ). r ≡ remaining_bytes self.state)
  pub QueueFile::used_bytes : (self : QueueFile) (image_len : ℕ) → NoSecond (λ (r : Result ℕ Refusal). r ≡ judge_used self image_len)
  pub QueueFile::remaining_bytes : (self : QueueFile) (image_len : ℕ) → NoSecond (λ (r : Result ℕ Refusal). r ≡ judge_remaining self image_len)
  pub open_strict :
      (image : List ℕ) (real_len : ℕ) (settings : Settings) → NoSecond (λ (r : Result QueueFile Refusal). r ≡ open_strictly image real_len settings)
