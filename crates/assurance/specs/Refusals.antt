-- A refusal changes nothing. Each public function that is lent bytes to write and has an answer has a line below, by the names of its
-- crate and itself, with its promise word for word as in OneAnswer: what keeps the promise and is a refusal leaves the bytes as they were.
-- `.ci/contracts` holds each line to its promise, and sees that no such function is left out. A state or a cursor goes in by value, so that
-- the caller's own stays as it is whatever is answered; what a cursor is after a step, and a reader, has a line too. Assumes nothing.
use Rattle.std.specs.Prelude.{ℕ, suc, ◌-◌, ◌≡◌, List, length, Result, Err, Option, None}
use Rattle.refusal.specs.Answer.{number_or_0, after}
use Rattle.refusal.specs.declared.Refusal.{Refusal}
use Rattle.script.specs.Hex.{bytes_of}
use Rattle.ring.specs.Ring.{ring_read, ring_write, ring_erase, relocated, judge_ring, judge_relocation}
use Rattle.queue.specs.Element.{payload_at}
use Rattle.queue.specs.Peek.{judge_peek, peeked_output}
use Rattle.queue.specs.Iter.{judge_step, stepped_output, cursor_after, next_of, next_output}
use Rattle.queue.specs.declared.state.Settings.{Settings}
use Rattle.queue.specs.declared.state.QueueFile.{QueueFile}
use Rattle.queue.specs.declared.iter.Cursor.{Cursor}
use Rattle.queue.specs.declared.iter.Iter.{Iter}
use Rattle.queue.specs.declared.iter.Next.{Next}
use Rattle.writing.specs.Commit.{commit_of}
use Rattle.writing.specs.Expansion.{expand_of}
use Rattle.writing.specs.Adding.{add_of}
use Rattle.writing.specs.Removal.{remove_of}
use Rattle.writing.specs.Clearing.{clear_of}
use Rattle.writing.specs.Fresh.{fresh_of}
use Rattle.exports.specs.Runs.{adds_of, removes_of, clears_of, peeks_of, steps_of}
use Rattle.queue.specs.declared.iter.Step.{Step}

-- of a promise P: with a refusal, whichever, the bytes are the old ones
abbrev pub Unchanged : {A X : Type 0} → (X → A) → List ℕ → (A → List ℕ → Type 0) → Type 0
Unchanged {X = X} refuse old P = (x : X) (s : List ℕ) → P (refuse x) s → s ≡ old

-- a reader's step that is refused, with a reader beside it, whichever
abbrev pub next_refused : Refusal × Iter → Next
next_refused x = record { stepped = Err x.0; iter = x.1 }

pub record RefusalsChangeNothing : Type 0 where
  -- it refuses in one way, without a number
  pub script::parse_bytes :
      (word out : List ℕ) →
      Unchanged (λ (x : Refusal). None) out (λ (r : Option ℕ) (out' : List ℕ). (r, out') ≡ bytes_of word out)
  pub ring::read_at :
      (image : List ℕ) (file_len logical_pos : ℕ) (buf : List ℕ) →
      Unchanged Err buf (λ (r : Result (Unit {0}) Refusal) (buf' : List ℕ).
      (r ≡ judge_ring 8192 (length image) file_len)
      × (buf' ≡ after r (ring_read 8192 (file_len - 8192) image logical_pos (length buf)) buf))
  pub «ring::relocate» :
      (image : List ℕ) (orig_file_len moved_count : ℕ) →
      Unchanged Err image (λ (r : Result (Unit {0}) Refusal) (image' : List ℕ).
      (r ≡ judge_relocation 8192 (length image) orig_file_len moved_count)
      × (image' ≡ after r (relocated 8192 image orig_file_len moved_count) image))
  pub ring::write_at :
      (image : List ℕ) (file_len logical_pos : ℕ) (buf : List ℕ) →
      Unchanged Err image (λ (r : Result (Unit {0}) Refusal) (image' : List ℕ).
      (r ≡ judge_ring 8192 (length image) file_len)
      × (image' ≡ after r (ring_write 8192 (file_len - 8192) image logical_pos buf) image))
  pub ring::erase_at :
      (image : List ℕ) (file_len logical_pos len : ℕ) →
      Unchanged Err image (λ (r : Result (Unit {0}) Refusal) (image' : List ℕ).
      (r ≡ judge_ring 8192 (length image) file_len)
      × (image' ≡ after r (ring_erase 8192 (file_len - 8192) image logical_pos len) image))
  pub queue::QueueFile::peek_into :
      (self : QueueFile) (image out : List ℕ) →
      Unchanged Err out (λ (r : Result (Option ℕ) Refusal) (out' : List ℕ).
      (r ≡ judge_peek self image (length out))
      × (out' ≡ peeked_output r (payload_at image self.file_len self.first) out))
  pub «queue::QueueFile::step» :
      (self : QueueFile) (image : List ℕ) (cursor : Cursor) (out : List ℕ) →
      Unchanged Err out (λ (r : Result (Option Step) Refusal) (out' : List ℕ).
      (r ≡ judge_step self image cursor (length out))
      × (out' ≡ stepped_output r image self.file_len out))
  pub the-cursor : (cursor : Cursor) (x : Refusal) → cursor_after (Err x) cursor ≡ cursor
  pub «queue::Iter::next» :
      (self : Iter) (out : List ℕ) →
      Unchanged next_refused out (λ (r : Next) (out' : List ℕ).
      (r ≡ next_of self (length out))
      × (out' ≡ next_output self out))
  pub the-reader : (self : Iter) (room : ℕ) (x : Refusal × Iter) → next_refused x ≡ next_of self room → x.1 ≡ self
  pub «writing::fresh» :
      (image : List ℕ) (file_len : ℕ) (settings : Settings) →
      Unchanged Err image (λ (r : Result QueueFile Refusal) (image' : List ℕ). (r, image') ≡ fresh_of file_len settings image)
  pub «writing::commit» :
      (q : QueueFile) (image : List ℕ) →
      Unchanged Err image (λ (r : Result QueueFile Refusal) (image' : List ℕ). (r, image') ≡ commit_of q image)
  pub «writing::add» :
      (q : QueueFile) (image payload : List ℕ) →
      Unchanged Err image (λ (r : Result QueueFile Refusal) (image' : List ℕ). (r, image') ≡ add_of q payload image)
  pub writing::remove_n :
      (q : QueueFile) (image : List ℕ) (n : ℕ) →
      Unchanged Err image (λ (r : Result QueueFile Refusal) (image' : List ℕ). (r, image') ≡ remove_of q n image)
  pub «writing::clear» :
      (q : QueueFile) (image : List ℕ) →
      Unchanged Err image (λ (r : Result QueueFile Refusal) (image' : List ℕ). (r, image') ≡ clear_of q image)
  pub writing::expand_if_necessary :
      (q : QueueFile) (image : List ℕ) (data_len : ℕ) →
      Unchanged Err image (λ (r : Result QueueFile Refusal) (image' : List ℕ). (r, image') ≡ expand_of q data_len image)
  -- these answer a number, which is not 0 where they refuse
  pub exports::port_ring_read :
      (image : List ℕ) (file_len logical_pos : ℕ) (buf : List ℕ) →
      Unchanged suc buf (λ (r : ℕ) (buf' : List ℕ).
      (r ≡ number_or_0 (judge_ring 8192 (length image) file_len))
      × (buf' ≡ after (judge_ring 8192 (length image) file_len) (ring_read 8192 (file_len - 8192) image logical_pos (length buf)) buf))
  pub exports::port_ring_write :
      (image : List ℕ) (file_len logical_pos : ℕ) (buf : List ℕ) →
      Unchanged suc image (λ (r : ℕ) (image' : List ℕ).
      (r ≡ number_or_0 (judge_ring 8192 (length image) file_len))
      × (image' ≡ after (judge_ring 8192 (length image) file_len) (ring_write 8192 (file_len - 8192) image logical_pos buf) image))
  pub exports::port_ring_erase :
      (image : List ℕ) (file_len logical_pos len : ℕ) →
      Unchanged suc image (λ (r : ℕ) (image' : List ℕ).
      (r ≡ number_or_0 (judge_ring 8192 (length image) file_len))
      × (image' ≡ after (judge_ring 8192 (length image) file_len) (ring_erase 8192 (file_len - 8192) image logical_pos len) image))
  pub exports::port_relocate :
      (image : List ℕ) (orig_file_len moved_count : ℕ) →
      Unchanged suc image (λ (r : ℕ) (image' : List ℕ).
      (r ≡ number_or_0 (judge_relocation 8192 (length image) orig_file_len moved_count))
      × (image' ≡ after (judge_relocation 8192 (length image) orig_file_len moved_count) (relocated 8192 image orig_file_len moved_count) image))
  -- these answer how many of n operations were carried out, and refuse at once where that is 0; a later one that is refused ends them, and
  -- what those before it did stays
  pub exports::port_add :
      (image : List ℕ) (real_len : ℕ) (payload : List ℕ) (n : ℕ) →
      Unchanged (λ (x : Refusal). 0) image (λ (r : ℕ) (image' : List ℕ). (r, image') ≡ adds_of payload n real_len image)
  pub exports::port_remove :
      (image : List ℕ) (real_len n : ℕ) →
      Unchanged (λ (x : Refusal). 0) image (λ (r : ℕ) (image' : List ℕ). (r, image') ≡ removes_of n real_len image)
  pub exports::port_clear :
      (image : List ℕ) (real_len n : ℕ) →
      Unchanged (λ (x : Refusal). 0) image (λ (r : ℕ) (image' : List ℕ). (r, image') ≡ clears_of n real_len image)
  pub exports::port_peek :
      (image : List ℕ) (real_len : ℕ) (out : List ℕ) (n : ℕ) →
      Unchanged (λ (x : Refusal). 0) out (λ (r : ℕ) (out' : List ℕ). (r, out') ≡ peeks_of image real_len n out)
  pub exports::port_iterate :
      (image : List ℕ) (real_len : ℕ) (out : List ℕ) (n : ℕ) →
      Unchanged (λ (x : Refusal). 0) out (λ (r : ℕ) (out' : List ℕ). (r, out') ≡ steps_of image real_len n out)
