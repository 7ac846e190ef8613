-- Opening the file of `real` bytes at the front of an image. Assumes nothing.
use Rattle.std.specs.Prelude.{ℕ, ◌+◌, ◌-◌, ◌^◌, cond, List, length, take, drop, ltb, leb, eqb, Result, Ok, Err}
use Rattle.refusal.specs.declared.Refusal.TheVariants.{Unsound, NotASlot}
use Rattle.refusal.specs.Demand.{demand}
use Rattle.refusal.specs.declared.Refusal.{Refusal}
use Rattle.header.specs.Slot.{slot_offset, parse_slot}
use Rattle.header.specs.declared.HeaderSlot.{HeaderSlot}
use Rattle.header.specs.declared.HeaderSlot.TheVariants.{A, B}
use Rattle.header.specs.declared.SlotData.{SlotData}
use Rattle.format.specs.Slots.{elect_slot, check_slot}
use Rattle.format.specs.declared.slots.V2OpenState.{V2OpenState}
use Rattle.refusal.specs.Answer.{◌>>=◌, on_verdict}
use Rattle.queue.specs.Places.{to_logical}
use Rattle.queue.specs.Element.{element, element_here, header_at, header_in_sequence}
use Rattle.queue.specs.Recover.{recover_head}
use Rattle.queue.specs.declared.element.Element.{Element}
use Rattle.queue.specs.declared.state.Settings.{Settings}
use Rattle.queue.specs.declared.state.QueueFile.{QueueFile}
use Rattle.format.specs.declared.element.V2ElementHeader.{V2ElementHeader}

-- ---- the slot that holds

-- a slot is tried only if the real length reaches its end
unfoldable pub tried_slot : List ℕ → ℕ → HeaderSlot → Result SlotData Refusal
tried_slot img real which =
    demand (leb (slot_offset which + 56) real) (Err NotASlot)
    (parse_slot (take 56 (drop (slot_offset which) img)))

-- what it says has to be possible
unfoldable pub checked_state : Result V2OpenState Refusal → ℕ → Result V2OpenState Refusal
checked_state (Err r) real = Err r
checked_state (Ok o) real = on_verdict Err (check_slot o.slot real) (Ok o)

-- 28 for a real length above the image's or not below 2^63
unfoldable pub open_state : List ℕ → ℕ → Result V2OpenState Refusal
open_state img real =
    demand (leb real (length img)) (Err Unsound)
    (demand (ltb real (2 ^ 63)) (Err Unsound)
    (checked_state (elect_slot (tried_slot img real A) (tried_slot img real B)) real))

-- ---- the state

-- as the slot tells of it, with both ends all 0
abbrev pub built_queue : V2OpenState → ℕ → Settings → QueueFile
built_queue o real settings =
    record {
      file_len = o.slot.file_length;
      real_len = real;
      format =
          record {
            active_slot = o.active_slot;
            generation = o.slot.generation;
            next_seq = o.slot.next_sequence_number;
          };
      elem_cnt = o.slot.element_count;
      first = element 0 0 0;
      last = element 0 0 0;
      settings = settings;
    }

-- with these ends
abbrev pub with_ends : QueueFile → Element → Element → QueueFile
with_ends q first last =
    record {
      file_len = q.file_len;
      real_len = q.real_len;
      format = q.format;
      elem_cnt = q.elem_cnt;
      first = first;
      last = last;
      settings = q.settings;
    }

-- ---- its ends

-- a valid header at first is taken, its sequence unjudged; else the head is recovered from last
abbrev pub or_recovered : Result V2ElementHeader Refusal → ℕ → Result Element Refusal → Result Element Refusal
or_recovered (Ok h) p recovered = Ok (element_here p h)
or_recovered (Err r) p recovered = recovered

unfoldable pub first_element : List ℕ → ℕ → ℕ → Element → ℕ → Result Element Refusal
first_element img file p last n = or_recovered (header_at img file p) p (recover_head img file last.pos last.seq n)

-- the header at last has to be valid, with the sequence before the next one
unfoldable pub open_ends : List ℕ → QueueFile → SlotData → Result QueueFile Refusal
open_ends img q d = do
  first ← to_logical d.first_position
  last ← to_logical d.last_position
  h ← header_in_sequence img q.file_len last (d.next_sequence_number - 1)
  e ← first_element img q.file_len first (element_here last h) q.elem_cnt
  Ok (with_ends q e (element_here last h))

-- ---- opening

-- an empty queue opens with both ends all 0
abbrev pub opened_from : List ℕ → QueueFile → SlotData → Result QueueFile Refusal
opened_from img q d = cond (eqb q.elem_cnt 0) (Ok q) (open_ends img q d)

abbrev pub from_state : List ℕ → ℕ → Settings → Result V2OpenState Refusal → Result QueueFile Refusal
from_state img real settings (Err r) = Err r
from_state img real settings (Ok o) = opened_from img (built_queue o real settings) o.slot

unfoldable pub open_queue : List ℕ → ℕ → Settings → Result QueueFile Refusal
open_queue img real settings = from_state img real settings (open_state img real)
