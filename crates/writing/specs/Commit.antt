-- Commit: the state goes into the slot that is not active, which becomes the active one. Assumes nothing.
use Rattle.std.specs.Prelude.{ℕ, ◌+◌, ◌-◌, ◌^◌, ◌<◌, cond, List, length, ltb, eqb, Result, Ok, Err}
use Rattle.refusal.specs.declared.Refusal.TheVariants.{Unsound, Exhausted}
use Rattle.refusal.specs.Demand.{demand}
use Rattle.wire.specs.Wire.{put_at}
use Rattle.header.specs.Slot.{other_slot, slot_offset, slot_data, slot_bytes}
use Rattle.header.specs.declared.SlotData.{SlotData}
use Rattle.format.specs.declared.state.V2Format.{V2Format}
use Rattle.refusal.specs.Answer.{on_verdict}
use Rattle.queue.specs.State.{sound}
use Rattle.queue.specs.declared.element.Element.{Element}
use Rattle.queue.specs.declared.state.QueueFile.{QueueFile}
use Rattle.writing.specs.Work.{Work, done, kept, with_format}
use Rattle.refusal.specs.declared.Refusal.{Refusal}

-- ---- what is stored

-- a pointer is a physical place, or 0 where the queue is empty
abbrev pub pointer_to : ℕ → Element → ℕ
pointer_to count e = cond (eqb count 0) 0 (8192 + e.pos)

-- what a state's slot holds
abbrev pub slot_of : QueueFile → SlotData
slot_of q =
    slot_data
    q.file_len
    q.elem_cnt
    (pointer_to q.elem_cnt q.first)
    (pointer_to q.elem_cnt q.last)
    q.format.generation
    q.format.next_seq

-- the image once the state's active slot holds the state
unfoldable pub slot_stored : QueueFile → List ℕ → List ℕ
slot_stored q img = put_at img (slot_offset q.format.active_slot) (slot_bytes (slot_of q))

-- ---- the step

-- the other slot is active, with one generation more
abbrev pub next_format : V2Format → V2Format
next_format f = record { active_slot = other_slot f.active_slot; generation = f.generation + 1; next_seq = f.next_seq }

abbrev pub next_state : QueueFile → QueueFile
next_state q = with_format q (next_format q.format)

unfoldable pub committed : Work → Work
committed w = (next_state w.0, slot_stored (next_state w.0) w.1)

-- ---- the call

-- 30 where the generation after so many commits, or the next sequence after so many elements, passes 2^63 - 1
unfoldable pub judge_numbers : QueueFile → ℕ → ℕ → Result (Unit {0}) Refusal
judge_numbers q commits elements =
    demand (ltb (q.format.generation + commits) (2 ^ 63)) (Err Exhausted)
    (demand (ltb (q.format.next_seq + elements) (2 ^ 63)) (Err Exhausted)
    (Ok tt))

-- 28, then 30
unfoldable pub judge_commit : QueueFile → ℕ → Result (Unit {0}) Refusal
judge_commit q len = demand (sound q len) (Err Unsound) (judge_numbers q 1 0)

unfoldable pub commit_of : QueueFile → List ℕ → Result QueueFile Refusal × List ℕ
commit_of q img = on_verdict (kept img) (judge_commit q (length img)) (done (committed (q, img)))

-- ---- what the worker goes by

-- a state whose slot has numbers that fit
pub record Storable (q : QueueFile) : Type 0 where
  pub generation : q.format.generation < 2 ^ 64 - 1
  pub first : q.first.pos < 2 ^ 63
  pub last : q.last.pos < 2 ^ 63
