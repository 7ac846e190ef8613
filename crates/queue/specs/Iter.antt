-- Iteration: the element at a cursor, and the cursor after it. Assumes nothing.
use Rattle.std.specs.Prelude.{ℕ, ◌+◌, cond, List, length, ltb, leb, Result, Ok, Err, Option, Some, None}
use Rattle.std.specs.Borrow.{Bor}
use Rattle.refusal.specs.declared.Refusal.TheVariants.{Unsound, OutputTooSmall}
use Rattle.refusal.specs.Demand.{demand}
use Rattle.refusal.specs.declared.Refusal.{Refusal}
use Rattle.wire.specs.Wire.{put_at}
use Rattle.ring.specs.Ring.{ring_add}
use Rattle.format.specs.Element.{element_span}
use Rattle.format.specs.declared.element.V2ElementHeader.{V2ElementHeader}
use Rattle.refusal.specs.Answer.{on_ok, on_verdict}
use Rattle.queue.specs.Element.{capacity, element_here, header_at, payload_at, footer_verdict}
use Rattle.queue.specs.State.{sound}
use Rattle.queue.specs.declared.state.QueueFile.{QueueFile}
use Rattle.queue.specs.declared.iter.Cursor.{Cursor}
use Rattle.queue.specs.declared.iter.Iter.{Iter}
use Rattle.queue.specs.declared.iter.Next.{Next}
use Rattle.queue.specs.declared.iter.Step.{Step}

abbrev pub cursor_at : ℕ → ℕ → Cursor
cursor_at index p = record { next_elem_index = index; next_elem_pos = p }

-- iteration starts at first
abbrev pub start_of : QueueFile → Cursor
start_of q = cursor_at 0 q.first.pos

-- the element at a cursor: what its header says, and the cursor behind its span
abbrev pub step_here : ℕ → Cursor → V2ElementHeader → Step
step_here file c h =
    record {
      index = c.next_elem_index;
      elem = element_here c.next_elem_pos h;
      prev_pos = h.prev_pos;
      next =
          cursor_at (c.next_elem_index + 1) (ring_add (capacity file) c.next_elem_pos (element_span h.payload_len));
    }

-- 29 for an output of `room` bytes that is too small, and then the footer
abbrev pub step_on : List ℕ → ℕ → Cursor → ℕ → V2ElementHeader → Result (Option Step) Refusal
step_on img file c room h =
    demand (leb h.payload_len room) (Err OutputTooSmall)
    (on_verdict Err (footer_verdict img file (element_here c.next_elem_pos h))
    (Ok (Some (step_here file c h))))

-- 28, then the end at the count, whatever the place; 28 for a place that is not in the ring; then the header
unfoldable pub judge_step : QueueFile → List ℕ → Cursor → ℕ → Result (Option Step) Refusal
judge_step q img c room =
    demand (sound q (length img)) (Err Unsound)
    (cond (leb q.elem_cnt c.next_elem_index) (Ok None)
    (demand (ltb c.next_elem_pos (capacity q.file_len)) (Err Unsound)
    (on_ok Err (header_at img q.file_len c.next_elem_pos) (step_on img q.file_len c room))))

-- the output then: the payload at its front, or what it was
abbrev pub stepped_output : Result (Option Step) Refusal → List ℕ → ℕ → List ℕ → List ℕ
stepped_output (Ok (Some s)) img file out = put_at out 0 (payload_at img file s.elem)
stepped_output (Ok None) img file out = out
stepped_output (Err r) img file out = out

-- after a refusal or the end the cursor stays where it was
abbrev pub cursor_after : Result (Option Step) Refusal → Cursor → Cursor
cursor_after (Ok (Some s)) c = s.next
cursor_after (Ok None) c = c
cursor_after (Err r) c = c

-- a reader of an image: it starts at first, as iteration does
abbrev pub reader_of : Bor (List ℕ) → QueueFile → Iter
reader_of image q = record { image = image; state = q; cursor = start_of q }

-- the answer at a reader's place, for an output of `room` bytes
abbrev pub next_answer : Iter → ℕ → Result (Option Step) Refusal
next_answer it room = judge_step it.state it.image.now it.cursor room

-- that answer, and the reader then: the same image and state, and the cursor after the answer
abbrev pub next_of : Iter → ℕ → Next
next_of it room =
    record {
      stepped = next_answer it room;
      iter = record { image = it.image; state = it.state; cursor = cursor_after (next_answer it room) it.cursor };
    }

-- the output then, as after a step
abbrev pub next_output : Iter → List ℕ → List ℕ
next_output it out = stepped_output (next_answer it (length out)) it.image.now it.state.file_len out
