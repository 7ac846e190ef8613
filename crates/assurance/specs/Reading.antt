-- What is read from a queue is the list that it holds: its elements are of one run, peek gives the first and iteration all of them,
-- by a cursor and by a reader. Assumes nothing.
use Rattle.std.specs.Prelude.{ℕ, zero, suc, ◌-◌, ◌≤◌, ◌≡◌, List, [], ◌∷◌, length, Result, Ok, Err, Option, Some, None}
use Rattle.std.specs.Borrow.{Bor}
use Rattle.wire.specs.Wire.{bytes_at}
use Rattle.queue.specs.Element.{capacity, payload_at}
use Rattle.queue.specs.Peek.{judge_peek}
use Rattle.queue.specs.Iter.{start_of, judge_step, reader_of, next_of, next_output}
use Rattle.queue.specs.declared.state.QueueFile.{QueueFile}
use Rattle.queue.specs.declared.iter.Cursor.{Cursor}
use Rattle.queue.specs.declared.iter.Iter.{Iter}
use Rattle.assurance.specs.Held.{Held, elements_of, sequences_of}
use Rattle.assurance.specs.Linked.{Linked}
use Rattle.refusal.specs.declared.Refusal.{Refusal}
use Rattle.queue.specs.declared.iter.Step.{Step}

-- ---- one run

-- n sequences from s on, one more each
abbrev pub up_from : ℕ → ℕ → List ℕ
up_from s zero = []
up_from s (suc n) = s ∷ up_from (suc s) n

-- a linked queue holds as many elements as it counts, and the last of them came before the next sequence
abbrev pub LinkedIsOneRun : Type 0
LinkedIsOneRun =
    (img : List ℕ) (q : QueueFile) → Linked img q →
    sequences_of (elements_of q img) ≡ up_from (q.format.next_seq - q.elem_cnt) q.elem_cnt

-- ---- peek

abbrev pub first_payload : List Held → List ℕ
first_payload [] = []
first_payload (e ∷ es) = e.payload

-- with room for it, peek answers the first payload's length, and that payload is what it hands out
abbrev pub PeekGivesFirst : Type 0
PeekGivesFirst =
    (img : List ℕ) (q : QueueFile) (room : ℕ) → Linked img q → q.first.len ≤ room →
    (judge_peek q img room ≡ Ok (Some q.first.len))
    × (payload_at img q.file_len q.first ≡ first_payload (elements_of q img))

-- ---- iteration

-- what it hands out from a cursor on, in so many steps: it stops at the end, or at the first refused element
abbrev pub handed_step : List ℕ → ℕ → Result (Option Step) Refusal → (Cursor → List Held) → List Held
handed_step img file (Ok (Some s)) rest =
    record { place = s.elem.pos; seq = s.elem.seq; back = s.prev_pos; payload = payload_at img file s.elem } ∷ rest s.next
handed_step img file (Ok None) rest = []
handed_step img file (Err r) rest = []

unfoldable pub handed : QueueFile → List ℕ → ℕ → ℕ → Cursor → List Held
handed q img room zero c = []
handed q img room (suc left) c = handed_step img q.file_len (judge_step q img c room) (handed q img room left)

-- with room for each, all of them in their order, however many steps are made
abbrev pub IterationGivesAll : Type 0
IterationGivesAll =
    (img : List ℕ) (q : QueueFile) (room steps : ℕ) → Linked img q → capacity q.file_len ≤ room → q.elem_cnt ≤ steps →
    handed q img room steps (start_of q) ≡ elements_of q img

-- what a reader hands out from `next` to `next` over one output, in so many steps: the payload is what then stands at the output's front
abbrev pub read_step : Result (Option Step) Refusal → List ℕ → List Held → List Held
read_step (Ok (Some s)) out rest =
    record { place = s.elem.pos; seq = s.elem.seq; back = s.prev_pos; payload = bytes_at s.elem.len out 0 } ∷ rest
read_step (Ok None) out rest = []
read_step (Err r) out rest = []

unfoldable pub read_by : Iter → List ℕ → ℕ → List Held
read_by it out zero = []
read_by it out (suc left) =
    read_step (next_of it (length out)).stepped (next_output it out) (read_by (next_of it (length out)).iter (next_output it out) left)

-- with room for each, all of them in their order, byte for byte in the output
abbrev pub ReaderGivesAll : Type 0
ReaderGivesAll =
    (image : Bor (List ℕ)) (q : QueueFile) (out : List ℕ) (steps : ℕ) → Linked image.now q → capacity q.file_len ≤ length out →
    q.elem_cnt ≤ steps → read_by (reader_of image q) out steps ≡ elements_of q image.now
