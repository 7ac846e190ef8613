-- What is asked before a file grows: the numbers, the new length, and the walk in the old ring. Assumes nothing.
use Rattle.std.specs.Prelude.{ℕ, zero, suc, ◌+◌, Bool, not, cond, ◌&&◌, List, ltb, leb, eqb, Result, Ok, Err}
use Rattle.refusal.specs.declared.Refusal.TheVariants.{Unsound, BufferTooSmall}
use Rattle.refusal.specs.Demand.{demand}
use Rattle.ring.specs.Ring.{ring_add}
use Rattle.format.specs.Element.{element_span}
use Rattle.refusal.specs.Answer.{on_ok, on_verdict}
use Rattle.queue.specs.Element.{capacity, header_at}
use Rattle.queue.specs.State.{remaining_bytes}
use Rattle.queue.specs.declared.element.Element.{Element}
use Rattle.queue.specs.declared.state.QueueFile.{QueueFile}
use Rattle.writing.specs.Commit.{judge_numbers}
use Rattle.writing.specs.Length.{grow_length}
use Rattle.refusal.specs.declared.Refusal.{Refusal}

-- ---- how the elements lie

-- the place behind an element, which may be 0
abbrev pub behind : ℕ → Element → ℕ
behind file e = ring_add (capacity file) e.pos (element_span e.len)

-- the end of last
abbrev pub end_of_last : QueueFile → ℕ
end_of_last q = behind q.file_len q.last

-- growth wraps where there are elements and the end is not behind first
unfoldable pub wrapped : QueueFile → Bool
wrapped q = not (eqb q.elem_cnt 0) && leb (end_of_last q) q.first.pos

-- ---- numbers

-- growth commits where it moves last and is to zero what it moved from
unfoldable pub commits_growth : QueueFile → ℕ → Bool
commits_growth q span =
    ltb (remaining_bytes q) span
    && (wrapped q
    && (ltb q.last.pos q.first.pos
    && q.settings.overwrite_on_remove))

abbrev pub growth_commits : QueueFile → ℕ → ℕ
growth_commits q span = cond (commits_growth q span) 1 0

-- 26 for a length above the image's
abbrev pub within_image : ℕ → Result ℕ Refusal → Result ℕ Refusal
within_image len c = on_ok Err c (λ n. demand (leb n len) (Err BufferTooSmall) (Ok n))

-- the file length that makes room for a span, where a call makes so many commits beside growth's and adds so many elements: 30, then
-- 27, then 26; the length that there is where that has room
unfoldable pub judge_length : QueueFile → ℕ → ℕ → ℕ → ℕ → Result ℕ Refusal
judge_length q len span commits elements =
    on_verdict Err (judge_numbers q (commits + growth_commits q span) elements)
    (within_image len (grow_length q.file_len (remaining_bytes q) span))

-- ---- the walk in the old ring

-- the element at the place p has a valid header, and with `spans` bytes before it stays within the capacity; the rest goes on behind it
abbrev pub walk_step : List ℕ → ℕ → ℕ → ℕ → (ℕ → ℕ → ℕ → Result (Unit {0}) Refusal) → Result (Unit {0}) Refusal
walk_step img file p spans rest =
    on_ok Err (header_at img file p) (λ h.
    demand (leb (spans + element_span h.payload_len) (capacity file)) (Err Unsound)
    (rest p (ring_add (capacity file) p (element_span h.payload_len)) (spans + element_span h.payload_len)))

-- the elements that are left, behind the one at `before`; the last of all stands where the state's last does
unfoldable pub walk_from : List ℕ → ℕ → ℕ → ℕ → ℕ → ℕ → ℕ → Result (Unit {0}) Refusal
walk_from img file last zero before p spans = demand (eqb before last) (Err Unsound) (Ok tt)
walk_from img file last (suc left) before p spans = walk_step img file p spans (walk_from img file last left)

-- from first on; before it there is none, and as many as there are are walked
unfoldable pub walk_old_ring : QueueFile → List ℕ → Result (Unit {0}) Refusal
walk_old_ring q img = walk_from img q.file_len q.last.pos q.elem_cnt q.first.pos q.first.pos 0

-- ---- all that is asked

-- a file that is to be n bytes long, which is longer, and wraps, is walked
unfoldable pub check_growth : QueueFile → List ℕ → ℕ → Result (Unit {0}) Refusal
check_growth q img n = cond (ltb q.file_len n && wrapped q) (walk_old_ring q img) (Ok tt)
