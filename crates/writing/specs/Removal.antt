-- Remove: the queue goes on at the element behind those that are removed. Assumes nothing.
use Rattle.std.specs.Prelude.{ℕ, zero, suc, ◌-◌, cond, List, length, leb, eqb, Result, Ok, Err}
use Rattle.refusal.specs.declared.Refusal.TheVariants.{Unsound}
use Rattle.refusal.specs.Demand.{demand}
use Rattle.refusal.specs.declared.Refusal.{Refusal}
use Rattle.ring.specs.Ring.{ring_distance, ring_erase}
use Rattle.refusal.specs.Answer.{on_ok, on_verdict}
use Rattle.queue.specs.Element.{capacity, element_here, header_at}
use Rattle.queue.specs.State.{sound}
use Rattle.queue.specs.declared.element.Element.{Element}
use Rattle.queue.specs.declared.state.QueueFile.{QueueFile}
use Rattle.writing.specs.Work.{Work, done, kept, with_elements}
use Rattle.writing.specs.Commit.{judge_numbers, committed}
use Rattle.writing.specs.Growth.{behind}
use Rattle.writing.specs.Clearing.{clear_of}

-- ---- the walk

-- a header either parses, or the walk stops there with its refusal
abbrev pub skip_step : List ℕ → ℕ → Element → (Element → Result Element Refusal) → Result Element Refusal
skip_step img file e rest = on_ok Err (header_at img file (behind file e)) (λ h. rest (element_here (behind file e) h))

-- n times on by a span, from an element whose length is known
unfoldable pub skip_from : List ℕ → ℕ → ℕ → Element → Result Element Refusal
skip_from img file zero e = Ok e
skip_from img file (suc left) e = skip_step img file e (skip_from img file left)

-- ---- the steps

-- n elements less, the first of which is e
abbrev pub dropped : QueueFile → ℕ → Element → QueueFile
dropped q n e = with_elements q (q.elem_cnt - n) e q.last

-- the ring becomes zero from the old first on to the new one, if overwriting
unfoldable pub removed_zeroed : ℕ → ℕ → Work → Work
removed_zeroed from to w =
    cond w.0.settings.overwrite_on_remove
    (w.0, ring_erase 8192 (capacity w.0.file_len) w.1 from (ring_distance (capacity w.0.file_len) from to))
    w

-- ---- the call

-- 30, then the commit, then the zeroing
unfoldable pub remove_to : QueueFile → ℕ → List ℕ → Element → Result QueueFile Refusal × List ℕ
remove_to q n img e =
    on_verdict (kept img) (judge_numbers q 1 0)
    (done (removed_zeroed q.first.pos e.pos (committed (dropped q n e, img))))

-- some elements, of more
unfoldable pub remove_some : QueueFile → ℕ → List ℕ → Result QueueFile Refusal × List ℕ
remove_some q n img = on_ok (kept img) (skip_from img q.file_len n q.first) (remove_to q n img)

-- 28; nothing changes if none is to be removed or there is none; all of them, or more, is clear
unfoldable pub remove_of : QueueFile → ℕ → List ℕ → Result QueueFile Refusal × List ℕ
remove_of q n img =
    demand (sound q (length img)) (kept img Unsound)
    (cond (eqb n 0) (done (q, img))
    (cond (eqb q.elem_cnt 0) (done (q, img))
    (cond (leb q.elem_cnt n) (clear_of q img)
    (remove_some q n img))))
