-- Clear: an empty queue is committed, its ring is zeroed if overwriting, and the file is cut. Assumes nothing.
use Rattle.std.specs.Prelude.{ℕ, ◌-◌, min, max, cond, List, length, replicate, ltb, Result}
use Rattle.wire.specs.Wire.{put_at}
use Rattle.refusal.specs.Answer.{on_verdict}
use Rattle.queue.specs.Element.{element}
use Rattle.queue.specs.declared.state.QueueFile.{QueueFile}
use Rattle.writing.specs.Work.{Work, done, kept, with_length, with_elements}
use Rattle.writing.specs.Commit.{judge_commit, committed}
use Rattle.refusal.specs.declared.Refusal.{Refusal}

-- the length that a cleared file is cut to: the set capacity, which is at least the ring's start
abbrev pub cleared_length : QueueFile → ℕ
cleared_length q = max q.settings.capacity 8192

-- no elements
abbrev pub emptied : QueueFile → QueueFile
emptied q = with_elements q 0 (element 0 0 0) (element 0 0 0)

-- the ring becomes zero up to that length, if overwriting
unfoldable pub ring_zeroed : Work → Work
ring_zeroed w =
    cond w.0.settings.overwrite_on_remove
    (w.0, put_at w.1 8192 (replicate (min w.0.file_len (cleared_length w.0) - 8192) 0))
    w

-- both lengths become that length, if the file is longer; the bytes beyond stay
abbrev pub cut_state : QueueFile → QueueFile
cut_state q = cond (ltb (cleared_length q) q.file_len) (with_length q (cleared_length q)) q

abbrev pub cut : Work → Work
cut w = (cut_state w.0, w.1)

-- the old file length is what is committed
unfoldable pub cleared : Work → Work
cleared w = cut (ring_zeroed (committed (emptied w.0, w.1)))

-- 28, 30; a queue that is empty too
unfoldable pub clear_of : QueueFile → List ℕ → Result QueueFile Refusal × List ℕ
clear_of q img = on_verdict (kept img) (judge_commit q (length img)) (done (cleared (q, img)))
