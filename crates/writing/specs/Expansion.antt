-- Growth: the file gets longer, and where the elements wrap, those at the ring's start are laid behind those at its end. Each step stores
-- what its comment says, in the order of `laid_straight`. Assumes nothing.
use Rattle.std.specs.Prelude.{ℕ, zero, suc, ◌+◌, ◌-◌, ◌*◌, ◌^◌, ◌≤◌, ◌<◌, ◌≡◌, Bool, true, not, cond, ◌&&◌, List, length, replicate, ltb, eqb, Result, Err}
use Rattle.refusal.specs.declared.Refusal.TheVariants.{Unsound}
use Rattle.refusal.specs.Demand.{demand}
use Rattle.wire.specs.Wire.{put_at}
use Rattle.ring.specs.Ring.{ring_add, ring_write, relocated}
use Rattle.format.specs.Element.{element_span, stored_header}
use Rattle.format.specs.declared.element.V2ElementHeader.{V2ElementHeader}
use Rattle.refusal.specs.Answer.{on_ok, on_verdict}
use Rattle.queue.specs.Element.{element, capacity, header_at}
use Rattle.queue.specs.State.{sound}
use Rattle.queue.specs.Opening.{with_ends}
use Rattle.queue.specs.declared.state.QueueFile.{QueueFile}
use Rattle.writing.specs.Work.{Work, done, kept, with_length}
use Rattle.writing.specs.Commit.{committed}
use Rattle.writing.specs.Growth.{end_of_last, wrapped, judge_length, check_growth}
use Rattle.refusal.specs.declared.Refusal.{Refusal}

-- ---- the file

-- the bytes from the real length to the new one become zero, and both lengths the new one
unfoldable pub lengthened : ℕ → Work → Work
lengthened n w = (with_length w.0 n, put_at w.1 w.0.real_len (replicate (n - w.0.real_len) 0))

-- ---- the elements at the ring's start: `old` is the file length before, `end` the end of last

-- they are copied to the end of the old file
abbrev pub moved : ℕ → ℕ → Work → Work
moved old end w = (w.0, relocated 8192 w.1 old end)

-- a backlink to one of them
abbrev pub names_moved : ℕ → ℕ → Bool
names_moved end link = not (eqb link 0) && ltb link (8192 + end)

-- is changed to where it is now, in the header at the place p
unfoldable pub relinked_header : ℕ → ℕ → ℕ → List ℕ → ℕ → V2ElementHeader → List ℕ
relinked_header file old end img p h =
    cond (names_moved end h.prev_pos)
    (ring_write 8192 (capacity file) img p (stored_header h.seq (h.prev_pos + (old - 8192)) h.payload_len))
    img

-- a header at a time, in the new ring; after the walk each is valid, and one that is not would end it
abbrev pub relink_step : ℕ → ℕ → ℕ → List ℕ → ℕ → Result V2ElementHeader Refusal → (List ℕ → ℕ → List ℕ) → List ℕ
relink_step file old end img p d rest =
    on_ok (λ _. img) d (λ h.
    rest (relinked_header file old end img p h) (ring_add (capacity file) p (element_span h.payload_len)))

unfoldable pub relink_from : ℕ → ℕ → ℕ → ℕ → List ℕ → ℕ → List ℕ
relink_from file old end zero img p = img
relink_from file old end (suc left) img p = relink_step file old end img p (header_at img file p) (relink_from file old end left)

-- all of them, from first on
abbrev pub relinked : ℕ → ℕ → Work → Work
relinked old end w = (w.0, relink_from w.0.file_len old end w.0.elem_cnt w.1 w.0.first.pos)

-- last stands behind the old capacity
abbrev pub last_moved : ℕ → QueueFile → QueueFile
last_moved old q =
    with_ends q q.first (element (q.last.pos + (old - 8192)) q.last.len q.last.seq)

-- if it stood before first, and is then committed if what it stood in is to be zeroed
unfoldable pub last_placed : ℕ → Work → Work
last_placed old w =
    cond (ltb w.0.last.pos w.0.first.pos)
    (cond w.0.settings.overwrite_on_remove (committed (last_moved old w.0, w.1)) (last_moved old w.0, w.1))
    w

-- the bytes that they were copied from become zero, if overwriting
unfoldable pub start_zeroed : ℕ → Work → Work
start_zeroed end w = cond w.0.settings.overwrite_on_remove (w.0, put_at w.1 8192 (replicate end 0)) w

-- the stores, in their order
unfoldable pub laid_straight : ℕ → ℕ → Work → Work
laid_straight old end w = start_zeroed end (last_placed old (relinked old end (moved old end w)))

-- ---- growth

unfoldable pub expanded : ℕ → Work → Work
expanded n w =
    cond (wrapped w.0) (laid_straight w.0.file_len (end_of_last w.0) (lengthened n w)) (lengthened n w)

-- to the length n, where the file is not that long
unfoldable pub grown : ℕ → Work → Work
grown n w = cond (ltb w.0.file_len n) (expanded n w) w

-- ---- growth alone, for a span

-- 28, then 30 for its own commit, 27 and 26
unfoldable pub judge_expansion : QueueFile → ℕ → ℕ → Result ℕ Refusal
judge_expansion q len span = demand (sound q len) (Err Unsound) (judge_length q len span 0 0)

unfoldable pub expand_of : QueueFile → ℕ → List ℕ → Result QueueFile Refusal × List ℕ
expand_of q span img =
    on_ok (kept img) (judge_expansion q (length img) span) (λ n.
    on_verdict (kept img) (check_growth q img n)
    (done (grown n (q, img))))

-- ---- what the workers go by

-- a sound state in an image of len bytes, and a length that it can grow to
pub record Expands (q : QueueFile) (len n : ℕ) : Type 0 where
  pub sound : sound q len ≡ true
  pub twice : 2 * q.file_len ≤ n
  pub inside : n ≤ len
  pub small : n < 2 ^ 63
