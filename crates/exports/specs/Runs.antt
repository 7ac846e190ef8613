-- Many operations in one call: they work one behind the other, up to the first that is refused, and are counted. Assumes nothing.
use Rattle.std.specs.Prelude.{ℕ, zero, suc, ◌+◌, ◌≡◌, true, List, length, Result, Ok, Err, Option, Some, None}
use Rattle.std.specs.Borrow.{MutBor}
use Rattle.queue.specs.Element.{payload_at}
use Rattle.queue.specs.Opening.{open_queue}
use Rattle.queue.specs.Peek.{judge_peek, peeked_output}
use Rattle.queue.specs.Iter.{start_of, judge_step, stepped_output}
use Rattle.queue.specs.declared.state.Settings.{Settings}
use Rattle.queue.specs.declared.state.QueueFile.{QueueFile}
use Rattle.queue.specs.declared.iter.Cursor.{Cursor}
use Rattle.writing.specs.Adding.{add_of}
use Rattle.writing.specs.Removal.{remove_of}
use Rattle.writing.specs.Clearing.{clear_of}
use Rattle.refusal.specs.declared.Refusal.{Refusal}
use Rattle.queue.specs.declared.iter.Step.{Step}

-- how many operations were carried out, and the image or the output then
abbrev pub Run : Type 0
Run = ℕ × List ℕ

-- ---- the queue

-- a queue whose capacity is its file's length, so that clearing it cuts nothing off
abbrev pub settings_of : ℕ → Settings
settings_of real = record { capacity = real; overwrite_on_remove = true }

-- where the image does not open, nothing is carried out and nothing is changed
abbrev pub on_opened : Result QueueFile Refusal → List ℕ → (QueueFile → Run) → Run
on_opened (Ok q) bytes next = next q
on_opened (Err r) bytes next = (0, bytes)

abbrev pub opened : List ℕ → ℕ → Result QueueFile Refusal
opened img real = open_queue img real (settings_of real)

-- ---- operations that change it

-- behind an operation with that answer and that image
abbrev pub on_changed : Result QueueFile Refusal → List ℕ → ℕ → (QueueFile → List ℕ → Run) → Run
on_changed (Ok q) img done next = next q img
on_changed (Err r) img done next = (done, img)

-- what a call answers, and leaves in the image that it is lent, is what the operation says
abbrev pub Follows :
    (QueueFile → MutBor (List ℕ) → Result QueueFile Refusal → MutBor (List ℕ) → Type 0) →
    (QueueFile → List ℕ → Result QueueFile Refusal × List ℕ) → Type 0
Follows call op = (q : QueueFile) (image : MutBor (List ℕ)) (r : Result QueueFile Refusal) (left : MutBor (List ℕ)) →
    call q image r left → (r, left.now) ≡ op q image.now

-- the operation as often as is left, on a queue and an image that `done` of them have come to
unfoldable pub run_from : (QueueFile → List ℕ → Result QueueFile Refusal × List ℕ) → ℕ → ℕ → QueueFile → List ℕ → Run
run_from op zero done q img = (done, img)
run_from op (suc left) done q img = on_changed (op q img).0 (op q img).1 done (run_from op left (done + 1))

abbrev pub run_of : (QueueFile → List ℕ → Result QueueFile Refusal × List ℕ) → ℕ → ℕ → List ℕ → Run
run_of op n real img = on_opened (opened img real) img (λ q. run_from op n 0 q img)

abbrev pub adds_of : List ℕ → ℕ → ℕ → List ℕ → Run
adds_of payload = run_of (λ q. add_of q payload)

-- each removes one element
abbrev pub removes_of : ℕ → ℕ → List ℕ → Run
removes_of = run_of (λ q. remove_of q 1)

abbrev pub clears_of : ℕ → ℕ → List ℕ → Run
clears_of = run_of clear_of

-- ---- operations that read it

-- behind a peek with that answer and that output
abbrev pub on_peeked : Result (Option ℕ) Refusal → List ℕ → ℕ → (List ℕ → Run) → Run
on_peeked (Ok (Some n)) out done next = next out
on_peeked (Ok None) out done next = (done, out)
on_peeked (Err r) out done next = (done, out)

abbrev pub output_peeked : QueueFile → List ℕ → List ℕ → List ℕ
output_peeked q img out = peeked_output (judge_peek q img (length out)) (payload_at img q.file_len q.first) out

unfoldable pub peeks_from : QueueFile → List ℕ → ℕ → ℕ → List ℕ → Run
peeks_from q img zero done out = (done, out)
peeks_from q img (suc left) done out =
    on_peeked (judge_peek q img (length out)) (output_peeked q img out) done (peeks_from q img left (done + 1))

abbrev pub peeks_of : List ℕ → ℕ → ℕ → List ℕ → Run
peeks_of img real n out = on_opened (opened img real) out (λ q. peeks_from q img n 0 out)

-- behind a step with that answer and that output
abbrev pub on_stepped : Result (Option Step) Refusal → List ℕ → ℕ → (Cursor → List ℕ → Run) → Run
on_stepped (Ok (Some s)) out done next = next s.next out
on_stepped (Ok None) out done next = (done, out)
on_stepped (Err r) out done next = (done, out)

abbrev pub output_stepped : QueueFile → List ℕ → Cursor → List ℕ → List ℕ
output_stepped q img c out = stepped_output (judge_step q img c (length out)) img q.file_len out

unfoldable pub steps_from : QueueFile → List ℕ → ℕ → ℕ → Cursor → List ℕ → Run
steps_from q img zero done c out = (done, out)
steps_from q img (suc left) done c out =
    on_stepped (judge_step q img c (length out)) (output_stepped q img c out) done (steps_from q img left (done + 1))

-- from first on
abbrev pub steps_of : List ℕ → ℕ → ℕ → List ℕ → Run
steps_of img real n out = on_opened (opened img real) out (λ q. steps_from q img n 0 (start_of q) out)
