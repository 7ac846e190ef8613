-- Add: the element goes behind last, and the state is committed. Assumes nothing.
use Rattle.std.specs.Prelude.{ℕ, ◌+◌, ◌-◌, ◌^◌, ◌≤◌, ◌<◌, ◌≡◌, cond, List, ◌++◌, length, ltb, eqb, Result, Err}
use Rattle.refusal.specs.declared.Refusal.TheVariants.{Unsound, ElementTooBig, TooManyElements}
use Rattle.refusal.specs.Demand.{demand}
use Rattle.ring.specs.Ring.{ring_write}
use Rattle.format.specs.Element.{element_span, stored_header, footer_bytes}
use Rattle.queue.specs.Element.{element, capacity, Lies}
use Rattle.queue.specs.State.{sound}
use Rattle.format.specs.declared.state.V2Format.{V2Format}
use Rattle.queue.specs.declared.element.Element.{Element}
use Rattle.queue.specs.declared.state.QueueFile.{QueueFile}
use Rattle.writing.specs.Work.{Work, done, kept, with_format, with_elements}
use Rattle.writing.specs.Commit.{pointer_to, committed}
use Rattle.writing.specs.Growth.{end_of_last, judge_length, check_growth}
use Rattle.writing.specs.Expansion.{grown}
use Rattle.refusal.specs.Answer.{on_ok, on_verdict}
use Rattle.refusal.specs.declared.Refusal.{Refusal}

-- ---- the element

-- its bytes: header, payload, footer
abbrev pub element_bytes : ℕ → ℕ → List ℕ → List ℕ
element_bytes seq link payload = stored_header seq link (length payload) ++ (payload ++ footer_bytes seq payload)

-- it stands behind last, or at place 0 in an empty queue
abbrev pub next_place : QueueFile → ℕ
next_place q = cond (eqb q.elem_cnt 0) 0 (end_of_last q)

abbrev pub next_element : QueueFile → ℕ → Element
next_element q len = element (next_place q) len q.format.next_seq

-- ---- the step

abbrev pub next_sequence : V2Format → V2Format
next_sequence f = record { active_slot = f.active_slot; generation = f.generation; next_seq = f.next_seq + 1 }

-- it is last, and first too in a queue that was empty
abbrev pub with_last : QueueFile → Element → QueueFile
with_last q e =
    with_elements (with_format q (next_sequence q.format)) (q.elem_cnt + 1) (cond (eqb q.elem_cnt 0) e q.first) e

-- it is stored with the physical place of last as backlink, or 0
unfoldable pub appended : List ℕ → Work → Work
appended payload w = (
  with_last w.0 (next_element w.0 (length payload)),
  ring_write 8192 (capacity w.0.file_len) w.1 (next_place w.0)
      (element_bytes w.0.format.next_seq (pointer_to w.0.elem_cnt w.0.last) payload),
)

-- ---- the call

-- 28, 24, 25, then 30 for every commit that the call makes, 27 and 26
unfoldable pub judge_add : QueueFile → ℕ → ℕ → Result ℕ Refusal
judge_add q len payload =
    demand (sound q len) (Err Unsound)
    (demand (ltb payload (2 ^ 31)) (Err ElementTooBig)
    (demand (ltb (q.elem_cnt + 1) (2 ^ 31 - 1)) (Err TooManyElements)
    (judge_length q len (element_span payload) 1 1)))

unfoldable pub add_of : QueueFile → List ℕ → List ℕ → Result QueueFile Refusal × List ℕ
add_of q payload img =
    on_ok (kept img) (judge_add q (length img) (length payload)) (λ n.
    on_verdict (kept img) (check_growth q img n)
    (done (committed (appended payload (grown n (q, img))))))

-- ---- what the worker goes by

-- a state in an image of len bytes behind whose last there is a ring to go on in
pub record Extends (len : ℕ) (q : QueueFile) : Type 0 where
  pub some : 8192 < q.file_len
  pub inside : q.file_len ≤ len
  pub small : q.file_len < 2 ^ 63
  pub count : q.elem_cnt < 2 ^ 31
  pub sequence : q.format.next_seq < 2 ^ 63
  pub generation : q.format.generation < 2 ^ 64 - 1
  pub first : q.first.pos < 2 ^ 63
  pub place : q.last.pos < 2 ^ 63
  pub last : (q.elem_cnt ≡ 0 → ⊥) → Lies len q.file_len q.last
