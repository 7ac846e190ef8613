-- Strict opening: after a plain one, the rules of one whole trail, for each element in turn. Assumes nothing.
use Rattle.std.specs.Prelude.{ℕ, zero, suc, ◌+◌, ◌-◌, cond, List, length, leb, eqb, Result, Ok, Err}
use Rattle.refusal.specs.declared.Refusal.TheVariants.{Unsound, BrokenLink}
use Rattle.refusal.specs.Demand.{demand}
use Rattle.ring.specs.Ring.{ring_add}
use Rattle.format.specs.Element.{element_span}
use Rattle.format.specs.declared.element.V2ElementHeader.{V2ElementHeader}
use Rattle.refusal.specs.Answer.{on_ok, on_verdict}
use Rattle.queue.specs.Element.{capacity, element_here, header_in_sequence, footer_verdict}
use Rattle.queue.specs.State.{sound}
use Rattle.queue.specs.Opening.{open_queue}
use Rattle.queue.specs.declared.state.Settings.{Settings}
use Rattle.queue.specs.declared.state.QueueFile.{QueueFile}
use Rattle.refusal.specs.declared.Refusal.{Refusal}

-- ---- one element

-- the backlink that is asked for, and then the footer
abbrev pub linked_element : List ℕ → ℕ → ℕ → ℕ → V2ElementHeader → Result V2ElementHeader Refusal
linked_element img file p link h =
    demand (eqb h.prev_pos link) (Err BrokenLink)
    (on_verdict Err (footer_verdict img file (element_here p h))
    (Ok h))

-- header, sequence, backlink, footer, in this order
unfoldable pub strict_element : List ℕ → ℕ → ℕ → ℕ → ℕ → Result V2ElementHeader Refusal
strict_element img file p seq link = on_ok Err (header_in_sequence img file p seq) (linked_element img file p link)

-- ---- all of them

-- the element at the place p has that sequence and that backlink, and with `spans` bytes before it stays within the capacity; the rest
-- goes on behind it, with one sequence more and its physical place as backlink
abbrev pub trail_step : List ℕ → ℕ → ℕ → ℕ → ℕ → ℕ → (ℕ → ℕ → ℕ → ℕ → Result (Unit {0}) Refusal) → Result (Unit {0}) Refusal
trail_step img file p seq link spans rest =
    on_ok Err (strict_element img file p seq link) (λ h.
    demand (leb (spans + element_span h.payload_len) (capacity file)) (Err Unsound)
    (rest (ring_add (capacity file) p (element_span h.payload_len)) (seq + 1) (8192 + p) (spans + element_span h.payload_len)))

-- the elements that are left; behind the last of all, the place before is that of the state's last
unfoldable pub trail_from : List ℕ → ℕ → ℕ → ℕ → ℕ → ℕ → ℕ → ℕ → Result (Unit {0}) Refusal
trail_from img file last zero p seq link spans = demand (eqb link (8192 + last)) (Err BrokenLink) (Ok tt)
trail_from img file last (suc left) p seq link spans = trail_step img file p seq link spans (trail_from img file last left)

-- the backlink of the first element of a whole trail
abbrev pub first_link : ℕ
first_link = 0

-- from first on, whose sequence is the next one less the count; an empty queue is a whole trail
unfoldable pub check_trail : QueueFile → List ℕ → Result (Unit {0}) Refusal
check_trail q img =
    cond (eqb q.elem_cnt 0) (Ok tt)
    (trail_from img q.file_len q.last.pos q.elem_cnt q.first.pos (q.format.next_seq - q.elem_cnt) first_link 0)

-- ---- opening

abbrev pub strictly : List ℕ → Result QueueFile Refusal → Result QueueFile Refusal
strictly img (Err r) = Err r
strictly img (Ok q) = demand (sound q (length img)) (Err Unsound) (on_verdict Err (check_trail q img) (Ok q))

unfoldable pub open_strictly : List ℕ → ℕ → Settings → Result QueueFile Refusal
open_strictly img real settings = strictly img (open_queue img real settings)
