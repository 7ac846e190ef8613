-- The head of a queue, recovered from its tail: back along the backlinks, one header a step. Assumes nothing.
use Rattle.std.specs.Prelude.{ℕ, zero, suc, ◌+◌, ◌-◌, not, List, length, leb, eqb, Result, Ok, Err}
use Rattle.refusal.specs.declared.Refusal.TheVariants.{Unsound, BacklinkZero, RecoveryEmpty, RecoverySequence}
use Rattle.refusal.specs.Demand.{demand}
use Rattle.refusal.specs.declared.Refusal.{Refusal}
use Rattle.ring.specs.Ring.{has_ring}
use Rattle.refusal.specs.Answer.{on_ok}
use Rattle.queue.specs.Places.{to_logical}
use Rattle.queue.specs.Element.{element_here, header_in_sequence}
use Rattle.queue.specs.declared.element.Element.{Element}

-- with no step left to make the answer, else the rest
abbrev pub at_last : ℕ → Result Element Refusal → Result Element Refusal → Result Element Refusal
at_last zero answer rest = answer
at_last (suc left) answer rest = rest

-- on at the place that a backlink names: 18 where it is 0, 19 from 1 to 8191
abbrev pub go_back : ℕ → (ℕ → Result Element Refusal) → Result Element Refusal
go_back link next = demand (not (eqb link 0)) (Err BacklinkZero) (on_ok Err (to_logical link) next)

-- step s at the place p, with `left` steps after it, which go on as `rest`: the header's sequence is the tail's less s; at the last
-- step the answer is the place, not reduced, with its header's length and sequence, and the backlink there is not judged
abbrev pub recover_step : List ℕ → ℕ → ℕ → ℕ → ℕ → ℕ → (ℕ → Result Element Refusal) → Result Element Refusal
recover_step img file tail_seq left s p rest =
    demand (leb s tail_seq) (Err RecoverySequence)
    (on_ok Err (header_in_sequence img file p (tail_seq - s)) (λ h.
    at_last left (Ok (element_here p h))
    (go_back h.prev_pos rest)))

-- the steps that are left, from step s at the place p on
unfoldable pub recover_from : List ℕ → ℕ → ℕ → ℕ → ℕ → ℕ → Result Element Refusal
recover_from img file tail_seq zero s p = Err RecoveryEmpty
recover_from img file tail_seq (suc left) s p = recover_step img file tail_seq left s p (recover_from img file tail_seq left (s + 1))

-- 28 where there is no ring, 20 for no elements, and then n steps from the tail
unfoldable pub recover_head : List ℕ → ℕ → ℕ → ℕ → ℕ → Result Element Refusal
recover_head img file tail tail_seq n =
    demand (has_ring 8192 (length img) file) (Err Unsound)
    (recover_from img file tail_seq n 0 tail)
