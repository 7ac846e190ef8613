-- What a header that the ring has is known to be, for those who go on by it. Assumes nothing.
use mathlib.Core.Path.{◌≡◌, refl}
use mathlib.Core.List.{List}
use Prim.Native.Nat.{ℕ, ◌≤◌, ◌<◌}
use lib.ListN.{length}
use borrow.Author.Tests.{eqb-true}
use Rattle.refusal.specs.declared.Refusal.{Refusal}
use Rattle.refusal.proofs.Laws.{pass, granted, keep, refused}
use Rattle.ring.specs.Ring.{ring_read}
use Rattle.ring.proofs.Places.{ring_there}
use Rattle.format.specs.Element.{element_span}
use Rattle.format.specs.declared.element.V2ElementHeader.{V2ElementHeader}
use Rattle.format.proofs.ElementLaws.{parsed}
use Rattle.refusal.specs.Answer.{on_ok}
use Rattle.queue.specs.Element.{capacity, header_at, read_header, in_sequence, header_in_sequence}
use Rattle.std.specs.Prelude.{Result, Ok, Err}

-- a valid header's element fits the ring
pub header_fits : (img : List ℕ) (file p : ℕ) (h : V2ElementHeader) → header_at img file p ≡ Ok h → element_span h.payload_len ≤ capacity file
unfolding header_at
header_fits img file p h e = (parsed (ring_read 8192 (capacity file) img p 28) (capacity file) h e).fits

-- in a ring that is there it is read
pub header_read : (img : List ℕ) (file p : ℕ) → 8192 < file → file ≤ length img → read_header img file p ≡ header_at img file p
header_read img file p h l = pass _ _ _ (ring_there 8192 (length img) file h l)

-- a header that is in sequence is the header
sequence-header : (seq : ℕ) (d : Result V2ElementHeader Refusal) (h : V2ElementHeader) → in_sequence seq d ≡ Ok h → d ≡ Ok h
sequence-header seq (Err r) h e = absurd (refused e)
sequence-header seq (Ok k) h e = (granted _ _ _ _ refused e).1

pub sequence_fits : (img : List ℕ) (file p seq : ℕ) (h : V2ElementHeader) → header_in_sequence img file p seq ≡ Ok h → element_span h.payload_len ≤ capacity file
sequence_fits img file p seq h e = header_fits img file p h (sequence-header seq (header_at img file p) h e)

-- ---- an answer that goes on from a header that has to have a sequence

-- it is no refusal, so the header is valid and has it
pub record InSequence {A : Type 0} (d : Result V2ElementHeader Refusal) (seq : ℕ) (next : V2ElementHeader → A) (a : A) : Type 0 where
  pub header : V2ElementHeader
  pub valid : d ≡ Ok header
  pub in_sequence_lem : header.seq ≡ seq
  pub goes : next header ≡ a

pub on_sequence : {A : Type 0} (refuse : Refusal → A) (d : Result V2ElementHeader Refusal) (seq : ℕ) (next : V2ElementHeader → A) (a : A)
    → ((r : Refusal) → refuse r ≡ a → ⊥) → on_ok refuse (in_sequence seq d) next ≡ a → InSequence d seq next a
on_sequence refuse (Err r) seq next a n e = absurd (n r e)
on_sequence {A = A} refuse (Ok h) seq next a n e =
    keep (λ (d : Result V2ElementHeader Refusal). on_ok refuse d next ≡ a → InSequence {A = A} (Ok h) seq next a) _ _ _
    (λ z. absurd (n _ z))
    (λ b z. record { header = h; valid = refl; in_sequence_lem = eqb-true _ _ b; goes = z })
    e
