-- Refusal 21 never comes: a header that is valid has a sequence of 1 at least, so the step after it stays within the tail sequence.
-- Assumes nothing.
use mathlib.Core.Path.{◌≡◌, ap, ◌∙◌}
use mathlib.Core.List.{List}
use Prim.Native.Nat.{ℕ, zero, suc, ◌+◌, ◌-◌, ◌<◌, ◌≤◌}
use native.Mathlib.Omega.{arith}
use borrow.Author.Tests.{le-leb, eqb-true}
use Rattle.refusal.proofs.Laws.{pass, keep}
use Rattle.format.specs.declared.element.V2ElementHeader.{V2ElementHeader}
use Rattle.refusal.specs.Table.{number_of}
use Rattle.refusal.specs.Answer.{on_ok, number_or_0}
use Rattle.queue.specs.Element.{header_at, in_sequence}
use Rattle.queue.specs.Recover.{at_last, go_back, recover_from, recover_head}
use Rattle.queue.proofs.Sound.{not_zero}
use Rattle.assurance.specs.Recovery.{NeverAboveTailSequence}
use Rattle.std.specs.Prelude.{Result, Ok, Err}
use Rattle.queue.specs.declared.element.Element.{Element}
use Rattle.refusal.specs.declared.Refusal.{Refusal}

-- what reading a header answers: a refusal up to 6, or a header whose sequence is not 0
abbrev Low : Result V2ElementHeader Refusal → Type 0
Low (Err r) = number_of r ≤ 6
Low (Ok h) = 0 < h.seq

low : (img : List ℕ) (file p : ℕ) → Low (header_at img file p)
unfolding header_at
low img file p =
    keep Low _ _ _ (omega arith) (λ e1.
    keep Low _ _ _ (omega arith) (λ e2.
    keep Low _ _ _ (omega arith) (λ e3.
    keep Low _ _ _ (omega arith) (λ e4.
    keep Low _ _ _ (omega arith) (λ e5.
    keep Low _ _ _ (omega arith) (λ e6. not_zero _ e4))))))

-- not refused with 21
abbrev Other : Result Element Refusal → Type 0
Other x = number_or_0 x ≡ 21 → ⊥

-- nor is it where a part of a step is refused, if it is not in what comes next
heads : (x : Result V2ElementHeader Refusal) (seq : ℕ) (next : V2ElementHeader → Result Element Refusal) → Low x →
    ((h : V2ElementHeader) → 0 < h.seq → h.seq ≡ seq → Other (next h)) → Other (on_ok Err (in_sequence seq x) next)
heads (Err r) seq next l n = λ z. omega arith
heads (Ok h) seq next l n =
    keep (λ (d : Result V2ElementHeader Refusal). Other (on_ok Err d next)) _ _ _ (λ z. omega arith) (λ e. n h l (eqb-true _ _ e))

backs : (link : ℕ) (next : ℕ → Result Element Refusal) → ((p : ℕ) → Other (next p)) → Other (go_back link next)
backs link next n =
    keep Other _ _ _ (λ z. omega arith) (λ e.
    keep (λ (d : Result ℕ Refusal). Other (on_ok Err d next)) _ _ _ (λ z. omega arith) (λ f. n _))

lasts : (left : ℕ) (a b : Result Element Refusal) → Other a → Other b → Other (at_last left a b)
lasts zero a b s t = s
lasts (suc left) a b s t = t

goes : (img : List ℕ) (file ts n s p : ℕ) → s ≤ ts → Other (recover_from img file ts n s p)
unfolding recover_from
goes img file ts zero s p l = λ z. omega arith
goes img file ts (suc n) s p l =
    rw (pass _ _ _ (le-leb s ts l))
    (heads (header_at img file p) (ts - s) _ (low img file p) (λ h some eq.
    lasts n _ _ (λ z. omega arith) (backs h.prev_pos _ (λ q. goes img file ts n (s + 1) q (omega arith)))))

all : (img : List ℕ) (file tail ts n : ℕ) → Other (recover_head img file tail ts n)
unfolding recover_head
all img file tail ts n = keep Other _ _ _ (λ z. omega arith) (λ e. goes img file ts n 0 tail (omega arith))

pub never_above_tail_sequence : NeverAboveTailSequence
never_above_tail_sequence img file tail ts n r q z =
    all img file tail ts n (ap number_or_0 q ∙ z)
