-- What an element that strict opening passes has, and one step of the walk along a whole trail, as the code counts it. Assumes nothing.
use Rattle.refusal.proofs.Laws.{same_ok, granted, refused, on_granted}
use mathlib.Core.Path.{◌≡◌, sym, ap, ◌∙◌}
use mathlib.Core.List.{List}
use Prim.Native.Nat.{ℕ, ◌+◌, ◌-◌, ◌≤◌, ◌<◌}
use borrow.Author.Tests.{eqb-true}
use Rattle.format.specs.Element.{element_span}
use Rattle.format.specs.declared.element.V2ElementHeader.{V2ElementHeader}
use Rattle.queue.specs.Element.{capacity, element_here, header_at, footer_verdict}
use Rattle.queue.specs.Strict.{linked_element, strict_element, trail_step, trail_from}
use Rattle.queue.proofs.Headers.{header_fits, on_sequence}
use Rattle.queue.proofs.Steps.{one_less}
use Rattle.std.specs.Prelude.{Ok, Err}

-- ---- the element

-- what one that passes has
pub record Passed (img : List ℕ) (file p seq link : ℕ) (h : V2ElementHeader) : Type 0 where
  pub header : header_at img file p ≡ Ok h
  pub starts : h.seq ≡ seq
  pub linked : h.prev_pos ≡ link
  pub footer : footer_verdict img file (element_here p h) ≡ Ok tt

pub strict_passed : (img : List ℕ) (file p seq link : ℕ) (h : V2ElementHeader) → strict_element img file p seq link ≡ Ok h
    → Passed img file p seq link h
unfolding strict_element
strict_passed img file p seq link h e =
    let s = on_sequence Err (header_at img file p) seq (linked_element img file p link) (Ok h) (λ r. refused) e in
    let l = granted _ _ _ _ refused s.goes in
    let f = on_granted Err (footer_verdict img file (element_here p s.header)) _ _ (λ r. refused) l.1 in
    let i : s.header ≡ h = same_ok s.header h f.1 in
    record {
      header = s.valid ∙ ap (λ (x : V2ElementHeader). Ok x) i;
      starts = ap (λ (x : V2ElementHeader). x.seq) (sym i) ∙ s.in_sequence_lem;
      linked = ap (λ (x : V2ElementHeader). x.prev_pos) (sym i) ∙ eqb-true _ _ l.0;
      footer = ap (λ (x : V2ElementHeader). footer_verdict img file (element_here p x)) (sym i) ∙ f.0;
    }

-- it fits the ring
pub strict_fits :
    (img : List ℕ) (file p seq link : ℕ) (h : V2ElementHeader) → strict_element img file p seq link ≡ Ok h →
    element_span h.payload_len ≤ capacity file
strict_fits img file p seq link h e = header_fits img file p h (strict_passed img file p seq link h e).header

-- ---- the walk

-- what is left at step i, of n, is one step and what is left at i + 1
pub trail_unroll : (img : List ℕ) (file last n i p seq link spans : ℕ) → i < n →
    trail_from img file last (n - i) p seq link spans ≡ trail_step img file p seq link spans (trail_from img file last (n - (i + 1)))
unfolding trail_from
trail_unroll img file last n i p seq link spans h = rw (one_less n i h)
