-- The walk of strict opening passes exactly where a chain stands: both directions, with the places unrolled. Assumes nothing.
use mathlib.Core.Path.{◌≡◌, refl, sym, ap, ◌∙◌}
use mathlib.Core.List.{List, [], ◌∷◌}
use Prim.Native.Nat.{ℕ, zero, suc, ◌+◌, ◌%◌, ◌≤◌}
use native.Mathlib.Nat.{mod-mod, mod-add-mod}
use native.Mathlib.Omega.{arith}
use lib.ListN.{length}
use lib.Dec.{leb}
use borrow.Author.Tests.{eqb-true, leb-true, eq-eqb, le-leb}
use Rattle.refusal.specs.declared.Refusal.TheVariants.{Unsound}
use Rattle.refusal.specs.Demand.{demand}
use Rattle.refusal.proofs.Laws.{pass, granted, refused}
use Rattle.ring.specs.Ring.{ring_read}
use Rattle.ring.proofs.Places.{add_same}
use Rattle.ring.proofs.Reading.{length_read, read_same}
use Rattle.format.specs.Element.{element_span, check_footer}
use Rattle.format.specs.declared.element.V2ElementHeader.{V2ElementHeader}
use Rattle.refusal.specs.Answer.{on_ok, on_verdict}
use Rattle.queue.specs.Element.{capacity, element_here, header_at, in_sequence, payload_at, footer_verdict}
use Rattle.queue.specs.Strict.{linked_element, strict_element, trail_from}
use Rattle.queue.proofs.Trail.{Passed, strict_passed}
use Rattle.assurance.proofs.Chain.{Elem, header_of, span, total, Holds, Chain, Rising, Backs, last_from, header_in, header_in_lem, header_mod, header_there}
use Rattle.std.specs.Prelude.{Result, Ok, Err}
use Rattle.refusal.specs.declared.Refusal.{Refusal}

-- ---- a place is as good as any other that is the same in the ring

pub holds_same : (img : List ℕ) (size p r : ℕ) (e : Elem) → p % size ≡ r % size → Holds img size p e → Holds img size r e
holds_same img size p r e s h = record {
  header = sym (header_mod size img r) ∙ ap (header_in size img) (sym s) ∙ header_mod size img p ∙ h.header;
  payload = read_same 8192 size img (r + 28) (p + 28) (length e.payload) (add_same size r p 28 (sym s)) ∙ h.payload;
  footer =
      ap (λ (t : List ℕ). check_footer t e.seq e.payload)
      (read_same 8192 size img (r + 28 + length e.payload) (p + 28 + length e.payload) 16
      (add_same size (r + 28) (p + 28) (length e.payload) (add_same size r p 28 (sym s))))
      ∙ h.footer;
}

-- what the state knows of an element that stands, at the reduced place r
module _ (img : List ℕ) (file p r : ℕ) (e : Elem) (s : r ≡ p % capacity file) (h : Holds img (capacity file) p e) where
  there : Holds img (capacity file) r e
  there = holds_same img (capacity file) p r e (sym (mod-mod p (capacity file)) ∙ ap (λ (x : ℕ). x % capacity file) (sym s)) h

  pub payload_there : payload_at img file (element_here r (header_of e)) ≡ e.payload
  unfolding payload_at
  payload_there = there.payload

  pub footer_there : footer_verdict img file (element_here r (header_of e)) ≡ Ok tt
  unfolding footer_verdict payload_at
  footer_there = rw there.payload there.footer

-- ---- one element

-- the element that a header tells of
abbrev elem_at : List ℕ → ℕ → ℕ → V2ElementHeader → Elem
elem_at img size p h =
    record { seq = h.seq; back = h.prev_pos; payload = ring_read 8192 size img (p + 28) h.payload_len }

-- stands there
elem_holds : (img : List ℕ) (file p : ℕ) (h : V2ElementHeader) → header_at img file p ≡ Ok h
    → footer_verdict img file (element_here p h) ≡ Ok tt → Holds img (capacity file) p (elem_at img (capacity file) p h)
unfolding footer_verdict payload_at
elem_holds img file p h a f =
    let n : length (ring_read 8192 (capacity file) img (p + 28) h.payload_len) ≡ h.payload_len =
    length_read 8192 (capacity file) img (p + 28) h.payload_len in
    record { header = rw n (sym (header_in_lem img file p) ∙ a); payload = rw n; footer = rw n f }

-- ---- all of them

-- the elements that a walk of k more behind the first found, from the unrolled place p on
pub record Found (k : ℕ) (img : List ℕ) (file last seq link spans p : ℕ) : Type 0 where
  pub e : Elem
  pub es : List Elem
  pub many : length es ≡ k
  pub holds : Chain img (capacity file) p (e ∷ es)
  pub rising : Rising e es
  pub backs : Backs (capacity file) p e es
  pub starts : e.seq ≡ seq
  pub linked : e.back ≡ link
  pub fits : spans + total (e ∷ es) ≤ capacity file
  pub ends : last_from p e es % capacity file ≡ last

-- one step, and the rest
record Stepped (img : List ℕ) (file p seq link spans : ℕ) (rest : ℕ → ℕ → ℕ → ℕ → Result (Unit {0}) Refusal) : Type 0 where
  pub h : V2ElementHeader
  pub passed : Passed img file (p % capacity file) seq link h
  pub fits : spans + element_span h.payload_len ≤ capacity file
  pub on :
      rest ((p + element_span h.payload_len) % capacity file) (seq + 1) (8192 + p % capacity file) (spans + element_span h.payload_len)
      ≡ Ok tt

stepped_header : (img : List ℕ) (file p seq link spans : ℕ) (rest : ℕ → ℕ → ℕ → ℕ → Result (Unit {0}) Refusal) (d : Result V2ElementHeader Refusal)
    → strict_element img file (p % capacity file) seq link ≡ d
    → on_ok Err d (λ h.
    demand (leb (spans + element_span h.payload_len) (capacity file)) (Err Unsound)
    (rest ((p % capacity file + element_span h.payload_len) % capacity file) (seq + 1) (8192 + p % capacity file)
    (spans + element_span h.payload_len))) ≡ Ok tt
    → Stepped img file p seq link spans rest
stepped_header img file p seq link spans rest (Err r) a e = absurd (refused e)
stepped_header img file p seq link spans rest (Ok h) a e =
    let g = granted _ _ _ _ refused e in
    record {
      h = h;
      passed = strict_passed img file (p % capacity file) seq link h a;
      fits = leb-true (spans + element_span h.payload_len) (capacity file) g.0;
      on =
          ap (λ (x : ℕ). rest x (seq + 1) (8192 + p % capacity file) (spans + element_span h.payload_len))
          (sym (mod-add-mod p (capacity file) (element_span h.payload_len)))
          ∙ g.1;
    }

stepped : (left : ℕ) (img : List ℕ) (file last p seq link spans : ℕ)
    → trail_from img file last (suc left) (p % capacity file) seq link spans ≡ Ok tt
    → Stepped img file p seq link spans (trail_from img file last left)
unfolding trail_from
stepped left img file last p seq link spans e =
    stepped_header img file p seq link spans (trail_from img file last left) (strict_element img file (p % capacity file) seq link) refl e

stops : (img : List ℕ) (file last p seq link spans : ℕ) → trail_from img file last zero p seq link spans ≡ Ok tt → link ≡ 8192 + last
unfolding trail_from
stops img file last p seq link spans e = eqb-true link (8192 + last) (granted _ _ _ _ refused e).0

-- a walk that passes has found a chain
pub trail_found : (k : ℕ) (img : List ℕ) (file last seq link spans p : ℕ)
    → trail_from img file last (suc k) (p % capacity file) seq link spans ≡ Ok tt → Found k img file last seq link spans p
trail_found zero img file last seq link spans p t =
    let s = stepped zero img file last p seq link spans t in
    let size : ℕ = capacity file in
    let w = s.passed in
    let n : length (ring_read 8192 size img (p % size + 28) s.h.payload_len) ≡ s.h.payload_len =
    length_read 8192 size img (p % size + 28) s.h.payload_len in
    let z : 8192 + p % size ≡ 8192 + last = stops img file last _ _ _ _ s.on in
    record {
      e = elem_at img size (p % size) s.h;
      es = [];
      many = refl;
      holds = (holds_same img size (p % size) p _ (mod-mod p size) (elem_holds img file (p % size) s.h w.header w.footer), tt);
      rising = tt;
      backs = tt;
      starts = w.starts;
      linked = w.linked;
      fits = omega (arith, s.fits, n);
      ends = omega (arith, z);
    }
trail_found (suc k) img file last seq link spans p t =
    let s = stepped (suc k) img file last p seq link spans t in
    let size : ℕ = capacity file in
    let w = s.passed in
    let d : ℕ = element_span s.h.payload_len in
    let n : length (ring_read 8192 size img (p % size + 28) s.h.payload_len) ≡ s.h.payload_len =
    length_read 8192 size img (p % size + 28) s.h.payload_len in
    let r : Found k img file last (seq + 1) (8192 + p % size) (spans + d) (p + d) =
    trail_found k img file last (seq + 1) (8192 + p % size) (spans + d) (p + d) s.on in
    record {
      e = elem_at img size (p % size) s.h;
      es = r.e ∷ r.es;
      many = ap suc r.many;
      holds = (
        holds_same img size (p % size) p _ (mod-mod p size) (elem_holds img file (p % size) s.h w.header w.footer),
        rw n r.holds,
      );
      rising = (omega (arith, r.starts, w.starts), r.rising);
      backs = (r.linked, rw n r.backs);
      starts = w.starts;
      linked = w.linked;
      fits = omega (arith, r.fits, n);
      ends = rw n r.ends;
    }

-- ---- the other direction

strict_one : (img : List ℕ) (file p : ℕ) (e : Elem) → Holds img (capacity file) p e
    → strict_element img file (p % capacity file) e.seq e.back ≡ Ok (header_of e)
unfolding strict_element
strict_one img file p e h =
    let size : ℕ = capacity file in
    let a = header_there img file p (p % size) e refl h in
    let s : in_sequence e.seq (Ok (header_of e)) ≡ Ok (header_of e) = pass _ _ _ (eq-eqb e.seq e.seq refl) in
    let f = footer_there img file p (p % size) e refl h in
    ap (λ (d : Result V2ElementHeader Refusal). on_ok Err (in_sequence e.seq d) (linked_element img file (p % size) e.back)) a
    ∙ ap (λ (d : Result V2ElementHeader Refusal). on_ok Err d (linked_element img file (p % size) e.back)) s
    ∙ pass _ _ _ (eq-eqb e.back e.back refl)
    ∙ ap (λ (v : Result (Unit {0}) Refusal). on_verdict Err v (Ok (header_of e))) f

one_step : (left : ℕ) (img : List ℕ) (file last p seq link spans : ℕ) (e : Elem) → Holds img (capacity file) p e → e.seq ≡ seq → e.back ≡ link
    → spans + span e ≤ capacity file
    → trail_from img file last (suc left) (p % capacity file) seq link spans
    ≡ trail_from img file last left ((p + span e) % capacity file) (seq + 1) (8192 + p % capacity file) (spans + span e)
unfolding trail_from
one_step left img file last p seq link spans e h s b l =
    let size : ℕ = capacity file in
    rw (sym s, sym b)
    (ap (λ (d : Result V2ElementHeader Refusal).
    on_ok Err d (λ x.
    demand (leb (spans + element_span x.payload_len) size) (Err Unsound)
    (trail_from img file last left ((p % size + element_span x.payload_len) % size) (e.seq + 1) (8192 + p % size)
    (spans + element_span x.payload_len)))) (strict_one img file p e h)
    ∙ pass _ _ _ (le-leb (spans + span e) size l)
    ∙ ap (λ (x : ℕ). trail_from img file last left x (e.seq + 1) (8192 + p % size) (spans + span e)) (mod-add-mod p size (span e)))

at-end : (img : List ℕ) (file last p seq link spans : ℕ) → link ≡ 8192 + last → trail_from img file last zero p seq link spans ≡ Ok tt
unfolding trail_from
at-end img file last p seq link spans e = pass _ _ _ (eq-eqb link (8192 + last) e)

-- a chain passes the walk
pub chain_trail : (es : List Elem) (img : List ℕ) (file last seq link spans p : ℕ) (e : Elem) → Chain img (capacity file) p (e ∷ es)
    → Rising e es → Backs (capacity file) p e es → e.seq ≡ seq → e.back ≡ link → spans + total (e ∷ es) ≤ capacity file
    → last_from p e es % capacity file ≡ last
    → trail_from img file last (suc (length es)) (p % capacity file) seq link spans ≡ Ok tt
chain_trail [] img file last seq link spans p e c r b s j l z =
    one_step zero img file last p seq link spans e c.0 s j (omega arith)
    ∙ at-end img file last _ _ _ _ (ap (λ (x : ℕ). 8192 + x) z)
chain_trail (f ∷ es) img file last seq link spans p e c r b s j l z =
    one_step (suc (length es)) img file last p seq link spans e c.0 s j (omega arith)
    ∙ chain_trail es img file last (seq + 1) (8192 + p % capacity file) (spans + span e) (p + span e) f c.1 r.1 b.1
    (omega (arith, r.0, s)) b.0 (omega arith) z
