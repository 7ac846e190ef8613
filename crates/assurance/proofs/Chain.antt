-- The elements of a queue on a straight line. A place here is not reduced: the element behind the one at p is at p + its span, and only
-- a read reduces a place, so it does not matter how the ring turns. A chain is read by reads of its own bytes alone: where those agree,
-- the chain is there (`chain_frame`); every store outside the live bytes is a case of it. Assumes nothing.
use mathlib.Core.Path.{◌≡◌, refl, sym, ap, ◌∙◌}
use mathlib.Core.List.{List, [], ◌∷◌}
use Prim.Native.Nat.{ℕ, suc, ◌+◌, ◌-◌, ◌%◌, ◌≤◌, ◌<◌}
use native.Mathlib.Omega.{arith}
use lib.ListN.{length}
use borrow.Author.Tests.{leb-true, le-leb}
use Rattle.refusal.proofs.Laws.{refused, met, granted}
use Rattle.wire.specs.Wire.{word, put_at}
use Rattle.ring.specs.Ring.{ring_read, ring_write}
use Rattle.ring.proofs.Reading.{read_mod, read_put-before, read_put-past}
use Rattle.ring.proofs.Writing.{read_apart, read_ahead}
use Rattle.format.specs.Element.{element_span, parse_header, check_footer}
use Rattle.format.specs.declared.element.V2ElementHeader.{V2ElementHeader}
use Rattle.format.proofs.ElementLaws.{parsed, Parsed}
use Rattle.queue.specs.Element.{capacity, header_at}
use Rattle.std.specs.Prelude.{Result, Ok}
use Rattle.refusal.specs.declared.Refusal.{Refusal}

-- ---- elements

pub record Elem : Type 0 where
  pub seq : ℕ
  pub back : ℕ
  pub payload : List ℕ

abbrev pub header_of : Elem → V2ElementHeader
header_of e = record { payload_len = length e.payload; seq = e.seq; prev_pos = e.back }

abbrev pub span : Elem → ℕ
span e = element_span (length e.payload)

-- the bytes of all of them
abbrev pub total : List Elem → ℕ
total [] = 0
total (e ∷ es) = span e + total es

-- the last of e and es, and its place where e is at p
abbrev pub last_of : Elem → List Elem → Elem
last_of e [] = e
last_of e (f ∷ es) = last_of f es

abbrev pub last_from : ℕ → Elem → List Elem → ℕ
last_from p e [] = p
last_from p e (f ∷ es) = last_from (p + span e) f es

-- sequences rise by one from that of e
abbrev pub Rising : Elem → List Elem → Type 0
Rising e [] = Unit {0}
Rising e (f ∷ es) = (f.seq ≡ suc e.seq) × Rising f es

-- each element behind e has as its backlink where the one before it stands in the file; e is at p
abbrev pub Backs : ℕ → ℕ → Elem → List Elem → Type 0
Backs size p e [] = Unit {0}
Backs size p e (f ∷ es) = (f.back ≡ 8192 + p % size) × Backs size (p + span e) f es

-- ---- their bytes, in a ring of `size` bytes

-- what reading a header at the place p answers
unfoldable pub header_in : ℕ → List ℕ → ℕ → Result V2ElementHeader Refusal
header_in size img p = parse_header (ring_read 8192 size img p 28) size

pub header_in_lem : (img : List ℕ) (file p : ℕ) → header_at img file p ≡ header_in (capacity file) img p
unfolding header_at header_in
header_in_lem img file p = refl

-- a header is read at its reduced place too
pub header_mod : (size : ℕ) (img : List ℕ) (p : ℕ) → header_in size img (p % size) ≡ header_in size img p
unfolding header_in
header_mod size img p = ap (λ (s : List ℕ). parse_header s size) (read_mod 8192 size img p 28)

-- the element e stands at the place p
pub record Holds (img : List ℕ) (size p : ℕ) (e : Elem) : Type 0 where
  pub header : header_in size img p ≡ Ok (header_of e)
  pub payload : ring_read 8192 size img (p + 28) (length e.payload) ≡ e.payload
  pub footer : check_footer (ring_read 8192 size img (p + 28 + length e.payload) 16) e.seq e.payload ≡ Ok tt

-- its header is what is read there, at the reduced place r
pub header_there : (img : List ℕ) (file p r : ℕ) (e : Elem) → r ≡ p % capacity file → Holds img (capacity file) p e
    → header_at img file r ≡ Ok (header_of e)
header_there img file p r e s h =
    header_in_lem img file r ∙ ap (header_in (capacity file) img) s ∙ header_mod (capacity file) img p ∙ h.header

-- the elements stand one behind the other from p on
abbrev pub Chain : List ℕ → ℕ → ℕ → List Elem → Type 0
Chain img size p [] = Unit {0}
Chain img size p (e ∷ es) = Holds img size p e × Chain img size (p + span e) es

-- what is known of a header that is read
pub header_known : (img : List ℕ) (size p : ℕ) (h : V2ElementHeader) → header_in size img p ≡ Ok h → Parsed (ring_read 8192 size img p 28) size h
unfolding header_in
header_known img size p h e = parsed (ring_read 8192 size img p 28) size h e

-- a header that is valid for a ring is valid for a larger one
parse_wider : (s : List ℕ) (size size' : ℕ) (h : V2ElementHeader) → size ≤ size' → parse_header s size ≡ Ok h → parse_header s size' ≡ Ok h
parse_wider s size size' h l e =
    let g1 = granted _ _ _ _ refused e in
    let g2 = granted _ _ _ _ refused g1.1 in
    let g3 = granted _ _ _ _ refused g2.1 in
    let g4 = granted _ _ _ _ refused g3.1 in
    let g5 = granted _ _ _ _ refused g4.1 in
    let g6 = granted _ _ _ _ refused g5.1 in
    sym
    (met _ _ _ g1.0
    (met _ _ _ g2.0
    (met _ _ _ g3.0
    (met _ _ _ g4.0
    (met _ _ _ g5.0
    (met _ _ _ (le-leb (element_span (word 4 s 20)) size' (omega (arith, leb-true (element_span (word 4 s 20)) size g6.0)))
    (sym g6.1)))))))

-- ---- reads that agree

-- every read within the n places from p on is the same in both rings
abbrev pub Agree : List ℕ → ℕ → List ℕ → ℕ → ℕ → ℕ → Type 0
Agree img size img' size' p n = (q k : ℕ) → p ≤ q → q + k ≤ p + n → ring_read 8192 size' img' q k ≡ ring_read 8192 size img q k

pub holds_frame : (img img' : List ℕ) (size size' p : ℕ) (e : Elem) → size ≤ size' → Agree img size img' size' p (span e)
    → Holds img size p e → Holds img' size' p e
unfolding header_in
holds_frame img img' size size' p e l f h = record {
  header =
      ap (λ (s : List ℕ). parse_header s size') (f p 28 (omega arith) (omega arith))
      ∙ parse_wider (ring_read 8192 size img p 28) size size' _ l h.header;
  payload = f (p + 28) (length e.payload) (omega arith) (omega arith) ∙ h.payload;
  footer =
      ap (λ (s : List ℕ). check_footer s e.seq e.payload) (f (p + 28 + length e.payload) 16 (omega arith) (omega arith))
      ∙ h.footer;
}

-- the frame law: a chain is its own bytes
pub chain_frame : (es : List Elem) (img img' : List ℕ) (size size' p : ℕ) → size ≤ size' → Agree img size img' size' p (total es)
    → Chain img size p es → Chain img' size' p es
chain_frame [] img img' size size' p l f c = tt
chain_frame (e ∷ es) img img' size size' p l f c = (
  holds_frame img img' size size' p e l (λ q n a b. f q n a (omega arith)) c.0,
  chain_frame es img img' size size' (p + span e) l (λ q n a b. f q n (omega arith) (omega arith)) c.1,
)

-- a write that ends before the places, or starts past them, within one turn
pub agree_behind : (img : List ℕ) (size w : ℕ) (s : List ℕ) (p n : ℕ) → w + length s ≤ p → p + n ≤ w + size
    → Agree img size (ring_write 8192 size img w s) size p n
agree_behind img size w s p n h l q k a b =
    read_apart 8192 size img w s q (q - w) k (ap (λ (x : ℕ). x % size) (let e : q ≡ w + (q - w) = omega arith in e)) (omega arith) (omega arith)

pub agree_ahead : (img : List ℕ) (size w : ℕ) (s : List ℕ) (p n : ℕ) → p + n ≤ w → w + length s ≤ p + size
    → Agree img size (ring_write 8192 size img w s) size p n
agree_ahead img size w s p n h l q k a b =
    let e : w ≡ q + (w - q) = omega arith in
    ap (λ (x : ℕ). ring_read 8192 size (ring_write 8192 size img x s) q k) e
    ∙ read_ahead 8192 size img q s (w - q) k (omega arith) (omega arith)

-- a store before the ring, and one past it
pub agree_slot : (img : List ℕ) (size at : ℕ) (s : List ℕ) (p n : ℕ) → at + length s ≤ 8192 → Agree img size (put_at img at s) size p n
agree_slot img size at s p n h q k a b = read_put-before 8192 size img at s q k h

pub agree_past : (img : List ℕ) (size at : ℕ) (s : List ℕ) (p n : ℕ) → 0 < size → 8192 + size ≤ at → Agree img size (put_at img at s) size p n
agree_past img size at s p n h l q k a b = read_put-past 8192 size img at s q k h l

-- ---- where a chain ends

pub last_end : (p : ℕ) (e : Elem) (es : List Elem) → last_from p e es + span (last_of e es) ≡ p + total (e ∷ es)
last_end p e [] = omega arith
last_end p e (f ∷ es) = last_end (p + span e) f es ∙ omega arith

pub last-after : (p : ℕ) (e : Elem) (es : List Elem) → p ≤ last_from p e es
last-after p e [] = omega arith
last-after p e (f ∷ es) = omega (arith, last-after (p + span e) f es)

-- the last element stands at its place
pub last-holds : (es : List Elem) (img : List ℕ) (size p : ℕ) (e : Elem) → Chain img size p (e ∷ es)
    → Holds img size (last_from p e es) (last_of e es)
last-holds [] img size p e c = c.0
last-holds (f ∷ es) img size p e c = last-holds es img size (p + span e) f c.1

pub rising_last : (e : Elem) (es : List Elem) → Rising e es → (last_of e es).seq ≡ e.seq + length es
rising_last e [] r = omega arith
rising_last e (f ∷ es) r = rising_last f es r.1 ∙ omega (arith, r.0)
