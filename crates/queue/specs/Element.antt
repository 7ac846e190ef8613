-- An element as it lies in the ring of a file: header, payload, footer, one behind the other from its place on. Assumes nothing.
use Rattle.std.specs.Prelude.{ℕ, ◌+◌, ◌-◌, ◌^◌, ◌≤◌, ◌<◌, Bool, ◌&&◌, List, length, eqb, Result, Ok, Err}
use Rattle.refusal.specs.declared.Refusal.TheVariants.{Unsound, SequenceMismatch}
use Rattle.refusal.specs.Demand.{demand}
use Rattle.ring.specs.Ring.{ring_read, has_ring}
use Rattle.format.specs.Element.{element_span, parse_header, check_footer}
use Rattle.format.specs.declared.element.V2ElementHeader.{V2ElementHeader}
use Rattle.queue.specs.declared.element.Element.{Element}
use Rattle.refusal.specs.declared.Refusal.{Refusal}

-- ---- what is known of an element

abbrev pub element : ℕ → ℕ → ℕ → Element
element pos len seq = record { pos = pos; len = len; seq = seq }

-- place, length and sequence are 0
unfoldable pub is_empty_element : Element → Bool
is_empty_element e = eqb e.pos 0 && (eqb e.len 0 && eqb e.seq 0)

-- the place p with its header's length and sequence
abbrev pub element_here : ℕ → V2ElementHeader → Element
element_here p h = element p h.payload_len h.seq

-- ---- its bytes, in a file of `file` bytes: places are reduced for reading

abbrev pub capacity : ℕ → ℕ
capacity file = file - 8192

-- what the 28 bytes at the place p say
unfoldable pub header_at : List ℕ → ℕ → ℕ → Result V2ElementHeader Refusal
header_at img file p = parse_header (ring_read 8192 (capacity file) img p 28) (capacity file)

-- the same where a ring may not be there: 28 first
abbrev pub read_header : List ℕ → ℕ → ℕ → Result V2ElementHeader Refusal
read_header img file p = demand (has_ring 8192 (length img) file) (Err Unsound) (header_at img file p)

-- 17 unless the header has that sequence
abbrev pub in_sequence : ℕ → Result V2ElementHeader Refusal → Result V2ElementHeader Refusal
in_sequence seq (Err r) = Err r
in_sequence seq (Ok h) =
    demand (eqb h.seq seq) (Err (SequenceMismatch seq h.seq))
    (Ok h)

abbrev pub header_in_sequence : List ℕ → ℕ → ℕ → ℕ → Result V2ElementHeader Refusal
header_in_sequence img file p seq = in_sequence seq (header_at img file p)

-- the payload stands behind the header
unfoldable pub payload_at : List ℕ → ℕ → Element → List ℕ
payload_at img file e = ring_read 8192 (capacity file) img (e.pos + 28) e.len

-- and the footer behind the payload
unfoldable pub footer_verdict : List ℕ → ℕ → Element → Result (Unit {0}) Refusal
footer_verdict img file e =
    check_footer (ring_read 8192 (capacity file) img (e.pos + 28 + e.len) 16) e.seq (payload_at img file e)

-- ---- what the workers go by

-- the element has a place in the ring and fits it, in an image of len bytes
pub record Lies (len file : ℕ) (e : Element) : Type 0 where
  pub some : 8192 < file
  pub inside : file ≤ len
  pub small : file < 2 ^ 63
  pub place : e.pos < capacity file
  pub span : element_span e.len ≤ capacity file
