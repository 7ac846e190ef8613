-- Recovery is exact: it finds the head exactly when the trail is whole. Assumes nothing.
use Rattle.refusal.specs.Table.{number_of}
use Rattle.std.specs.Prelude.{ℕ, suc, ◌+◌, ◌-◌, ◌<◌, ◌≤◌, ◌≡◌, List, length, get_or, Ok, Err}
use Rattle.refusal.specs.declared.Refusal.{Refusal}
use Rattle.format.specs.declared.element.V2ElementHeader.{V2ElementHeader}
use Rattle.queue.specs.Element.{element_here, header_at}
use Rattle.queue.specs.Recover.{recover_head}
use Rattle.queue.specs.declared.element.Element.{Element}

-- places of a file's ring, the tail first, that hang together: each has a header, which is valid; the sequences fall by one from the
-- tail sequence; and each place but the last holds as backlink 8192 plus the next place
pub record Trail (img : List ℕ) (file : ℕ) (places : List ℕ) (tail_seq : ℕ) : Type 0 where
  pub header : ℕ → V2ElementHeader
  pub valid : (i : ℕ) → i < length places → header_at img file (get_or places i 0) ≡ Ok (header i)
  pub falls : (i : ℕ) → i < length places → (header i).seq + i ≡ tail_seq
  pub linked : (i : ℕ) → suc i < length places → (header i).prev_pos ≡ 8192 + get_or places (suc i) 0

-- there are n such places, the tail first, and e is the last of them with its header's length and sequence
pub record Recovery (img : List ℕ) (file tail tail_seq n : ℕ) (e : Element) : Type 0 where
  pub places : List ℕ
  pub many : length places ≡ n
  pub first : get_or places 0 0 ≡ tail
  pub trail : Trail img file places tail_seq
  pub answer : e ≡ element_here (get_or places (n - 1) 0) (trail.header (n - 1))

-- demand 3, first half: recovery succeeds with e exactly when there is such a trail that ends in e
abbrev pub RecoveryIsExact : Type 0
RecoveryIsExact =
    (img : List ℕ) (file tail tail_seq n : ℕ) (e : Element) → 8192 < file → file ≤ length img → 1 ≤ n →
    (recover_head img file tail tail_seq n ≡ Ok e → Recovery img file tail tail_seq n e)
    × (Recovery img file tail tail_seq n e → recover_head img file tail tail_seq n ≡ Ok e)

-- from one tail there is one list of so many places at most
abbrev pub TrailIsUnique : Type 0
TrailIsUnique =
    (img : List ℕ) (file tail_seq : ℕ) (a b : List ℕ) → length a ≡ length b → get_or a 0 0 ≡ get_or b 0 0 →
    Trail img file a tail_seq → Trail img file b tail_seq → a ≡ b

-- no recovery is refused with 21: a valid header's sequence is at least 1, so no step passes the tail sequence
abbrev pub NeverAboveTailSequence : Type 0
NeverAboveTailSequence =
    (img : List ℕ) (file tail tail_seq n : ℕ) (r : Refusal) → recover_head img file tail tail_seq n ≡ Err r → number_of r ≡ 21 → ⊥
