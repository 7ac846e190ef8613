-- What is known of a file that opens: of the slot that holds in it, and of the state's lengths. Assumes nothing.
use Rattle.refusal.proofs.Laws.{refused, same_ok, granted, on_granted}
use mathlib.Core.Path.{◌≡◌, refl, sym, ap, ◌∙◌}
use mathlib.Core.Logic.{◌⊎◌, inl, inr}
use mathlib.Core.Bool.{Bool, cond}
use mathlib.Core.List.{List}
use Prim.Native.Nat.{ℕ, ◌-◌, ◌^◌, ◌≤◌, ◌<◌}
use native.Mathlib.Omega.{arith}
use lib.ListN.{length}
use borrow.Author.Tests.{ltb-true, leb-true, eq-eqb, ne_eqb}
use Rattle.refusal.specs.declared.Refusal.{Refusal}
use Rattle.header.specs.Slot.{slot_offset}
use Rattle.header.specs.declared.HeaderSlot.{HeaderSlot}
use Rattle.header.specs.declared.HeaderSlot.TheVariants.{A, B}
use Rattle.header.specs.declared.SlotData.{SlotData}
use Rattle.format.specs.Slots.{check_empty, check_pointers, check_slot}
use Rattle.format.specs.declared.slots.V2OpenState.{V2OpenState}
use Rattle.format.specs.declared.element.V2ElementHeader.{V2ElementHeader}
use Rattle.refusal.specs.Answer.{on_ok}
use Rattle.queue.specs.Places.{to_logical}
use Rattle.queue.specs.Element.{element_here, header_at, header_in_sequence}
use Rattle.queue.specs.Opening.{checked_state, open_state, built_queue, with_ends, first_element, open_ends, opened_from, from_state, open_queue}
use Rattle.queue.specs.declared.element.Element.{Element}
use Rattle.queue.specs.declared.state.Settings.{Settings}
use Rattle.queue.specs.declared.state.QueueFile.{QueueFile}
use Rattle.queue.proofs.Headers.{on_sequence}
use Rattle.queue.proofs.Sound.{not_zero, Lengths, by_count}
use Rattle.std.specs.Prelude.{Result, Ok, Err}

-- ---- where a slot stands

pub offset_low : (w : HeaderSlot) → slot_offset w ≤ 4096
offset_low A = omega arith
offset_low B = omega arith

-- ---- a slot that is granted

-- its pointers lie in the ring, so there is one
pointers_ring : (first last file : ℕ) → check_pointers first last file ≡ Ok tt → 8192 < file
pointers_ring first last file e =
    let a = granted _ _ _ _ refused e in
    let b = granted _ _ _ _ refused a.1 in
    let d = granted _ _ _ _ refused b.1 in
    let g = granted _ _ _ _ refused d.1 in
    let low : 8192 ≤ first = leb-true _ _ d.0 in
    let high : first < file = ltb-true _ _ g.0 in
    omega (arith, low, high)

-- what its check says: the file reaches behind both slots and not past the real length, and there is a ring where there are elements
pub record Possible (d : SlotData) (real : ℕ) : Type 0 where
  pub start : 8192 ≤ d.file_length
  pub inside : d.file_length ≤ real
  pub next : 0 < d.next_sequence_number
  pub ring : (d.element_count ≡ 0 → ⊥) → 8192 < d.file_length

pub slot_known : (d : SlotData) (real : ℕ) → check_slot d real ≡ Ok tt → Possible d real
slot_known d real e =
    let a = granted _ _ _ _ refused e in
    let b = granted _ _ _ _ refused a.1 in
    let g = granted _ _ _ _ refused b.1 in
    let empty = check_empty d.first_position d.last_position in
    let pointers = check_pointers d.first_position d.last_position d.file_length in
    record {
      start = leb-true _ _ a.0;
      inside = leb-true _ _ b.0;
      next = not_zero d.next_sequence_number g.0;
      ring =
          λ some. pointers_ring d.first_position d.last_position d.file_length
          (sym (ap (λ (t : Bool). cond t empty pointers) (ne_eqb _ _ some)) ∙ g.1);
    }

-- ---- the slot that holds

-- it is the elected one, whose check granted it
checked_granted : (e : Result V2OpenState Refusal) (real : ℕ) (o : V2OpenState) → checked_state e real ≡ Ok o → check_slot o.slot real ≡ Ok tt
unfolding checked_state
checked_granted (Err r) real o h = absurd (refused h)
checked_granted (Ok s) real o h =
    let k = on_granted Err (check_slot s.slot real) (Ok s) (Ok o) (λ r. refused) h in
    let slot : Ok s ≡ Ok o = k.1 in
    let same : s ≡ o = cc in
    ap (λ (t : V2OpenState). check_slot t.slot real) (sym same) ∙ k.0

-- with what opening itself asks of the real length
pub record Holds (len real : ℕ) (o : V2OpenState) : Type 0 where
  pub inside : real ≤ len
  pub small : real < 2 ^ 63
  pub slot : Possible o.slot real

pub state_known : (img : List ℕ) (real : ℕ) (o : V2OpenState) → open_state img real ≡ Ok o → Holds (length img) real o
unfolding open_state
state_known img real o e =
    let a = granted _ _ _ _ refused e in
    let b = granted _ _ _ _ refused a.1 in
    record {
      inside = leb-true _ _ a.0;
      small = ltb-true _ _ b.0;
      slot = slot_known o.slot real (checked_granted _ real o b.1);
    }

-- ---- the state that opens

-- what q with elements went by where it opens as q': the ends' places, a valid header at last, and a head from first on
pub record EndsOpened (img : List ℕ) (q q' : QueueFile) : Type 0 where
  pub some : q.elem_cnt ≡ 0 → ⊥
  pub first : ℕ
  pub last : ℕ
  pub header : V2ElementHeader
  pub valid : header_at img q.file_len last ≡ Ok header
  pub head : Element
  pub found : first_element img q.file_len first (element_here last header) q.elem_cnt ≡ Ok head
  pub built : with_ends q head (element_here last header) ≡ q'

module _ (img : List ℕ) (q q' : QueueFile) (n : q.elem_cnt ≡ 0 → ⊥) where
  head_opened : (first last : ℕ) (h : V2ElementHeader) (r : Result Element Refusal) → header_at img q.file_len last ≡ Ok h
      → first_element img q.file_len first (element_here last h) q.elem_cnt ≡ r
      → on_ok Err r (λ e. Ok (with_ends q e (element_here last h))) ≡ Ok q' → EndsOpened img q q'
  head_opened first last h (Err r) v f e = absurd (refused e)
  head_opened first last h (Ok x) v f e =
      record { some = n; first = first; last = last; header = h; valid = v; head = x; found = f; built = same_ok _ _ e }

  places-opened : (a b : Result ℕ Refusal) (seq : ℕ) →
      on_ok Err a (λ first.
      on_ok Err b (λ last.
      on_ok Err (header_in_sequence img q.file_len last seq) (λ h.
      on_ok Err (first_element img q.file_len first (element_here last h) q.elem_cnt) (λ e.
      Ok (with_ends q e (element_here last h))))))
      ≡ Ok q' → EndsOpened img q q'
  places-opened (Err r) b seq e = absurd (refused e)
  places-opened (Ok first) (Err r) seq e = absurd (refused e)
  places-opened (Ok first) (Ok last) seq e =
      let s = on_sequence Err (header_at img q.file_len last) seq _ (Ok q') (λ r. refused) e in
      head_opened first last s.header _ s.valid refl s.goes

  ends-opened : (d : SlotData) → open_ends img q d ≡ Ok q' → EndsOpened img q q'
  unfolding open_ends
  ends-opened d e = places-opened (to_logical d.first_position) (to_logical d.last_position) (d.next_sequence_number - 1) e

-- a state that opens from q is q itself, with no elements, or has gone by its ends
pub state_opened : (img : List ℕ) (q q' : QueueFile) (d : SlotData) → opened_from img q d ≡ Ok q'
    → ((q.elem_cnt ≡ 0) × (q ≡ q')) ⊎ EndsOpened img q q'
state_opened img q q' d e =
    let answer : Bool → Result QueueFile Refusal = λ none. cond none (Ok q) (open_ends img q d) in
    by_count q.elem_cnt
    (λ z. inl (z, same_ok q q' (sym (ap answer (eq-eqb _ _ z)) ∙ e)))
    (λ n. inr (ends-opened img q q' n d (sym (ap answer (ne_eqb _ _ n)) ∙ e)))

-- either way all but its ends is q
own_ends : (q q' : QueueFile) (first last : Element) → with_ends q first last ≡ q' → q' ≡ with_ends q q'.first q'.last
own_ends q q' first last w = sym w ∙ ap (λ (t : QueueFile). with_ends q t.first t.last) w

state_own : (img : List ℕ) (q q' : QueueFile) → ((q.elem_cnt ≡ 0) × (q ≡ q')) ⊎ EndsOpened img q q' → q' ≡ with_ends q q'.first q'.last
state_own img q q' (inl z) = own_ends q q' q.first q.last z.1
state_own img q q' (inr k) = own_ends q q' k.head (element_here k.last k.header) k.built

-- the state is the one that the slot tells of, but for its ends
pub record From (img : List ℕ) (real : ℕ) (settings : Settings) (q : QueueFile) : Type 0 where
  pub state : V2OpenState
  pub holds : open_state img real ≡ Ok state
  pub built : q ≡ with_ends (built_queue state real settings) q.first q.last

from_elected : (img : List ℕ) (real : ℕ) (settings : Settings) (q : QueueFile) (e : Result V2OpenState Refusal) → open_state img real ≡ e → from_state img real settings e ≡ Ok q → From img real settings q
from_elected img real settings q (Err r) h a = absurd (refused a)
from_elected img real settings q (Ok o) h a =
    let b = built_queue o real settings in
    record { state = o; holds = h; built = state_own img b q (state_opened img b q o.slot a) }

pub opened-from : (img : List ℕ) (real : ℕ) (settings : Settings) (q : QueueFile) → open_queue img real settings ≡ Ok q → From img real settings q
unfolding open_queue
opened-from img real settings q e = from_elected img real settings q (open_state img real) refl e

-- its real length is the one that was given, and its lengths are sound
pub open_lengths : (img : List ℕ) (real : ℕ) (settings : Settings) (q : QueueFile) → open_queue img real settings ≡ Ok q → (q.real_len ≡ real) × Lengths q (length img)
open_lengths img real settings q e =
    let f = opened-from img real settings q e in
    let h = state_known img real f.state f.holds in
    let r : q.real_len ≡ real = ap (λ (t : QueueFile). t.real_len) f.built in
    let l : q.file_len ≡ f.state.slot.file_length = ap (λ (t : QueueFile). t.file_len) f.built in (
      r,
      record {
        start = omega (arith, l, h.slot.start);
        real = omega (arith, l, r, h.slot.inside);
        inside = omega (arith, r, h.inside);
        small = omega (arith, r, h.small);
      },
    )
