-- What a commit stores is elected: a valid slot, later than the other, and possible where the state is sound. Assumes nothing.
use Rattle.refusal.proofs.Laws.{refused, pass, stop, granted, ne_neb}
use mathlib.Core.Path.{◌≡◌, refl, sym, ap, subst, ◌∙◌}
use mathlib.Core.Bool.{Bool, true, cond}
use mathlib.Core.List.{List}
use Prim.Native.Nat.{ℕ, ◌+◌, ◌^◌, ◌≤◌, ◌<◌}
use native.Mathlib.Decide.{dec_lt}
use native.Mathlib.Omega.{arith}
use lib.ListN.{length, get_or, take, drop}
use lib.Seq.{get_or-take, get_or-drop, length-sets}
use lib.Dec.{eqb}
use borrow.Author.Tests.{le-leb, lt-leb, lt-ltb, eq-eqb, ne_eqb}
use Rattle.refusal.specs.declared.Refusal.{Refusal}
use Rattle.wire.specs.Wire.{word, put_at}
use Rattle.wire.proofs.Numbers.{be_val-be, bytes_at_part, starts_with-take}
use Rattle.wire.proofs.Stores.{put_at-before, put_at-after, bytes_at-put_at}
use Rattle.header.specs.Slot.{other_slot, slot_offset, slot_start, slot_bytes, parse_slot, Fits}
use Rattle.header.specs.declared.HeaderSlot.{HeaderSlot}
use Rattle.header.specs.declared.HeaderSlot.TheVariants.{A, B}
use Rattle.header.specs.declared.SlotData.{SlotData}
use Rattle.header.proofs.RoundTrip.{length-slot_bytes, bytes-slot_bytes, parse_encode, parsed_fits, parsed_bytes}
use Rattle.format.specs.Slots.{holds, elect_slot, check_empty, check_pointers, check_slot}
use Rattle.refusal.specs.Answer.{on_verdict}
use Rattle.queue.specs.State.{sound}
use Rattle.queue.specs.Opening.{tried_slot, checked_state, open_state}
use Rattle.queue.specs.declared.element.Element.{Element}
use Rattle.queue.specs.declared.state.QueueFile.{QueueFile}
use Rattle.queue.proofs.Sound.{sound_lengths_lem, sound_numbers_lem, by_count, first_lies, last_lies}
use Rattle.queue.proofs.OpenLaws.{offset_low}
use Rattle.writing.specs.Commit.{pointer_to, slot_of, slot_stored, next_state}
use Rattle.writing.proofs.CommitLaws.{pointer_none, pointer-some}
use Rattle.assurance.specs.Reopening.{Stored, Current}
use Rattle.assurance.proofs.CommitLaid.{length-slot_stored}
use Rattle.assurance.proofs.Fronts.{slot_part, part_same, Upto}
use Rattle.std.specs.Prelude.{Result, Ok, Err}
use Rattle.format.specs.declared.slots.V2OpenState.{V2OpenState}

abbrev active : QueueFile → HeaderSlot
active q = q.format.active_slot

-- ---- a slot that is stored

-- it is there
part_stored : (img : List ℕ) (at : ℕ) (s : List ℕ) → at + length s ≤ length img → take (length s) (drop at (put_at img at s)) ≡ s
part_stored img at s h =
    sym (bytes_at_part (length s) (put_at img at s) at (omega (arith, h, length-sets img at s))) ∙ bytes_at-put_at img at s h

slot_there : (q : QueueFile) (img : List ℕ) → 8192 ≤ length img → slot_part (slot_stored q img) (active q) ≡ slot_bytes (slot_of q)
unfolding slot_stored
slot_there q img h =
    part_stored img (slot_offset (active q)) (slot_bytes (slot_of q)) (omega (arith, h, offset_low (active q), length-slot_bytes (slot_of q)))

-- and the other slot is as it was
other-kept : (which : HeaderSlot) (img s : List ℕ) → length s ≡ 56 →
    slot_part (put_at img (slot_offset which) s) (other_slot which) ≡ slot_part img (other_slot which)
other-kept A img s l =
    part_same img (put_at img 0 s) 4096 56 (length-sets img 0 s) (λ i h. put_at-after img 0 s (4096 + i) (omega (arith, l)))
other-kept B img s l =
    part_same img (put_at img 4096 s) 0 56 (length-sets img 4096 s) (λ i h. put_at-before img 4096 s (0 + i) (omega (arith, h)))

other_there : (q : QueueFile) (img : List ℕ) → slot_part (slot_stored q img) (other_slot (active q)) ≡ slot_part img (other_slot (active q))
unfolding slot_stored
other_there q img = other-kept (active q) img (slot_bytes (slot_of q)) (length-slot_bytes (slot_of q))

-- ---- generations

-- bytes of a slot hold its generation, if it fits
same_generation : (a b : SlotData) → a.generation < 2 ^ 63 → b.generation < 2 ^ 63 → slot_bytes a ≡ slot_bytes b →
    a.generation ≡ b.generation
same_generation a b h k e =
    sym (be_val-be 8 a.generation (omega (arith, h)))
    ∙ ap (λ (s : List ℕ). word 8 s 36) e
    ∙ be_val-be 8 b.generation (omega (arith, k))

parsed_generation : (a d : SlotData) → parse_slot (slot_bytes a) ≡ Ok d → Dec (a.generation < 2 ^ 63) → d.generation ≤ a.generation
parsed_generation a d e (yes y) =
    let s = slot_bytes a in
    omega (arith, same_generation a d y (parsed_fits s d e).generation (parsed_bytes s d (bytes-slot_bytes a) e))
parsed_generation a d e (no x) = omega (arith, x, (parsed_fits (slot_bytes a) d e).generation)

-- a slot that was stored is up to its state, which need not be sound
pub stored-current : (q : QueueFile) (img : List ℕ) → 8192 ≤ length img → Current (slot_stored q img) q
stored-current q img h d e =
    parsed_generation (slot_of q) d (ap parse_slot (sym (slot_there q img h)) ∙ e) (dec_lt q.format.generation (2 ^ 63))

-- every valid slot that p is has a generation before g
abbrev pub Before : Result SlotData Refusal → ℕ → Type 0
Before p g = (d : SlotData) → p ≡ Ok d → d.generation < g

-- a slot that starts with a zero is not valid
pub zero_none : (img : List ℕ) (g : ℕ) → get_or img 4096 0 ≡ 0 → Before (parse_slot (slot_part img B)) g
zero_none img g z d e =
    let s = slot_part img B in
    let a = granted _ _ _ _ refused e in
    let b = granted _ _ _ _ refused a.1 in
    let magic : get_or s 0 0 ≡ 0x51 =
    sym (get_or-take 8 s 0 0 (omega arith)) ∙ ap (λ (l : List ℕ). get_or l 0 0) (starts_with-take s slot_start b.0) in
    let there : get_or s 0 0 ≡ 0 = get_or-take 56 (drop 4096 img) 0 0 (omega arith) ∙ get_or-drop 4096 img 0 0 ∙ z in
    absurd (omega (arith, magic, there))

-- ---- election

elect_first : (d : SlotData) (p : Result SlotData Refusal) → Before p d.generation → elect_slot (Ok d) p ≡ holds A d
elect_first d (Ok b) h = pass _ _ _ (le-leb b.generation d.generation (omega (arith, h b refl)))
elect_first d (Err r) h = refl

elect_second : (d : SlotData) (p : Result SlotData Refusal) → Before p d.generation → elect_slot p (Ok d) ≡ holds B d
elect_second d (Ok a) h = stop _ _ _ (lt-leb d.generation a.generation (h a refl))
elect_second d (Err r) h = refl

-- a slot that is later than the other is elected
elected : (which : HeaderSlot) (img : List ℕ) (real : ℕ) (d : SlotData) → tried_slot img real which ≡ Ok d →
    Before (tried_slot img real (other_slot which)) d.generation → elect_slot (tried_slot img real A) (tried_slot img real B) ≡ holds which d
elected A img real d e h = rw e (elect_first d (tried_slot img real B) h)
elected B img real d e h = rw e (elect_second d (tried_slot img real A) h)

tried_there : (img : List ℕ) (real : ℕ) (which : HeaderSlot) → 8192 ≤ real → tried_slot img real which ≡ parse_slot (slot_part img which)
unfolding tried_slot
tried_there img real which h = pass _ _ _ (le-leb (slot_offset which + 56) real (omega (arith, h, offset_low which)))

-- ---- a sound state's slot is possible

module _ (q : QueueFile) (len : ℕ) (s : sound q len ≡ true) where
  abbrev pointer : Element → ℕ
  pointer e = pointer_to q.elem_cnt e

  -- a pointer is 0, or names a place of the ring
  pointer-small : (e : Element) → ((q.elem_cnt ≡ 0 → ⊥) → 8192 + e.pos < q.file_len) → pointer e < 2 ^ 63
  pointer-small e h =
      let l = sound_lengths_lem q len s in
      by_count q.elem_cnt
      (λ z. omega (arith, pointer_none q.elem_cnt e z))
      (λ m. omega (arith, pointer-some q.elem_cnt e m, h m, l.real, l.small))

  first_in : (q.elem_cnt ≡ 0 → ⊥) → 8192 + q.first.pos < q.file_len
  first_in m = omega (arith, (first_lies q len s m).place)

  last_in : (q.elem_cnt ≡ 0 → ⊥) → 8192 + q.last.pos < q.file_len
  last_in m = omega (arith, (last_lies q len s m).place)

  slot_fits : Fits (slot_of q)
  slot_fits =
      let l = sound_lengths_lem q len s in
      let n = sound_numbers_lem q len s in
      record {
        length = omega (arith, l.real, l.small);
        count = n.count;
        first = pointer-small q.first first_in;
        last = pointer-small q.last last_in;
        generation = n.generation;
        sequence = n.next_small;
      }

  abbrev first : ℕ
  first = pointer q.first

  abbrev last : ℕ
  last = pointer q.last

  abbrev checked : Bool → Result (Unit {0}) Refusal
  checked empty = cond empty (check_empty first last) (check_pointers first last q.file_len)

  none_granted : q.elem_cnt ≡ 0 → checked (eqb q.elem_cnt 0) ≡ Ok tt
  none_granted z =
      ap checked (eq-eqb q.elem_cnt 0 z)
      ∙ pass _ _ _ (eq-eqb first 0 (pointer_none q.elem_cnt q.first z))
      ∙ pass _ _ _ (eq-eqb last 0 (pointer_none q.elem_cnt q.last z))

  some_granted : (q.elem_cnt ≡ 0 → ⊥) → checked (eqb q.elem_cnt 0) ≡ Ok tt
  some_granted m =
      let a = pointer-some q.elem_cnt q.first m in
      let b = pointer-some q.elem_cnt q.last m in
      ap checked (ne_eqb q.elem_cnt 0 m)
      ∙ pass _ _ _ (ne_neb first 0 (λ z. omega (arith, a, z)))
      ∙ pass _ _ _ (ne_neb last 0 (λ z. omega (arith, b, z)))
      ∙ pass _ _ _ (le-leb 8192 first (omega (arith, a)))
      ∙ pass _ _ _ (lt-ltb first q.file_len (omega (arith, a, first_in m)))
      ∙ pass _ _ _ (le-leb 8192 last (omega (arith, b)))
      ∙ pass _ _ _ (lt-ltb last q.file_len (omega (arith, b, last_in m)))

  slot_granted : check_slot (slot_of q) q.real_len ≡ Ok tt
  slot_granted =
      let l = sound_lengths_lem q len s in
      pass _ _ _ (le-leb _ _ l.start)
      ∙ pass _ _ _ (le-leb _ _ l.real)
      ∙ pass _ _ _ (ne_neb q.format.next_seq 0 (λ z. omega (arith, z, (sound_numbers_lem q len s).next_some)))
      ∙ by_count q.elem_cnt none_granted some_granted

  state_checked : checked_state (holds (active q) (slot_of q)) q.real_len ≡ holds (active q) (slot_of q)
  unfolding checked_state
  state_checked = ap (λ (v : Result (Unit {0}) Refusal). on_verdict Err v (holds (active q) (slot_of q))) slot_granted

-- ---- what is stored is elected

-- where the other slot holds no generation but those before the state's
module _ (q : QueueFile) (img : List ℕ) (s : sound q (length img) ≡ true)
    (u : Before (parse_slot (slot_part img (other_slot (active q)))) q.format.generation) where
  abbrev tried : HeaderSlot → Result SlotData Refusal
  tried which = tried_slot (slot_stored q img) q.real_len which

  tried-long : (which : HeaderSlot) → tried which ≡ parse_slot (slot_part (slot_stored q img) which)
  tried-long which =
      let l = sound_lengths_lem q (length img) s in
      tried_there (slot_stored q img) q.real_len which (omega (arith, l.start, l.real))

  mine : tried (active q) ≡ Ok (slot_of q)
  mine =
      let l = sound_lengths_lem q (length img) s in
      tried-long (active q)
      ∙ ap parse_slot (slot_there q img (omega (arith, l.start, l.real, l.inside)))
      ∙ parse_encode (slot_of q) (slot_fits q (length img) s)

  earlier : Before (tried (other_slot (active q))) q.format.generation
  earlier a e = u a (ap parse_slot (sym (other_there q img)) ∙ sym (tried-long (other_slot (active q))) ∙ e)

  pub stored_elected : Stored (slot_stored q img) q
  unfolding open_state
  stored_elected =
      let l = sound_lengths_lem q (length img) s in
      pass _ _ _ (le-leb q.real_len (length (slot_stored q img)) (omega (arith, l.inside, length-slot_stored q img)))
      ∙ pass _ _ _ (lt-ltb _ _ l.small)
      ∙ ap (λ (e : Result V2OpenState Refusal). checked_state e q.real_len)
      (elected (active q) (slot_stored q img) q.real_len (slot_of q) mine earlier)
      ∙ state_checked q (length img) s

other-twice : (which : HeaderSlot) → other_slot (other_slot which) ≡ which
other-twice A = refl
other-twice B = refl

-- after a commit, where the slot that was active is up to the state before
pub committed-stored : (q : QueueFile) (img : List ℕ) → sound (next_state q) (length img) ≡ true → Current img q →
    Stored (slot_stored (next_state q) img) (next_state q)
committed-stored q img s c =
    let g = q.format.generation in
    let u = subst (λ (which : HeaderSlot). Upto img which g) (sym (other-twice (active q))) c in
    stored_elected (next_state q) img s (λ d e. omega (arith, u d e))
