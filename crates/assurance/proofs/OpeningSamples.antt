-- Opening on small files, by computation: a whole trail opens strictly, is linked and holds its two elements; with an element of another
-- run at first the file opens plainly, and is refused strictly; and so is one that is linked, but whose first names an element that was
-- removed. Assumes nothing.
use Rattle.refusal.proofs.Laws.{same_ok}
use mathlib.Core.Path.{◌≡◌, refl, sym, ap, ◌∙◌}
use mathlib.Core.Logic.{inl}
use mathlib.Core.Bool.{true}
use mathlib.Core.List.{List, [], ◌∷◌}
use Prim.Native.Nat.{ℕ}
use native.Mathlib.Omega.{arith}
use lib.ListN.{length}
use borrow.Author.Tests.{eq-eqb}
use Rattle.refusal.specs.declared.Refusal.TheVariants.{SequenceMismatch, BrokenLink}
use Rattle.refusal.specs.Demand.{demand}
use Rattle.crc.specs.Crc.{shift, shifts, byte_in, bytes_in, crc_of}
use Rattle.header.specs.Slot.{slot_data}
use Rattle.header.specs.declared.HeaderSlot.TheVariants.{A}
use Rattle.ring.specs.Ring.{ring_read}
use Rattle.format.specs.declared.element.V2ElementHeader.{V2ElementHeader}
use Rattle.queue.specs.Element.{element, header_at, payload_at, footer_verdict}
use Rattle.queue.specs.State.{sound_lengths, sound_numbers, sound_ends, sound}
use Rattle.queue.specs.Opening.{tried_slot, checked_state, open_state, first_element, open_ends, open_queue}
use Rattle.queue.specs.Strict.{strict_element, trail_from, check_trail, open_strictly}
use Rattle.assurance.specs.Held.{held_from, elements_of}
use Rattle.assurance.specs.Linked.{Linked}
use Rattle.assurance.specs.StrictOpening.{WholeTrail}
use Rattle.assurance.specs.Samples.{settings, trail_file, mixed_file, later_file, two_from}
use Rattle.assurance.proofs.StrictOpening.{strict_opening_is_exact}
use Rattle.std.specs.Prelude.{Ok, Err}

-- ---- of a file with two elements, once its parts are read

-- the slot, a header at first with that sequence and backlink, and the header at last
record Parts (file : List ℕ) (seq back : ℕ) : Type 0 where
  pub long : length file ≡ 8280
  pub slot : open_state file 8280 ≡ Ok (record { active_slot = A; slot = slot_data 8280 2 8192 8236 1 3 })
  pub first : header_at file 8280 0 ≡ Ok (record { payload_len = 0; seq = seq; prev_pos = back })
  pub last : header_at file 8280 44 ≡ Ok (record { payload_len = 0; seq = 2; prev_pos = 8192 })

-- and the footers
record Footers (file : List ℕ) : Type 0 where
  pub first : footer_verdict file 8280 (element 0 0 1) ≡ Ok tt
  pub last : footer_verdict file 8280 (element 44 0 2) ≡ Ok tt

module _ (file : List ℕ) (seq back : ℕ) (r : Parts file seq back) where
  opened : open_queue file 8280 settings ≡ Ok (two_from seq)
  unfolding open_queue open_ends first_element demand
  opened = rw (r.slot, r.last, r.first)

  is_sound : sound (two_from seq) (length file) ≡ true
  unfolding sound sound_lengths sound_numbers sound_ends
  is_sound = rw r.long

module _ (file : List ℕ) (back : ℕ) (r : Parts file 1 back) (f : Footers file) where
  hangs : trail_from file 8280 44 2 0 1 back 0 ≡ Ok tt
  unfolding trail_from strict_element demand
  hangs = rw (r.first, eq-eqb back back refl, f.first, r.last, f.last)

  abbrev two_linked : Linked file (two_from 1)
  two_linked = record {
    sound = is_sound file 1 back r;
    some = omega arith;
    first_back = back;
    first = r.first;
    last-back = 8192;
    last = r.last;
    trail = hangs;
  }

-- ---- a whole trail

trail-parts : Parts trail_file 1 0
unfolding open_state tried_slot checked_state header_at ring_read demand crc_of bytes_in byte_in shifts shift
trail-parts = record { long = refl; slot = refl; first = refl; last = refl }

trail_footers : Footers trail_file
unfolding footer_verdict payload_at ring_read demand crc_of bytes_in byte_in shifts shift
trail_footers = record { first = refl; last = refl }

pub trail-linked : Linked trail_file (two_from 1)
trail-linked = two_linked trail_file 0 trail-parts trail_footers

-- so it opens strictly by the theorem
pub trail_opens_strictly : open_strictly trail_file 8280 settings ≡ Ok (two_from 1)
trail_opens_strictly =
    (strict_opening_is_exact trail_file 8280 settings (two_from 1)).1 (opened trail_file 1 0 trail-parts)
    (inl (record { linked = two_linked trail_file 0 trail-parts trail_footers; starts = refl }))

pub trail-holds : elements_of (two_from 1) trail_file
    ≡ record { place = 0; seq = 1; back = 0; payload = [] } ∷ record { place = 44; seq = 2; back = 8192; payload = [] } ∷ []
unfolding elements_of held_from payload_at ring_read
trail-holds = rw (trail-parts.first, trail-parts.last)

-- ---- an element of another run at first

mixed_parts : Parts mixed_file 7 0
unfolding open_state tried_slot checked_state header_at ring_read demand crc_of bytes_in byte_in shifts shift
mixed_parts = record { long = refl; slot = refl; first = refl; last = refl }

pub mixed_opens : open_queue mixed_file 8280 settings ≡ Ok (two_from 7)
mixed_opens = opened mixed_file 7 0 mixed_parts

pub mixed_is_refused : open_strictly mixed_file 8280 settings ≡ Err (SequenceMismatch 1 7)
unfolding open_strictly check_trail trail_from strict_element demand
mixed_is_refused = rw (mixed_opens, is_sound mixed_file 7 0 mixed_parts, mixed_parts.first)

-- ---- without the oldest element

later_parts : Parts later_file 1 8236
unfolding open_state tried_slot checked_state header_at ring_read demand crc_of bytes_in byte_in shifts shift
later_parts = record { long = refl; slot = refl; first = refl; last = refl }

later_footers : Footers later_file
unfolding footer_verdict payload_at ring_read demand crc_of bytes_in byte_in shifts shift
later_footers = record { first = refl; last = refl }

pub later_linked : Linked later_file (two_from 1)
later_linked = two_linked later_file 8236 later_parts later_footers

-- the rule on first's backlink is what it does not keep
pub later_is_no_start : WholeTrail later_file (two_from 1) → ⊥
later_is_no_start w =
    let same = same_ok _ _ (sym later_parts.first ∙ w.linked.first) in
    omega (arith, w.starts, ap (λ (h : V2ElementHeader). h.prev_pos) same)

pub later_is_refused : open_strictly later_file 8280 settings ≡ Err BrokenLink
unfolding open_strictly check_trail trail_from strict_element demand
later_is_refused = rw (opened later_file 1 8236 later_parts, is_sound later_file 1 8236 later_parts, later_parts.first)
