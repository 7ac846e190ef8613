-- The front of an image: its first 8192 bytes, where both slots stand. Stores behind them change neither slot, so the same one is elected.
-- Assumes nothing.
use mathlib.Core.Path.{◌≡◌, refl, sym, ap, ◌∙◌}
use mathlib.Core.List.{List}
use Prim.Native.Nat.{ℕ, ◌+◌, ◌-◌, ◌≤◌, ◌<◌, min}
use native.Mathlib.Omega.{arith}
use lib.ListN.{length, get_or, take, drop, length-take, length-drop}
use lib.Seq.{ext_get_or, get_or-take, get_or-drop, length-sets}
use Rattle.wire.specs.Wire.{put_at}
use Rattle.wire.proofs.Stores.{put_at-before}
use Rattle.ring.specs.Ring.{ring_write}
use Rattle.ring.proofs.Writing.{length_write, write_before}
use Rattle.header.specs.Slot.{slot_offset, parse_slot}
use Rattle.header.specs.declared.HeaderSlot.{HeaderSlot}
use Rattle.header.specs.declared.HeaderSlot.TheVariants.{A, B}
use Rattle.header.specs.declared.SlotData.{SlotData}
use Rattle.queue.specs.Opening.{tried_slot, open_state}
use Rattle.queue.proofs.OpenLaws.{offset_low}
use Rattle.std.specs.Prelude.{Ok}

-- ---- the bytes of a slot

abbrev pub slot_part : List ℕ → HeaderSlot → List ℕ
slot_part img which = take 56 (drop (slot_offset which) img)

-- parts of two images that are as long, whose bytes are the same one by one
pub part_same : (img img' : List ℕ) (at n : ℕ) → length img' ≡ length img → ((i : ℕ) → i < n → get_or img' (at + i) 0 ≡ get_or img (at + i) 0) →
    take n (drop at img') ≡ take n (drop at img)
part_same img img' at n l e =
    ext_get_or 0 (take n (drop at img')) (take n (drop at img)) (long img' ∙ ap (λ (k : ℕ). min n (k - at)) l ∙ sym (long img)) (λ i b.
    let h : i < n = omega (arith, b, length-take n (drop at img')) in
    byte img' i h ∙ e i h ∙ sym (byte img i h))
  where
    long : (s : List ℕ) → length (take n (drop at s)) ≡ min n (length s - at)
    long s = length-take n (drop at s) ∙ ap (min n) (length-drop at s)

    byte : (s : List ℕ) (i : ℕ) → i < n → get_or (take n (drop at s)) i 0 ≡ get_or s (at + i) 0
    byte s i h = get_or-take n (drop at s) i 0 h ∙ get_or-drop at s i 0

-- ---- stores behind the slots

-- two images that are as long and have the same 8192 bytes in front
pub record Fronts (img img' : List ℕ) : Type 0 where
  pub long : length img' ≡ length img
  pub same : (i : ℕ) → i < 8192 → get_or img' i 0 ≡ get_or img i 0

pub front_all : (img : List ℕ) → Fronts img img
front_all img = record { long = refl; same = λ i h. refl }

pub front-then : (a b c : List ℕ) → Fronts a b → Fronts b c → Fronts a c
front-then a b c f g = record { long = g.long ∙ f.long; same = λ i h. g.same i h ∙ f.same i h }

pub front-put : (img : List ℕ) (at : ℕ) (s : List ℕ) → 8192 ≤ at → Fronts img (put_at img at s)
front-put img at s l = record { long = length-sets img at s; same = λ i h. put_at-before img at s i (omega (arith, h, l)) }

pub front_write : (size : ℕ) (img : List ℕ) (p : ℕ) (s : List ℕ) → Fronts img (ring_write 8192 size img p s)
front_write size img p s =
    record {
      long = length_write 8192 size img p s;
      same =
          λ i h.
          sym (get_or-take 8192 (ring_write 8192 size img p s) i 0 h)
          ∙ ap (λ (l : List ℕ). get_or l i 0) (write_before 8192 size img p s)
          ∙ get_or-take 8192 img i 0 h;
    }

module _ (img img' : List ℕ) (f : Fronts img img') where
  -- the slots are the same
  slot_kept : (which : HeaderSlot) → slot_part img' which ≡ slot_part img which
  slot_kept which =
      part_same img img' (slot_offset which) 56 f.long (λ i h. f.same (slot_offset which + i) (omega (arith, h, offset_low which)))

  tried-kept : (real : ℕ) (which : HeaderSlot) → tried_slot img' real which ≡ tried_slot img real which
  unfolding tried_slot
  tried-kept real which = rw (slot_kept which)

  -- so the same is elected
  pub state_kept : (real : ℕ) → open_state img' real ≡ open_state img real
  unfolding open_state
  state_kept real = rw (f.long, tried-kept real A, tried-kept real B)

-- ---- generations

-- a slot holds no later generation than g, if it is valid at all
abbrev pub Upto : List ℕ → HeaderSlot → ℕ → Type 0
Upto img which g = (d : SlotData) → parse_slot (slot_part img which) ≡ Ok d → d.generation ≤ g

pub upto_kept : (img img' : List ℕ) (which : HeaderSlot) (g : ℕ) → Fronts img img' → Upto img which g → Upto img' which g
upto_kept img img' which g f u d e = u d (ap parse_slot (sym (slot_kept img img' f which)) ∙ e)
