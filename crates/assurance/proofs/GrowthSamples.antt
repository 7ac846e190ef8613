-- A queue that wraps is seen to grow, by computation, beside the theorem: it is linked, its growth answers this state and this image, and
-- what it holds before and after is what the theorem tells. Assumes nothing.
use mathlib.Core.Path.{◌≡◌, refl, ap, ◌∙◌}
use mathlib.Core.Bool.{true}
use mathlib.Core.List.{List, ◌++◌}
use Prim.Native.Nat.{ℕ}
use lib.ListN.{length, take, drop, replicate}
use lib.Seq.{sets-eq}
use Rattle.wire.specs.Wire.{put_at}
use Rattle.wire.proofs.Numbers.{bytes_at_part}
use native.Mathlib.Omega.{arith}
use Rattle.refusal.specs.Demand.{demand}
use Rattle.crc.specs.Crc.{shift, shifts, byte_in, bytes_in, crc_of}
use Rattle.ring.specs.Ring.{ring_read, relocated}
use Rattle.ring.proofs.Writing.{write_straight}
use Rattle.header.specs.Slot.{slot_bytes}
use Rattle.header.proofs.RoundTrip.{length-slot_bytes}
use Rattle.format.specs.Element.{header_fields, header_bytes}
use Rattle.queue.specs.Element.{element, header_at, payload_at, footer_verdict}
use Rattle.queue.specs.State.{used_bytes, sound_lengths, sound_numbers, sound_ends, sound}
use Rattle.queue.specs.Strict.{strict_element, trail_from}
use Rattle.writing.specs.Commit.{slot_of, slot_stored, committed, judge_numbers}
use Rattle.writing.specs.Length.{grow_length, least_from}
use Rattle.writing.specs.Growth.{wrapped, commits_growth, judge_length, walk_from, walk_old_ring, check_growth}
use Rattle.writing.specs.Expansion.{lengthened, relinked_header, relink_from, last_placed, start_zeroed, laid_straight, expanded, grown, judge_expansion, expand_of}
use Rattle.assurance.specs.Held.{held_from, elements_of}
use Rattle.assurance.specs.Linked.{Stands, Linked}
use Rattle.assurance.specs.Growth.{grown_elements}
use Rattle.assurance.specs.GrowthSamples.{first, second, third, wrapping, wrapping_image, wrapping_elements, third', straight, straight_image, straight_elements}
use Rattle.std.specs.Prelude.{Ok}

-- ---- before

header-one : Stands wrapping_image 8332 (element 100 0 1) 0
unfolding header_at ring_read demand crc_of bytes_in byte_in shifts shift wrapping_image
header-one = refl

header-two : Stands wrapping_image 8332 (element 4 0 2) 8292
unfolding header_at ring_read demand crc_of bytes_in byte_in shifts shift wrapping_image
header-two = refl

header_three : Stands wrapping_image 8332 (element 48 0 3) 8196
unfolding header_at ring_read demand crc_of bytes_in byte_in shifts shift wrapping_image
header_three = refl

footer_one : footer_verdict wrapping_image 8332 (element 100 0 1) ≡ Ok tt
unfolding footer_verdict payload_at ring_read demand crc_of bytes_in byte_in shifts shift wrapping_image
footer_one = refl

footer_two : footer_verdict wrapping_image 8332 (element 4 0 2) ≡ Ok tt
unfolding footer_verdict payload_at ring_read demand crc_of bytes_in byte_in shifts shift wrapping_image
footer_two = refl

footer_three : footer_verdict wrapping_image 8332 (element 48 0 3) ≡ Ok tt
unfolding footer_verdict payload_at ring_read demand crc_of bytes_in byte_in shifts shift wrapping_image
footer_three = refl

length-image : length wrapping_image ≡ 16664
unfolding wrapping_image
length-image = refl

is_sound : sound wrapping (length wrapping_image) ≡ true
unfolding sound sound_lengths sound_numbers sound_ends
is_sound = rw (length-image)

hangs : trail_from wrapping_image 8332 48 3 100 1 0 0 ≡ Ok tt
unfolding trail_from strict_element demand
hangs = rw (header-one, footer_one, header-two, footer_two, header_three, footer_three)

pub wrapping-linked : Linked wrapping_image wrapping
wrapping-linked =
    record {
      sound = is_sound;
      some = omega arith;
      first_back = 0;
      first = header-one;
      last-back = 8196;
      last = header_three;
      trail = hangs;
    }

pub wrapping-holds : elements_of wrapping wrapping_image ≡ wrapping_elements
unfolding elements_of held_from payload_at ring_read
wrapping-holds = rw (header-one, header-two, header_three)

-- ---- after

-- the ring's start copied behind its end
unfoldable copied : List ℕ
copied =
    replicate 8192 0
    ++ (drop 40 first ++ (second ++ (third ++ (replicate 8 0 ++ (first ++ (second ++ (third ++ replicate 8240 0)))))))

-- last's backlink anew
unfoldable anew : List ℕ
anew =
    replicate 8192 0
    ++ (drop 40 first ++ (second ++ (third ++ (replicate 8 0 ++ (first ++ (second ++ (third' ++ replicate 8240 0)))))))

-- and a slot
unfoldable slotted : List ℕ
slotted =
    replicate 4096 0
    ++ (slot_bytes (slot_of straight) ++ (replicate 4040 0
    ++ (drop 40 first ++ (second ++ (third ++ (replicate 8 0 ++ (first ++ (second ++ (third' ++ replicate 8240 0)))))))))

is_copied : relocated 8192 wrapping_image 8332 92 ≡ copied
unfolding copied wrapping_image
is_copied =
    ap (put_at wrapping_image 8332) (bytes_at_part 92 wrapping_image 8192 (omega (arith, length-image)))
    ∙ sets-eq (take 92 (drop 8192 wrapping_image)) wrapping_image 8332 (omega (arith, length-image))

copied-one : Stands copied 16664 (element 100 0 1) 0
unfolding header_at ring_read demand crc_of bytes_in byte_in shifts shift copied
copied-one = refl

copied-two : Stands copied 16664 (element 144 0 2) 8292
unfolding header_at ring_read demand crc_of bytes_in byte_in shifts shift copied
copied-two = refl

copied_three : Stands copied 16664 (element 188 0 3) 8196
unfolding header_at ring_read demand crc_of bytes_in byte_in shifts shift copied
copied_three = refl

length-copied : length copied ≡ 16664
unfolding copied
length-copied = refl

sum-anew : crc_of (header_fields 3 8336 0) ≡ 0x2CA4_5586
unfolding crc_of bytes_in byte_in shifts shift
sum-anew = refl

spelled : take 8380 copied ++ header_bytes 3 8336 0 ++ drop 8408 copied ≡ anew
unfolding copied anew
spelled = rw (sum-anew)

is_anew : relink_from 16664 8332 92 3 copied 100 ≡ anew
unfolding relink_from relinked_header demand
is_anew =
    rw (copied-one, copied-two, copied_three)
    (write_straight 8192 8472 copied 188 (header_bytes 3 8336 0) (omega arith) ∙ stored-anew)
  where
    stored-anew : put_at copied 8380 (header_bytes 3 8336 0) ≡ anew
    stored-anew = sets-eq (header_bytes 3 8336 0) copied 8380 (omega (arith, length-copied)) ∙ spelled

length-anew : length anew ≡ 16664
unfolding anew
length-anew = refl

is_slotted : put_at anew 4096 (slot_bytes (slot_of straight)) ≡ slotted
unfolding anew slotted
is_slotted = sets-eq (slot_bytes (slot_of straight)) anew 4096 (omega (arith, length-anew, length-slot_bytes (slot_of straight)))

length-slotted : length slotted ≡ 16664
unfolding slotted
length-slotted = refl

is_zeroed : put_at slotted 8192 (replicate 92 0) ≡ straight_image
unfolding slotted straight_image
is_zeroed = sets-eq (replicate 92 0) slotted 8192 (omega (arith, length-slotted))

grows : grown 16664 (wrapping, wrapping_image) ≡ (straight, straight_image)
unfolding grown expanded laid_straight lengthened last_placed committed slot_stored start_zeroed wrapped
grows = rw (is_copied, is_anew, is_slotted, is_zeroed)

planned : judge_expansion wrapping (length wrapping_image) 9 ≡ Ok 16664
unfolding judge_expansion judge_length judge_numbers grow_length least_from used_bytes commits_growth wrapped demand
planned = rw (is_sound, length-image)

checked : check_growth wrapping wrapping_image 16664 ≡ Ok tt
unfolding check_growth walk_old_ring walk_from wrapped demand
checked = rw (header-one, header-two, header_three)

pub wrapping_grows : expand_of wrapping 9 wrapping_image ≡ (Ok straight, straight_image)
unfolding expand_of
wrapping_grows = rw (planned, checked, grows)

-- ---- what it then holds

straight-one : Stands straight_image 16664 (element 100 0 1) 0
unfolding header_at ring_read demand crc_of bytes_in byte_in shifts shift straight_image
straight-one = refl

straight-two : Stands straight_image 16664 (element 144 0 2) 8292
unfolding header_at ring_read demand crc_of bytes_in byte_in shifts shift straight_image
straight-two = refl

straight_three : Stands straight_image 16664 (element 188 0 3) 8336
unfolding header_at ring_read demand crc_of bytes_in byte_in shifts shift straight_image
straight_three = refl

pub straight-holds : elements_of straight straight_image ≡ straight_elements
unfolding elements_of held_from payload_at ring_read
straight-holds = rw (straight-one, straight-two, straight_three)

-- as the theorem tells
pub as_told : straight_elements ≡ grown_elements wrapping 16664 wrapping_elements
unfolding wrapped
as_told = refl
