-- Recovery on small images, by computation; and that nothing which the theorems ask for is out of reach. Assumes nothing.
use mathlib.Core.Path.{◌≡◌, refl}
use mathlib.Core.List.{[], ◌∷◌}
use Prim.Native.Nat.{ℕ, zero, suc, ◌+◌, ◌<◌, ◌≤◌}
use native.Mathlib.Omega.{arith}
use lib.ListN.{length, get_or}
use Rattle.refusal.specs.Demand.{demand}
use Rattle.refusal.specs.declared.Refusal.TheVariants.{SequenceMismatch, BacklinkLow, BacklinkZero, RecoveryEmpty, Unsound}
use Rattle.crc.specs.Crc.{shift, shifts, byte_in, bytes_in, crc_of}
use Rattle.ring.specs.Ring.{ring_read, has_ring}
use Rattle.format.specs.declared.element.V2ElementHeader.{V2ElementHeader}
use Rattle.queue.specs.Element.{element, header_at}
use Rattle.queue.specs.Recover.{recover_from, recover_head}
use Rattle.assurance.specs.Recovery.{Trail, Recovery}
use Rattle.assurance.specs.Samples.{two, turned, spoilt}
use Rattle.assurance.proofs.Recovery.{recovery_is_exact}
use Rattle.std.specs.Prelude.{Ok, Err}

-- ---- the two headers, from the tail on

abbrev headers : ℕ → V2ElementHeader
headers zero = record { payload_len = 0; seq = 2; prev_pos = 8192 }
headers (suc i) = record { payload_len = 0; seq = 1; prev_pos = 0 }

tail_header : header_at two 8280 44 ≡ Ok (headers 0)
unfolding header_at ring_read demand crc_of bytes_in byte_in shifts shift
tail_header = refl

first-header : header_at two 8280 0 ≡ Ok (headers 1)
unfolding header_at ring_read demand crc_of bytes_in byte_in shifts shift
first-header = refl

-- ---- what recovery answers

pub recovers_two : recover_head two 8280 44 2 2 ≡ Ok (element 0 0 1)
unfolding recover_head recover_from has_ring demand
recovers_two = rw (tail_header, first-header)

-- the first one's backlink is asked for only where one more is wanted
pub one_too_many : recover_head two 8280 44 2 3 ≡ Err BacklinkZero
unfolding recover_head recover_from has_ring demand
one_too_many = rw (tail_header, first-header)

pub other-sequence : recover_head two 8280 44 3 2 ≡ Err (SequenceMismatch 3 2)
unfolding recover_head recover_from has_ring demand
other-sequence = rw tail_header

pub no_elements : recover_head two 8280 44 2 0 ≡ Err RecoveryEmpty
unfolding recover_head recover_from has_ring demand
no_elements = refl

-- the image has 8280 bytes
pub past_the_image : recover_head two 8281 44 2 2 ≡ Err Unsound
unfolding recover_head has_ring demand
past_the_image = refl

-- the place is not reduced in the answer: 132 is 44 and a turn
pub unreduced : recover_head two 8280 132 2 1 ≡ Ok (element 132 0 2)
unfolding recover_head recover_from header_at has_ring ring_read demand crc_of bytes_in byte_in shifts shift
unreduced = refl

-- a header that crosses the ring's end is read whole, from the tail's place 36 and from the same a turn further
pub across : (recover_head turned 8280 36 2 2 ≡ Ok (element 80 0 1)) × (recover_head turned 8280 124 2 2 ≡ Ok (element 80 0 1))
unfolding recover_head recover_from header_at has_ring ring_read demand crc_of bytes_in byte_in shifts shift
across = (refl, refl)

pub low_backlink : recover_head spoilt 8280 44 2 2 ≡ Err BacklinkLow
unfolding recover_head recover_from header_at has_ring ring_read demand crc_of bytes_in byte_in shifts shift
low_backlink = refl

-- ---- a trail, without the theorem

valid : (i : ℕ) → i < 2 → header_at two 8280 (get_or (44 ∷ 0 ∷ []) i 0) ≡ Ok (headers i)
valid zero l = tail_header
valid (suc zero) l = first-header
valid (suc (suc i)) l = absurd (omega arith)

falls : (i : ℕ) → i < 2 → (headers i).seq + i ≡ 2
falls zero l = refl
falls (suc i) l = omega arith

linked : (i : ℕ) → suc i < 2 → (headers i).prev_pos ≡ 8192 + get_or (44 ∷ 0 ∷ []) (suc i) 0
linked zero l = refl
linked (suc i) l = absurd (omega arith)

abbrev trail : Trail two 8280 (44 ∷ 0 ∷ []) 2
trail = record { header = headers; valid = valid; falls = falls; linked = linked }

pub by_hand : Recovery two 8280 44 2 2 (element 0 0 1)
by_hand = record { places = 44 ∷ 0 ∷ []; many = refl; first = refl; trail = trail; answer = refl }

-- ---- and by the theorem, both ways

length_two : 8280 ≤ length two
unfolding demand
length_two = omega arith

pub by_theorem : Recovery two 8280 44 2 2 (element 0 0 1)
by_theorem = (recovery_is_exact two 8280 44 2 2 _ (omega arith) length_two (omega arith)).0 recovers_two

pub recovers_again : recover_head two 8280 44 2 2 ≡ Ok (element 0 0 1)
recovers_again = (recovery_is_exact two 8280 44 2 2 _ (omega arith) length_two (omega arith)).1 by_hand
