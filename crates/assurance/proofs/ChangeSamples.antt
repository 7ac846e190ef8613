-- The run computes: each call answers the state and the image that it should, and the elements that each image holds, CRC-32 and all,
-- are those that the theorems say. Assumes nothing.
use mathlib.Core.Path.{◌≡◌, refl}
use mathlib.Core.Logic.{inl, inr}
use mathlib.Core.List.{[], ◌∷◌}
use native.Mathlib.Omega.{arith}
use Rattle.refusal.specs.Demand.{demand}
use Rattle.crc.specs.Crc.{shift, shifts, byte_in, bytes_in, crc_of}
use Rattle.ring.specs.Ring.{ring_read, ring_write}
use Rattle.queue.specs.Element.{is_empty_element, header_at, payload_at}
use Rattle.queue.specs.State.{used_bytes, sound_lengths, sound_numbers, no_ends, sound_ends, sound}
use Rattle.writing.specs.Commit.{slot_stored, committed, judge_numbers, judge_commit, commit_of}
use Rattle.writing.specs.Length.{least_from, grow_length}
use Rattle.writing.specs.Growth.{wrapped, commits_growth, judge_length, check_growth}
use Rattle.writing.specs.Expansion.{grown}
use Rattle.writing.specs.Adding.{appended, judge_add, add_of}
use Rattle.writing.specs.Removal.{skip_from, removed_zeroed, remove_to, remove_some, remove_of}
use Rattle.writing.specs.Clearing.{ring_zeroed, cleared, clear_of}
use Rattle.assurance.specs.Held.{held_from, elements_of}
use Rattle.assurance.specs.Linked.{Linked, Empty, LinkedOrEmpty}
use Rattle.assurance.specs.ChangeSamples.{none, one, both, other, again, empty, uncut, cut, cut_again, none_image, one_image, both_image, other_image, again_image, empty_image, cut_image, cut_again_image, held_first, held_second}
use Rattle.assurance.proofs.Changes.{remove_keeps_queue}
use Rattle.assurance.proofs.Adding.{add_keeps_queue}
use Rattle.std.specs.Prelude.{Ok}

-- ---- the calls

pub add_one : add_of none [] none_image ≡ (Ok one, one_image)
unfolding demand is_empty_element used_bytes sound_lengths sound_numbers no_ends sound_ends sound
    slot_stored committed judge_numbers least_from grow_length wrapped commits_growth judge_length check_growth grown appended judge_add add_of ring_write
add_one = refl

pub add_other : add_of one [] one_image ≡ (Ok both, both_image)
unfolding demand is_empty_element used_bytes sound_lengths sound_numbers no_ends sound_ends sound
    slot_stored committed judge_numbers least_from grow_length wrapped commits_growth judge_length check_growth grown appended judge_add add_of ring_write
add_other = refl

pub remove_one : remove_of both 1 both_image ≡ (Ok other, other_image)
unfolding demand is_empty_element used_bytes sound_lengths sound_numbers no_ends sound_ends sound
    slot_stored committed judge_numbers skip_from removed_zeroed remove_to remove_some remove_of header_at ring_read ring_write shift shifts byte_in bytes_in crc_of
remove_one = refl

pub commit_again : commit_of other other_image ≡ (Ok again, again_image)
unfolding sound_lengths sound_numbers sound_ends sound demand slot_stored committed judge_numbers judge_commit commit_of
commit_again = refl

pub clear_all : clear_of other other_image ≡ (Ok empty, empty_image)
unfolding sound_lengths sound_numbers sound_ends sound demand slot_stored committed judge_numbers judge_commit ring_zeroed cleared clear_of
clear_all = refl

pub clear_cuts : clear_of uncut other_image ≡ (Ok cut, cut_image)
unfolding sound_lengths sound_numbers sound_ends sound demand slot_stored committed judge_numbers judge_commit ring_zeroed cleared clear_of
clear_cuts = refl

pub commit_cut : commit_of cut cut_image ≡ (Ok cut_again, cut_again_image)
unfolding is_empty_element sound_lengths sound_numbers no_ends sound demand slot_stored committed judge_numbers judge_commit commit_of
commit_cut = refl

-- ---- what is held

pub holds-one : elements_of one one_image ≡ held_first ∷ []
unfolding demand shift shifts byte_in bytes_in crc_of ring_read header_at payload_at elements_of held_from
holds-one = refl

pub holds-both : elements_of both both_image ≡ held_first ∷ held_second ∷ []
unfolding demand shift shifts byte_in bytes_in crc_of ring_read header_at payload_at elements_of held_from
holds-both = refl

pub holds-other : elements_of other other_image ≡ held_second ∷ []
unfolding demand shift shifts byte_in bytes_in crc_of ring_read header_at payload_at elements_of held_from
holds-other = refl

-- ---- so there are linked queues: the empty one is seen to be empty, and the theorem leads on from there

pub empty-none : Empty none_image none
unfolding is_empty_element sound_lengths sound_numbers no_ends sound
empty-none = record { sound = refl; none = refl }

pub linked-one : Linked one_image one
linked-one = (add_keeps_queue none_image one_image [] none one (inr empty-none) add_one).0

pub linked-both : Linked both_image both
linked-both = (add_keeps_queue one_image both_image [] one both (inl linked-one) add_other).0

pub linked-other : Linked other_image other
linked-other = some_left (remove_keeps_queue both_image other_image both other 1 (inl linked-both) remove_one).whole
  where
    some_left : LinkedOrEmpty other_image other → Linked other_image other
    some_left (inl k) = k
    some_left (inr m) = absurd (omega (arith, m.none))
