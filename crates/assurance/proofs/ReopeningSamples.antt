-- The run is seen to be committed at each of its steps, so that what the theorems on opening ask for is there from the fresh file on; and
-- each of its images opens to its state. But after a clear that cuts the file, which the theorem leaves out, opening is refused (12).
-- Assumes nothing.
use Rattle.refusal.specs.declared.Refusal.TheVariants.{NotASlot, SlotTruncated}
use Rattle.refusal.proofs.Laws.{refused}
use mathlib.Core.Path.{◌≡◌, refl, sym, ◌∙◌}
use mathlib.Core.Logic.{inl, inr}
use mathlib.Core.List.{[]}
use native.Mathlib.Omega.{arith}
use lib.ListN.{take, drop, replicate}
use Rattle.refusal.specs.Demand.{demand}
use Rattle.crc.specs.Crc.{shift, shifts, byte_in, bytes_in, crc_of}
use Rattle.header.specs.Slot.{parse_slot}
use Rattle.queue.specs.Opening.{tried_slot, checked_state, open_state, open_queue}
use Rattle.assurance.specs.Reopening.{Current, Committed}
use Rattle.assurance.specs.ChangeSamples.{settings, none, one, both, other, again, empty, small, uncut, cut, cut_again, none_image, one_image, both_image, other_image, again_image, empty_image, cut_image, cut_again_image}
use Rattle.assurance.specs.GrowthSamples.{wrapping, wrapping_image, straight, straight_image}
use Rattle.assurance.proofs.ChangeSamples.{add_one, add_other, remove_one, commit_again, clear_all, clear_cuts, commit_cut, empty-none, linked-one, linked-both, linked-other}
use Rattle.assurance.proofs.GrowthSamples.{wrapping_grows}
use Rattle.assurance.proofs.Changes.{clear_empties}
use Rattle.assurance.proofs.Reopening.{fresh_is_committed, commit_is_committed, add_is_committed, remove_is_committed, clear_stays_current, clear_is_committed, growth_stays_current}
use Rattle.assurance.proofs.FreshSample.{fresh_none}
use Rattle.std.specs.Prelude.{Ok, Err}

-- ---- from step to step

committed-none : Committed none_image none
committed-none = fresh_is_committed (replicate 8280 0) none_image 8280 settings none (fresh_none (replicate 8280 0) refl)

committed-one : Committed one_image one
committed-one = add_is_committed none_image one_image [] none one (inr empty-none) committed-none.current add_one

committed-both : Committed both_image both
committed-both = add_is_committed one_image both_image [] one both (inl linked-one) committed-one.current add_other

committed-other : Committed other_image other
committed-other =
    remove_is_committed both_image other_image both other 1 (inl linked-both) committed-both.current (omega arith) (omega arith) remove_one

committed-again : Committed again_image again
committed-again = commit_is_committed other_image again_image other again (inl linked-other) committed-other.current commit_again

committed-empty : Committed empty_image empty
committed-empty = clear_is_committed other_image empty_image other empty committed-other.current (omega arith) clear_all

-- ---- each opens

pub opens_one : open_queue one_image 8280 settings ≡ Ok one
opens_one = committed-one.reopens

pub opens_both : open_queue both_image 8280 settings ≡ Ok both
opens_both = committed-both.reopens

pub opens_other : open_queue other_image 8280 settings ≡ Ok other
opens_other = committed-other.reopens

pub opens_again : open_queue again_image 8280 settings ≡ Ok again
opens_again = committed-again.reopens

pub opens_empty : open_queue empty_image 8280 settings ≡ Ok empty
opens_empty = committed-empty.reopens

-- ---- where the file was cut, opening waits for the next commit

pub cut_is_refused : open_queue cut_image 8192 small ≡ Err SlotTruncated
unfolding open_queue open_state tried_slot checked_state demand shift shifts byte_in bytes_in crc_of
cut_is_refused = refl

pub cut-then-committed : Committed cut_again_image cut_again
cut-then-committed =
    commit_is_committed cut_image cut_again_image cut cut_again (inr (clear_empties other_image cut_image uncut cut clear_cuts).0)
    (clear_stays_current other_image cut_image uncut cut clear_cuts) commit_cut

-- ---- growth keeps what the next commit needs: of the queue that wraps both slots are zeros before

no_slots : parse_slot (take 56 (drop 0 wrapping_image)) ≡ Err NotASlot
unfolding demand wrapping_image
no_slots = refl

wrapping-current : Current wrapping_image wrapping
wrapping-current d e = absurd (refused (sym no_slots ∙ e))

pub straight-current : Current straight_image straight
straight-current = growth_stays_current wrapping_image straight_image wrapping straight 9 wrapping-current wrapping_grows
