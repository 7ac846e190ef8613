-- A commit keeps the elements where they are: it stores a slot, and slots lie before the ring. A sound queue stays sound.
-- Assumes nothing.
use mathlib.Core.Path.{◌≡◌, refl}
use mathlib.Core.List.{List, ◌∷◌}
use Prim.Native.Nat.{ℕ, ◌+◌, ◌^◌, ◌<◌}
use native.Mathlib.Omega.{arith}
use lib.ListN.{length}
use lib.Seq.{length-sets}
use Rattle.header.specs.Slot.{slot_offset, slot_bytes}
use Rattle.header.proofs.RoundTrip.{length-slot_bytes}
use Rattle.queue.specs.Element.{capacity}
use Rattle.queue.specs.declared.state.QueueFile.{QueueFile}
use Rattle.queue.proofs.OpenLaws.{offset_low}
use Rattle.writing.specs.Work.{Work}
use Rattle.writing.specs.Commit.{slot_of, slot_stored, next_state, committed}
use Rattle.assurance.proofs.Chain.{Elem, Agree, total, agree_slot, chain_frame}
use Rattle.assurance.proofs.Laid.{Laid, laid_with}

-- ---- a slot that is stored

pub length-slot_stored : (q : QueueFile) (img : List ℕ) → length (slot_stored q img) ≡ length img
unfolding slot_stored
length-slot_stored q img = length-sets img (slot_offset q.format.active_slot) (slot_bytes (slot_of q))

pub agree_stored : (q : QueueFile) (img : List ℕ) (size p n : ℕ) → Agree img size (slot_stored q img) size p n
unfolding slot_stored
agree_stored q img size p n =
    agree_slot img size (slot_offset q.format.active_slot) (slot_bytes (slot_of q)) p n
    (omega (arith, length-slot_bytes (slot_of q), offset_low q.format.active_slot))

-- ---- what a commit leaves

pub committed_state : (w : Work) → (committed w).0 ≡ next_state w.0
unfolding committed
committed_state w = refl

pub length-committed : (w : Work) → length (committed w).1 ≡ length w.1
unfolding committed
length-committed w = length-slot_stored (next_state w.0) w.1

pub committed_laid : (img : List ℕ) (q : QueueFile) (e : Elem) (es : List Elem) → Laid img q e es → q.format.generation + 1 < 2 ^ 63
    → Laid (committed (q, img)).1 (committed (q, img)).0 e es
unfolding committed
committed_laid img q e es k g =
    let s = next_state q in
    laid_with img (slot_stored s img) q e es s.format k refl g (length-slot_stored s img)
    (chain_frame (e ∷ es) img (slot_stored s img) (capacity q.file_len) (capacity q.file_len) q.first.pos (omega arith)
    (agree_stored s img (capacity q.file_len) q.first.pos (total (e ∷ es)))
    k.holds)
