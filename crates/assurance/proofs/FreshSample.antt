-- A worked example: what a fresh file of 8280 bytes holds, byte for byte, and that it opens to the state that it was made with. All of it
-- computes, the CRC-32 too. Assumes nothing.
use mathlib.Core.Path.{◌≡◌, refl, sym, ap, ◌∙◌}
use mathlib.Core.List.{List, [], ◌∷◌, ◌++◌}
use Prim.Native.Nat.{ℕ, ◌^◌, ◌≤◌, ◌<◌}
use native.Mathlib.Omega.{arith}
use lib.ListN.{length, replicate, length-replicate}
use lib.Seq.{sets-eq}
use borrow.Author.Tests.{le-leb, lt-ltb}
use Rattle.refusal.specs.Demand.{demand}
use Rattle.refusal.proofs.Laws.{pass}
use Rattle.wire.specs.Wire.{put_at}
use Rattle.wire.proofs.Stores.{put_at_all}
use Rattle.crc.specs.Crc.{shift, shifts, byte_in, bytes_in, crc_of}
use Rattle.header.specs.Slot.{slot_bytes}
use Rattle.queue.specs.Opening.{tried_slot, checked_state, open_state, open_queue}
use Rattle.writing.specs.Commit.{slot_of, slot_stored}
use Rattle.writing.specs.Fresh.{fresh_queue, fresh_of}
use Rattle.assurance.specs.ChangeSamples.{settings, none, none_image}
use Rattle.std.specs.Prelude.{Ok}

-- magic and version, file length 8280, count 0, no pointers, generation 1, next sequence 1, and the CRC-32 of all that
abbrev slot : List ℕ
slot =
    0x51 ∷ 0x46 ∷ 0x4D ∷ 0x48 ∷ 2 ∷ 0 ∷ 0 ∷ 0
    ∷ 0 ∷ 0 ∷ 0 ∷ 0 ∷ 0 ∷ 0 ∷ 0x20 ∷ 0x58
    ∷ 0 ∷ 0 ∷ 0 ∷ 0
    ∷ 0 ∷ 0 ∷ 0 ∷ 0 ∷ 0 ∷ 0 ∷ 0 ∷ 0
    ∷ 0 ∷ 0 ∷ 0 ∷ 0 ∷ 0 ∷ 0 ∷ 0 ∷ 0
    ∷ 0 ∷ 0 ∷ 0 ∷ 0 ∷ 0 ∷ 0 ∷ 0 ∷ 1
    ∷ 0 ∷ 0 ∷ 0 ∷ 0 ∷ 0 ∷ 0 ∷ 0 ∷ 1
    ∷ 0xF3 ∷ 0x53 ∷ 0x9F ∷ 0x1C ∷ []

-- that, and zeros
abbrev image : List ℕ
image = slot ++ replicate 8224 0

slot-bytes : slot_bytes (slot_of none) ≡ slot
unfolding shift shifts byte_in bytes_in crc_of
slot-bytes = refl

-- any image of 8280 bytes becomes this one
fresh_from : (n : ℕ) (img : List ℕ) → 8192 ≤ n → n < 2 ^ 63 → length img ≡ n →
    fresh_of n settings img ≡ (Ok (fresh_queue n settings), put_at (replicate n 0) 0 (slot_bytes (slot_of (fresh_queue n settings))))
unfolding fresh_of slot_stored
fresh_from n img h k l =
    pass _ _ _ (le-leb 8192 n h)
    ∙ pass _ _ _ (lt-ltb n (2 ^ 63) k)
    ∙ pass _ _ _ (le-leb n (length img) (omega (arith, l)))
    ∙ rw (put_at_all img (replicate n 0) (length-replicate n 0 ∙ sym l))

zeros-first : (s : List ℕ) → s ≡ slot → put_at (replicate 8280 0) 0 s ≡ image
zeros-first s e = ap (put_at (replicate 8280 0) 0) e ∙ sets-eq slot (replicate 8280 0) 0 (omega arith)

fresh_leaves : (img : List ℕ) → length img ≡ 8280 → fresh_of 8280 settings img ≡ (Ok none, image)
fresh_leaves img l =
    fresh_from 8280 img (omega arith) (omega arith) l
    ∙ ap (λ (i : List ℕ). (Ok none, i)) (zeros-first _ slot-bytes)

-- and opens
pub fresh_opens : open_queue image 8280 settings ≡ Ok none
unfolding open_queue open_state tried_slot checked_state demand shift shifts byte_in bytes_in crc_of
fresh_opens = refl

-- it is the run's first image
pub fresh_none : (img : List ℕ) → length img ≡ 8280 → fresh_of 8280 settings img ≡ (Ok none, none_image)
unfolding shift shifts byte_in bytes_in crc_of
fresh_none img l = fresh_leaves img l
