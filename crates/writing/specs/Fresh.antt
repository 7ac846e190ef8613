-- A fresh image: an empty queue in slot A, and zeros. Assumes nothing.
use Rattle.std.specs.Prelude.{ℕ, ◌^◌, List, length, replicate, ltb, leb, Result}
use Rattle.refusal.specs.declared.Refusal.TheVariants.{Unsound, BufferTooSmall}
use Rattle.refusal.specs.Demand.{demand}
use Rattle.wire.specs.Wire.{put_at}
use Rattle.header.specs.Slot.{slot_data}
use Rattle.header.specs.declared.HeaderSlot.TheVariants.{A}
use Rattle.format.specs.declared.slots.V2OpenState.{V2OpenState}
use Rattle.queue.specs.Opening.{built_queue}
use Rattle.queue.specs.declared.state.Settings.{Settings}
use Rattle.queue.specs.declared.state.QueueFile.{QueueFile}
use Rattle.writing.specs.Work.{done, kept}
use Rattle.writing.specs.Commit.{slot_stored}
use Rattle.refusal.specs.declared.Refusal.{Refusal}

-- slot A with generation 1, count 0 and next sequence 1
abbrev pub fresh_slot : ℕ → V2OpenState
fresh_slot n = record { active_slot = A; slot = slot_data n 0 0 0 1 1 }

abbrev pub fresh_queue : ℕ → Settings → QueueFile
fresh_queue n settings = built_queue (fresh_slot n) n settings

-- 28 for a length below 8192 or not below 2^63, then 26; the bytes beyond the length stay
unfoldable pub fresh_of : ℕ → Settings → List ℕ → Result QueueFile Refusal × List ℕ
fresh_of n settings img =
    demand (leb 8192 n) (kept img Unsound)
    (demand (ltb n (2 ^ 63)) (kept img Unsound)
    (demand (leb n (length img)) (kept img BufferTooSmall)
    (done (fresh_queue n settings, slot_stored (fresh_queue n settings) (put_at img 0 (replicate n 0))))))
