-- When a state is sound over an image of len bytes, and how much of the file it uses. Assumes nothing.
use Rattle.std.specs.Prelude.{ℕ, ◌+◌, ◌-◌, ◌^◌, Bool, not, cond, ◌&&◌, ltb, leb, eqb, Result, Ok, Err}
use Rattle.refusal.specs.declared.Refusal.TheVariants.{Unsound}
use Rattle.refusal.specs.Demand.{demand}
use Rattle.refusal.specs.declared.Refusal.{Refusal}
use Rattle.ring.specs.Ring.{ring_distance}
use Rattle.format.specs.Element.{element_span}
use Rattle.queue.specs.Element.{is_empty_element, capacity}
use Rattle.queue.specs.declared.state.QueueFile.{QueueFile}

-- ---- used bytes

-- the distance from first to last, last's span, and the 8192 bytes before the ring
abbrev pub ends_used : QueueFile → ℕ
ends_used q = ring_distance (capacity q.file_len) q.first.pos q.last.pos + element_span q.last.len + 8192

unfoldable pub used_bytes : QueueFile → ℕ
used_bytes q = cond (eqb q.elem_cnt 0) 8192 (ends_used q)

-- the bytes of the file that are not used
abbrev pub remaining_bytes : QueueFile → ℕ
remaining_bytes q = q.file_len - used_bytes q

-- ---- soundness

-- 8192 <= file length <= real length <= image length, and the real length below 2^63
unfoldable pub sound_lengths : QueueFile → ℕ → Bool
sound_lengths q len =
    leb 8192 q.file_len
    && (leb q.file_len q.real_len
    && (leb q.real_len len
    && ltb q.real_len (2 ^ 63)))

-- the next sequence from 1 on and below 2^63, the generation below 2^63, the count below 2^31
unfoldable pub sound_numbers : QueueFile → Bool
sound_numbers q =
    not (eqb q.format.next_seq 0)
    && (ltb q.format.next_seq (2 ^ 63)
    && (ltb q.format.generation (2 ^ 63)
    && ltb q.elem_cnt (2 ^ 31)))

-- of an empty queue: first and last are all 0
unfoldable pub no_ends : QueueFile → Bool
no_ends q = is_empty_element q.first && is_empty_element q.last

-- of any other: both places are below the capacity, both spans within it, and the used bytes within the file length
unfoldable pub sound_ends : QueueFile → Bool
sound_ends q =
    ltb q.first.pos (capacity q.file_len)
    && (ltb q.last.pos (capacity q.file_len)
    && (leb (element_span q.first.len) (capacity q.file_len)
    && (leb (element_span q.last.len) (capacity q.file_len)
    && leb (ends_used q) q.file_len)))

unfoldable pub sound : QueueFile → ℕ → Bool
sound q len = sound_lengths q len && (sound_numbers q && cond (eqb q.elem_cnt 0) (no_ends q) (sound_ends q))

-- ---- what is asked of a sound state

abbrev pub judge_used : QueueFile → ℕ → Result ℕ Refusal
judge_used q len = demand (sound q len) (Err Unsound) (Ok (used_bytes q))

abbrev pub judge_remaining : QueueFile → ℕ → Result ℕ Refusal
judge_remaining q len = demand (sound q len) (Err Unsound) (Ok (remaining_bytes q))
