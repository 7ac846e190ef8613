-- What a format says of the file and of its elements. Assumes nothing.
use Rattle.std.specs.Prelude.{ℕ, ◌+◌, ◌^◌, ltb, Result, Ok, Err}
use Rattle.refusal.specs.declared.Refusal.TheVariants.{Overflow}
use Rattle.refusal.specs.Demand.{demand}
use Rattle.refusal.specs.declared.Refusal.{Refusal}
use Rattle.format.specs.Element.{element_overhead}
use Rattle.format.specs.declared.state.FormatState.{FormatState}
use Rattle.format.specs.declared.state.FormatState.TheVariants.{Legacy, V1, V2}

-- where the ring of elements starts in the file
abbrev pub data_start : FormatState → ℕ
data_start Legacy = 16
data_start V1 = 32
data_start (V2 f) = 8192

-- the bytes of an element before its payload
abbrev pub elem_hdr_len : FormatState → ℕ
elem_hdr_len Legacy = 4
elem_hdr_len V1 = 4
elem_hdr_len (V2 f) = 28

-- the bytes of an element beside its payload
abbrev pub overhead : FormatState → ℕ
overhead Legacy = 4
overhead V1 = 4
overhead (V2 f) = element_overhead

-- the payload's bytes and those beside it, where a u64 holds their number
abbrev pub elem_span : FormatState → ℕ → Result ℕ Refusal
elem_span f len = demand (ltb (len + overhead f) (2 ^ 64)) (Err Overflow) (Ok (len + overhead f))

-- the sequence that the next element gets; elements before V2 have none
abbrev pub next_seq : FormatState → ℕ
next_seq Legacy = 0
next_seq V1 = 0
next_seq (V2 f) = f.next_seq

abbrev pub with_next_seq : FormatState → ℕ → FormatState
with_next_seq Legacy seq = Legacy
with_next_seq V1 seq = V1
with_next_seq (V2 f) seq = V2 (record { active_slot = f.active_slot; generation = f.generation; next_seq = seq })
