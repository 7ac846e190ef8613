-- The table of examples that is proved, a field for each. A refusal stands with its number. Assumes nothing.
use Rattle.std.specs.Prelude.{ℕ, ◌+◌, ◌≡◌, true, List, length, Result, Ok, Err}
use Rattle.refusal.specs.Table.{number_of, values_of}
use Rattle.refusal.specs.declared.Refusal.TheVariants.{Overflow, NoSlot, RecoveryEmpty, HeaderSpan}
use Rattle.refusal.specs.declared.Refusal.{Refusal}
use Rattle.header.specs.declared.HeaderSlot.TheVariants.{A, B}
use Rattle.header.specs.declared.SlotData.{SlotData}
use Rattle.format.specs.Element.{header_bytes, parse_header}
use Rattle.format.specs.Slots.{elect_slot}
use Rattle.ring.specs.Ring.{ring_add, ring_distance, has_ring}
use Rattle.queue.specs.Recover.{recover_head}
use Rattle.writing.specs.Length.{grow_length}

-- an answer is refused, by a refusal of that number and no values
abbrev pub Refuses : {A : Type 0} → Result A Refusal → Refusal → ℕ → Type 0
Refuses answer r number = (answer ≡ Err r) × (number_of r ≡ number) × (values_of r ≡ (0, 0))

pub record ProvedTable : Type 0 where
  -- how long a file of 8192 bytes gets, none of them left, for so many; one of no bytes cannot grow
  pub room_for_44 : grow_length 8192 0 44 ≡ Ok 16384
  pub room_for_8192 : grow_length 8192 0 8192 ≡ Ok 16384
  pub room_for_8193 : grow_length 8192 0 8193 ≡ Ok 32768
  pub no_length : Refuses (grow_length 0 0 1) Overflow 27
  -- places of a ring of 100
  pub round_the_end : ring_distance 100 90 10 ≡ 20
  pub to_itself : ring_distance 100 7 7 ≡ 0
  pub past_the_end : ring_add 100 88 44 ≡ 32
  -- the slot that holds, whatever else the two say
  pub equal_generations :
      (a b : SlotData) → a.generation ≡ b.generation →
      elect_slot (Ok a) (Ok b) ≡ Ok (record { active_slot = A; slot = a })
  pub one_higher :
      (a b : SlotData) → b.generation ≡ a.generation + 1 →
      elect_slot (Ok a) (Ok b) ≡ Ok (record { active_slot = B; slot = b })
  pub neither : (r s : Refusal) → Refuses (elect_slot (Err r) (Err s)) NoSlot 10
  -- recovery of no elements, where there is a ring
  pub no_elements :
      (img : List ℕ) (file tail tail_seq : ℕ) → has_ring 8192 (length img) file ≡ true →
      Refuses (recover_head img file tail tail_seq 0) RecoveryEmpty 20
  -- an element of 44 bytes, with its CRC, in a ring of 44 and in one of 43
  pub span_fits : parse_header (header_bytes 1 0 0) 44 ≡ Ok (record { payload_len = 0; seq = 1; prev_pos = 0 })
  pub span_too_long : Refuses (parse_header (header_bytes 1 0 0) 43) HeaderSpan 6
