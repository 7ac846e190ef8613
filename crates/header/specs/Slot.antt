-- A header slot: its 56 bytes, and what reading them answers. All numbers are big-endian.
-- Assumes nothing.
use Rattle.std.specs.Prelude.{ℕ, ◌^◌, ◌<◌, List, [], ◌∷◌, ◌++◌, length, take, codes, ltb, leb, eqb, Result, Ok, Err}
use Rattle.refusal.specs.declared.Refusal.TheVariants.{Short, NotASlot, FieldTooLarge}
use Rattle.refusal.specs.Answer.{on_verdict}
use Rattle.refusal.specs.Demand.{demand}
use Rattle.refusal.specs.declared.Refusal.{Refusal}
use Rattle.wire.specs.Wire.{be, word, starts_with}
use Rattle.crc.specs.Crc.{crc_of}
use Rattle.header.specs.declared.HeaderSlot.{HeaderSlot}
use Rattle.header.specs.declared.HeaderSlot.TheVariants.{A, B}
use Rattle.header.specs.declared.SlotData.{SlotData}

-- ---- which slot

abbrev pub other_slot : HeaderSlot → HeaderSlot
other_slot A = B
other_slot B = A

-- where it stands in the file
abbrev pub slot_offset : HeaderSlot → ℕ
slot_offset A = 0
slot_offset B = 4096

-- the letter that it is printed as
abbrev pub slot_letter : HeaderSlot → List ℕ
slot_letter A = codes "A"
slot_letter B = codes "B"

-- ---- what it holds

abbrev pub slot_data : ℕ → ℕ → ℕ → ℕ → ℕ → ℕ → SlotData
slot_data file_len count first last generation next_seq =
    record {
      file_length = file_len;
      element_count = count;
      first_position = first;
      last_position = last;
      generation = generation;
      next_sequence_number = next_seq;
    }

-- ---- its bytes

-- "QFMH", version 2, three zeros
abbrev pub slot_start : List ℕ
slot_start = 0x51 ∷ 0x46 ∷ 0x4D ∷ 0x48 ∷ 2 ∷ 0 ∷ 0 ∷ 0 ∷ []

-- the first 52
abbrev pub slot_fields : SlotData → List ℕ
slot_fields d =
    slot_start
    ++ be 8 d.file_length
    ++ be 4 d.element_count
    ++ be 8 d.first_position
    ++ be 8 d.last_position
    ++ be 8 d.generation
    ++ be 8 d.next_sequence_number

-- all 56: the CRC-32 of the 52 stands last
abbrev pub slot_bytes : SlotData → List ℕ
slot_bytes d = slot_fields d ++ be 4 (crc_of (slot_fields d))

-- the fields that every file header has, in their order: the first that is not below its limit is refused
abbrev pub judge_fields : ℕ → ℕ → ℕ → ℕ → ℕ → ℕ → Result (Unit {0}) Refusal
judge_fields limit count_limit file_len count first last =
    demand (ltb file_len limit) (Err (FieldTooLarge 1))
    (demand (ltb count count_limit) (Err (FieldTooLarge 2))
    (demand (ltb first limit) (Err (FieldTooLarge 3))
    (demand (ltb last limit) (Err (FieldTooLarge 4))
    (Ok tt))))

-- what encoding answers; neither the generation nor the next sequence is judged
abbrev pub encode_slot : ℕ → ℕ → ℕ → ℕ → ℕ → ℕ → Result (List ℕ) Refusal
encode_slot file_len count first last generation next_seq =
    on_verdict Err (judge_fields (2 ^ 63) (2 ^ 32) file_len count first last)
    (Ok (slot_bytes (slot_data file_len count first last generation next_seq)))

-- ---- what its bytes say

-- the fields as they stand
abbrev pub slot_at : List ℕ → SlotData
slot_at s = slot_data (word 8 s 8) (word 4 s 16) (word 8 s 20) (word 8 s 28) (word 8 s 36) (word 8 s 44)

-- no field is negative, and the CRC-32 fits
abbrev pub judge_slot : SlotData → ℕ → ℕ → Result SlotData Refusal
judge_slot d stored sum =
    demand (ltb d.file_length (2 ^ 63)) (Err NotASlot)
    (demand (ltb d.element_count (2 ^ 31)) (Err NotASlot)
    (demand (ltb d.first_position (2 ^ 63)) (Err NotASlot)
    (demand (ltb d.last_position (2 ^ 63)) (Err NotASlot)
    (demand (ltb d.generation (2 ^ 63)) (Err NotASlot)
    (demand (ltb d.next_sequence_number (2 ^ 63)) (Err NotASlot)
    (demand (eqb stored sum) (Err NotASlot)
    (Ok d)))))))

-- what reading a slot answers; bytes after the 56 are not read
abbrev pub parse_slot : List ℕ → Result SlotData Refusal
parse_slot s =
    demand (leb 56 (length s)) (Err Short)
    (demand (starts_with s slot_start) (Err NotASlot)
    (judge_slot (slot_at s) (word 4 s 52) (crc_of (take 52 s))))

-- ---- what a slot can hold

-- the limits within which what is encoded parses
pub record Fits (d : SlotData) : Type 0 where
  pub length : d.file_length < 2 ^ 63
  pub count : d.element_count < 2 ^ 31
  pub first : d.first_position < 2 ^ 63
  pub last : d.last_position < 2 ^ 63
  pub generation : d.generation < 2 ^ 63
  pub sequence : d.next_sequence_number < 2 ^ 63

-- the limits within which a file header's fields are granted
pub record Below (limit count_limit file_len elements from to : ℕ) : Type 0 where
  pub length : file_len < limit
  pub count : elements < count_limit
  pub first : from < limit
  pub last : to < limit
