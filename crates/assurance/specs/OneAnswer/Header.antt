-- No second answer fits a promise of the crate `header`. Assumes nothing.
use Rattle.std.specs.Prelude.{ℕ, ◌≡◌, List, Result}
use Rattle.refusal.specs.declared.Refusal.{Refusal}
use Rattle.header.specs.Slot.{other_slot, slot_offset, slot_bytes, judge_fields, encode_slot, parse_slot}
use Rattle.header.specs.declared.HeaderSlot.{HeaderSlot}
use Rattle.header.specs.declared.SlotData.{SlotData}
use Rattle.assurance.specs.OneAnswer.{NoSecond}

pub record HeaderAnswers : Type 0 where
  pub «HeaderSlot::toggle» : (self : HeaderSlot) → NoSecond (λ (r : HeaderSlot). r ≡ other_slot self)
  pub «HeaderSlot::offset» : (self : HeaderSlot) → NoSecond (λ (r : ℕ). r ≡ slot_offset self)
  pub build_slot_bytes : («data» : SlotData) → NoSecond (λ (r : List ℕ). r ≡ slot_bytes «data»)
  pub encode_v2_slot :
      (file_len elem_cnt first_phys last_phys generation next_seq : ℕ) →
      NoSecond (λ (r : Result (List ℕ) Refusal). r ≡ encode_slot file_len elem_cnt first_phys last_phys generation next_seq)
  pub judge_fields :
      (limit count_limit file_len elem_cnt first_phys last_phys : ℕ) →
      NoSecond (λ (r : Result (Unit {0}) Refusal). r ≡ judge_fields limit count_limit file_len elem_cnt first_phys last_phys)
  pub parse_slot : (s : List ℕ) → NoSecond (λ (r : Result SlotData Refusal). r ≡ parse_slot s)
