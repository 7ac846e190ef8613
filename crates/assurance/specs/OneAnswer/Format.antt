-- No second answer fits a promise of the crate `format`. Assumes nothing.
use Rattle.std.specs.Prelude.{ℕ, ◌≡◌, List, ◌++◌, Result}
use Rattle.refusal.specs.declared.Refusal.{Refusal}
use Rattle.header.specs.declared.SlotData.{SlotData}
use Rattle.format.specs.Element.{encode_header, parse_header, footer_bytes, check_footer}
use Rattle.format.specs.FileHeader.{encode_legacy, parse_legacy, encode_v1, parse_v1}
use Rattle.format.specs.FormatState.{data_start, elem_hdr_len, elem_span, next_seq, with_next_seq}
use Rattle.format.specs.Slots.{elect_slot, check_slot}
use Rattle.format.specs.declared.state.FormatState.{FormatState}
use Rattle.assurance.specs.OneAnswer.{NoSecond}
use Rattle.format.specs.declared.file_header.QueueMetadata.{QueueMetadata}
use Rattle.format.specs.declared.element.V2ElementHeader.{V2ElementHeader}
use Rattle.format.specs.declared.slots.V2OpenState.{V2OpenState}

pub record FormatAnswers : Type 0 where
  pub encode_v2_element_header :
      (seq prev_phys payload_len : ℕ) → NoSecond (λ (r : Result (List ℕ) Refusal). r ≡ encode_header seq prev_phys payload_len)
  pub parse_v2_element_header : (s : List ℕ) (capacity : ℕ) → NoSecond (λ (r : Result V2ElementHeader Refusal). r ≡ parse_header s capacity)
  pub encode_v2_footer : (seq : ℕ) (payload : List ℕ) → NoSecond (λ (r : List ℕ). r ≡ footer_bytes seq payload)
  pub validate_v2_footer :
      (s : List ℕ) (seq : ℕ) (payload rest : List ℕ) → NoSecond (λ (r : Result (Unit {0}) Refusal). r ≡ check_footer s seq (payload ++ rest))
  pub encode_legacy_header :
      (file_len elem_cnt first_phys last_phys : ℕ) →
      NoSecond (λ (r : Result (List ℕ) Refusal). r ≡ encode_legacy file_len elem_cnt first_phys last_phys)
  pub parse_legacy_header : (s : List ℕ) → NoSecond (λ (r : Result QueueMetadata Refusal). r ≡ parse_legacy s)
  pub encode_v1_header :
      (file_len elem_cnt first_phys last_phys : ℕ) →
      NoSecond (λ (r : Result (List ℕ) Refusal). r ≡ encode_v1 file_len elem_cnt first_phys last_phys)
  pub parse_versioned_header : (s : List ℕ) → NoSecond (λ (r : Result QueueMetadata Refusal). r ≡ parse_v1 s)
  pub elect_canonical_slot : (slot_a slot_b : Result SlotData Refusal) → NoSecond (λ (r : Result V2OpenState Refusal). r ≡ elect_slot slot_a slot_b)
  pub validate_v2_slot_data : (slot : SlotData) (real_file_len : ℕ) → NoSecond (λ (r : Result (Unit {0}) Refusal). r ≡ check_slot slot real_file_len)
  pub FormatState::data_start : (self : FormatState) → NoSecond (λ (r : ℕ). r ≡ data_start self)
  pub FormatState::elem_hdr_len : (self : FormatState) → NoSecond (λ (r : ℕ). r ≡ elem_hdr_len self)
  pub FormatState::elem_span : (self : FormatState) (payload_len : ℕ) → NoSecond (λ (r : Result ℕ Refusal). r ≡ elem_span self payload_len)
  pub FormatState::next_seq : (self : FormatState) → NoSecond (λ (r : ℕ). r ≡ next_seq self)
  pub FormatState::with_next_seq : (self : FormatState) (seq : ℕ) → NoSecond (λ (r : FormatState). r ≡ with_next_seq self seq)
