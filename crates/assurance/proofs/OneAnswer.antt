-- No second answer fits any promise: a promise is an equation, or two of which the second leans on the first. Assumes nothing.
use Prim.Native.Nat.{ℕ}
use mathlib.Core.Path.{◌≡◌, sym, ap, ap₂, ◌∙◌}
use mathlib.Core.List.{List}
use Rattle.assurance.specs.OneAnswer.{NoSecond, NoSecondPair}
use Rattle.assurance.specs.OneAnswer.Refusal.{RefusalAnswers}
use Rattle.assurance.specs.OneAnswer.Wire.{WireAnswers}
use Rattle.assurance.specs.OneAnswer.Crc.{CrcAnswers}
use Rattle.assurance.specs.OneAnswer.Script.{ScriptAnswers}
use Rattle.assurance.specs.OneAnswer.Header.{HeaderAnswers}
use Rattle.assurance.specs.OneAnswer.Format.{FormatAnswers}
use Rattle.assurance.specs.OneAnswer.Ring.{RingAnswers}
use Rattle.assurance.specs.OneAnswer.Queue.{QueueAnswers}
use Rattle.assurance.specs.OneAnswer.Writing.{WritingAnswers}
use Rattle.assurance.specs.OneAnswer.Exports.{ExportsAnswers}

-- what equals d is one
one : {A : Type 0} {d : A} → NoSecond (λ (a : A). a ≡ d)
one a b p q = p ∙ sym q

-- an answer and bytes that are a given pair
pair : {A : Type 0} {d : A × List ℕ} → NoSecondPair (λ (r : A) (s : List ℕ). ◌≡◌ {A = A × List ℕ} (r, s) d)
pair r r' s s' p q = p ∙ sym q

-- an answer that is d, and bytes that come of the answer
one_then : {A : Type 0} {d : A} (f : A → List ℕ) → NoSecondPair (λ (r : A) (s : List ℕ). (r ≡ d) × (s ≡ f r))
one_then {A = A} f r r' s s' p q =
    ap₂ {C = A × List ℕ} (λ x s. (x, s)) (p.0 ∙ sym q.0) (p.1 ∙ ap f (p.0 ∙ sym q.0) ∙ sym q.1)

pub refusal_answers : RefusalAnswers
refusal_answers =
    record {
      Refusal::number = λ self. one;
      Refusal::values = λ self. one;
    }

pub wire_answers : WireAnswers
wire_answers =
    record {
      «Number::bytes» = λ N value self. one;
      «Number::of_bytes» = λ with_value bytes. one;
      get = λ T N s at. one;
      starts_with = λ s p. one;
      part = λ s at n. one;
      copy_into = λ out src. one;
      put = λ out at src. one;
      put_number = λ T N out at v. one;
      fill = λ out value. one;
      fill_at = λ out at n value. one;
    }

pub crc_answers : CrcAnswers
crc_answers =
    record {
      update = λ state part. one;
      crc32 = λ part. one;
      crc32_joined = λ a b. one;
      crc32_of_three = λ a b c. one;
    }

pub script_answers : ScriptAnswers
script_answers =
    record {
      parse_number = λ word. one;
      digit = λ b. one;
      parse_bytes = λ word out. pair;
      line_end = λ text from. one;
      count_words = λ line. one;
      word = λ line i. one;
    }

pub header_answers : HeaderAnswers
header_answers =
    record {
      «HeaderSlot::toggle» = λ self. one;
      «HeaderSlot::offset» = λ self. one;
      build_slot_bytes = λ «data». one;
      encode_v2_slot = λ file_len elem_cnt first_phys last_phys generation next_seq. one;
      judge_fields = λ limit count_limit file_len elem_cnt first_phys last_phys. one;
      parse_slot = λ s. one;
    }

pub format_answers : FormatAnswers
format_answers =
    record {
      encode_v2_element_header = λ seq prev_phys payload_len. one;
      parse_v2_element_header = λ s capacity. one;
      encode_v2_footer = λ seq payload. one;
      validate_v2_footer = λ s seq payload rest. one;
      encode_legacy_header = λ file_len elem_cnt first_phys last_phys. one;
      parse_legacy_header = λ s. one;
      encode_v1_header = λ file_len elem_cnt first_phys last_phys. one;
      parse_versioned_header = λ s. one;
      elect_canonical_slot = λ slot_a slot_b. one;
      validate_v2_slot_data = λ slot real_file_len. one;
      FormatState::data_start = λ self. one;
      FormatState::elem_hdr_len = λ self. one;
      FormatState::elem_span = λ self payload_len. one;
      FormatState::next_seq = λ self. one;
      FormatState::with_next_seq = λ self seq. one;
    }

pub ring_answers : RingAnswers
ring_answers =
    record {
      split = λ image_len file_len logical_pos len. one;
      front_part = λ image file_len logical_pos len. one;
      wrapped_part = λ image file_len logical_pos len. one;
      has_ring = λ start image_len file_len. one;
      add = λ image_len file_len logical_pos delta. one;
      distance = λ image_len file_len from to. one;
      read_at = λ image file_len logical_pos buf. one_then _;
      relocate = λ image orig_file_len moved_count. one_then _;
      write_at = λ image file_len logical_pos buf. one_then _;
      erase_at = λ image file_len logical_pos len. one_then _;
    }

pub queue_answers : QueueAnswers
queue_answers =
    record {
      «Element::here» = λ pos header. one;
      validate_v2_element_header = λ image file_len logical_pos. one;
      «Cursor::after» = λ self stepped. one;
      «QueueFile::iter» = λ self. one;
      «QueueFile::step» = λ self image cursor out. one_then _;
      «Iter::new» = λ image state. one;
      «Iter::next» = λ self out. one_then _;
      «open» = λ image real_len settings. one;
      QueueFile::peek_into = λ self image out. one_then _;
      QueueFile::peek_place = λ self image. one;
      QueueFile::peek_part = λ self image. one;
      to_logical = λ phys. one;
      recover_v2_head = λ image file_len last_logical_pos last_seq elem_cnt. one;
      QueueFile::is_sound = λ self image_len. one;
      QueueFile::sound = λ self image_len. one;
      SoundQueue::remaining = λ self. one;
      QueueFile::used_bytes = λ self image_len. one;
      QueueFile::remaining_bytes = λ self image_len. one;
      open_strict = λ image real_len settings. one;
    }

pub writing_answers : WritingAnswers
writing_answers =
    record {
      judge_add = λ q image_len payload_len. one;
      add = λ q image payload. pair;
      clear = λ q image. pair;
      commit = λ q image. pair;
      compute_expanded_len = λ current_len remaining_bytes data_len. one;
      expand_if_necessary = λ q image data_len. pair;
      fresh = λ image file_len settings. pair;
      remove_n = λ q image n. pair;
    }

pub exports_answers : ExportsAnswers
exports_answers =
    record {
      port_crc32 = λ part. one;
      port_ring_read = λ image file_len logical_pos buf. one_then _;
      port_ring_write = λ image file_len logical_pos buf. one_then _;
      port_ring_erase = λ image file_len logical_pos len. one_then _;
      port_relocate = λ image orig_file_len moved_count. one_then _;
      port_open = λ image real_len. one;
      port_add = λ image real_len payload n. pair;
      port_remove = λ image real_len n. pair;
      port_clear = λ image real_len n. pair;
      port_peek = λ image real_len out n. pair;
      port_iterate = λ image real_len out n. pair;
    }
