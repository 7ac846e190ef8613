-- A slot both ways: what is encoded within the limits parses to what was encoded, and what parses is within the limits and
-- was encoded so. Assumes nothing.
use mathlib.Core.Path.{◌≡◌, refl, sym, ap, subst, ◌∙◌}
use mathlib.Core.List.{List, [], ◌∷◌}
use Prim.Native.Nat.{ℕ, ◌^◌, ◌≤◌}
use native.Mathlib.Omega.{arith}
use borrow.Author.Tests.{lt-ltb, eq-eqb, leb-true, ltb-true, eqb-true}
use lib.ListN.{length, take, replicate}
use lib.Seq.{take-add}
use Rattle.refusal.specs.declared.Refusal.{Refusal}
use Rattle.refusal.proofs.Laws.{met, granted, refused, given_or}
use Rattle.refusal.specs.Answer.{on_verdict}
use Rattle.wire.specs.Wire.{Bytes, be, word}
use Rattle.wire.proofs.Numbers.{bytes-layout, append-both, be_val-be, be-word, bytes_at_part, starts_with-take}
use Rattle.crc.specs.Crc.{crc_of}
use Rattle.crc.proofs.Limits.{crc_of_lt}
use Rattle.header.specs.Slot.{Fits, Below, slot_start, slot_fields, slot_bytes, slot_data, judge_fields, encode_slot, slot_at, parse_slot}
use Rattle.header.specs.declared.SlotData.{SlotData}
use Rattle.header.proofs.Fields.{below_granted}
use Rattle.std.specs.Prelude.{Result, Ok, Err}
use Rattle.std.specs.Result.{result_unwrap_or}

-- ---- the bytes

pub length-slot_bytes : (d : SlotData) → length (slot_bytes d) ≡ 56
length-slot_bytes d = refl

pub bytes-slot_bytes : (d : SlotData) → Bytes (slot_bytes d)
bytes-slot_bytes d =
    bytes-layout
    ((8, 0x5146_4D48_0200_0000)
    ∷ (8, d.file_length)
    ∷ (4, d.element_count)
    ∷ (8, d.first_position)
    ∷ (8, d.last_position)
    ∷ (8, d.generation)
    ∷ (8, d.next_sequence_number)
    ∷ (4, crc_of (slot_fields d))
    ∷ [])

module _ (file_len count first last generation next_seq : ℕ) where
  -- an encoder gives these bytes or none
  -- 56 bytes, also where zeros stand in for what is refused
  pub length_encoded : length (result_unwrap_or (encode_slot file_len count first last generation next_seq) (replicate 56 0)) ≡ 56
  length_encoded =
      given_or (λ (l : List ℕ). length l ≡ 56) (judge_fields (2 ^ 63) (2 ^ 32) file_len count first last) _ _ refl refl

  pub bytes_encoded : Bytes (result_unwrap_or (encode_slot file_len count first last generation next_seq) (replicate 56 0))
  bytes_encoded =
      given_or Bytes (judge_fields (2 ^ 63) (2 ^ 32) file_len count first last) _ _
      (bytes-slot_bytes (slot_data file_len count first last generation next_seq)) (bytes-layout ((56, 0) ∷ []))

  -- within its own limits the encoder gives the bytes
  pub encode_granted : Below (2 ^ 63) (2 ^ 32) file_len count first last →
      encode_slot file_len count first last generation next_seq ≡ Ok (slot_bytes (slot_data file_len count first last generation next_seq))
  encode_granted b =
      ap (λ (v : Result (Unit {0}) Refusal). on_verdict Err v (Ok (slot_bytes (slot_data file_len count first last generation next_seq))))
      (below_granted (2 ^ 63) (2 ^ 32) file_len count first last b)

-- ---- parse after encode

module _ (d : SlotData) (f : Fits d) where
  n : word 8 (slot_bytes d) 8 ≡ d.file_length
  n = be_val-be 8 d.file_length (omega (arith, f.length))

  c : word 4 (slot_bytes d) 16 ≡ d.element_count
  c = be_val-be 4 d.element_count (omega (arith, f.count))

  p : word 8 (slot_bytes d) 20 ≡ d.first_position
  p = be_val-be 8 d.first_position (omega (arith, f.first))

  q : word 8 (slot_bytes d) 28 ≡ d.last_position
  q = be_val-be 8 d.last_position (omega (arith, f.last))

  g : word 8 (slot_bytes d) 36 ≡ d.generation
  g = be_val-be 8 d.generation (omega (arith, f.generation))

  m : word 8 (slot_bytes d) 44 ≡ d.next_sequence_number
  m = be_val-be 8 d.next_sequence_number (omega (arith, f.sequence))

  k : word 4 (slot_bytes d) 52 ≡ crc_of (take 52 (slot_bytes d))
  k = be_val-be 4 (crc_of (slot_fields d)) (crc_of_lt (slot_fields d))

  pub parse_encode : parse_slot (slot_bytes d) ≡ Ok d
  parse_encode =
      sym
      (met _ _ _ refl
      (met _ _ _ refl
      (met _ _ _ (rw n (lt-ltb d.file_length (2 ^ 63) f.length))
      (met _ _ _ (rw c (lt-ltb d.element_count (2 ^ 31) f.count))
      (met _ _ _ (rw p (lt-ltb d.first_position (2 ^ 63) f.first))
      (met _ _ _ (rw q (lt-ltb d.last_position (2 ^ 63) f.last))
      (met _ _ _ (rw g (lt-ltb d.generation (2 ^ 63) f.generation))
      (met _ _ _ (rw m (lt-ltb d.next_sequence_number (2 ^ 63) f.sequence))
      (met _ _ _ (eq-eqb _ _ k)
      (rw (n, c, p, q, g, m)))))))))))

-- ---- encode after parse

-- what bytes that parse have
record Parsed (s : List ℕ) (d : SlotData) : Type 0 where
  pub long : 56 ≤ length s
  pub starts : take 8 s ≡ slot_start
  pub fits : Fits (slot_at s)
  pub sums : word 4 s 52 ≡ crc_of (take 52 s)
  pub same : slot_at s ≡ d

parsed : (s : List ℕ) (d : SlotData) → parse_slot s ≡ Ok d → Parsed s d
parsed s d e =
    let g1 = granted _ _ _ _ refused e in
    let g2 = granted _ _ _ _ refused g1.1 in
    let g3 = granted _ _ _ _ refused g2.1 in
    let g4 = granted _ _ _ _ refused g3.1 in
    let g5 = granted _ _ _ _ refused g4.1 in
    let g6 = granted _ _ _ _ refused g5.1 in
    let g7 = granted _ _ _ _ refused g6.1 in
    let g8 = granted _ _ _ _ refused g7.1 in
    let g9 = granted _ _ _ _ refused g8.1 in
    record {
      long = leb-true _ _ g1.0;
      starts = starts_with-take s slot_start g2.0;
      fits =
          record {
            length = ltb-true _ _ g3.0;
            count = ltb-true _ _ g4.0;
            first = ltb-true _ _ g5.0;
            last = ltb-true _ _ g6.0;
            generation = ltb-true _ _ g7.0;
            sequence = ltb-true _ _ g8.0;
          };
      sums = eqb-true _ _ g9.0;
      same = cc g9.1;
    }

-- a valid slot's fields are below their limits
pub parsed_fits : (s : List ℕ) (d : SlotData) → parse_slot s ≡ Ok d → Fits d
parsed_fits s d e =
    let p = parsed s d e in
    subst Fits p.same p.fits

module _ (s : List ℕ) (d : SlotData) (b : Bytes s) (e : parse_slot s ≡ Ok d) where
  fields : take 52 s ≡ slot_fields (slot_at s)
  fields =
      let w = parsed s d e in
      sym (bytes_at_part 52 s 0 (omega (arith, w.long)))
      ∙ append-both
      (append-both
      (append-both
      (append-both
      (append-both
      (append-both (bytes_at_part 8 s 0 (omega (arith, w.long)) ∙ w.starts) (sym (be-word 8 s 8 b)))
      (sym (be-word 4 s 16 b)))
      (sym (be-word 8 s 20 b)))
      (sym (be-word 8 s 28 b)))
      (sym (be-word 8 s 36 b)))
      (sym (be-word 8 s 44 b))

  -- what parses determines its bytes
  pub parsed_bytes : take 56 s ≡ slot_bytes d
  parsed_bytes =
      let w = parsed s d e in
      take-add 52 4 s
      ∙ append-both fields
      (sym (bytes_at_part 4 s 52 (omega (arith, w.long))) ∙ sym (be-word 4 s 52 b) ∙ ap (be 4) (w.sums ∙ ap crc_of fields))
      ∙ ap slot_bytes w.same
