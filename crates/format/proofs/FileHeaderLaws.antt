-- The file headers before V2 both ways: what is encoded within the limits parses to what was encoded, and what parses was
-- encoded so, but for V1's top bit, which is not read. Assumes nothing.
use mathlib.Core.Path.{◌≡◌, refl, sym, ap, ◌∙◌}
use mathlib.Core.Bool.{Bool, true, false}
use mathlib.Core.Logic.{◌⊎◌, inl, inr}
use mathlib.Core.List.{List, [], ◌∷◌}
use Prim.Native.Nat.{ℕ, ◌%◌, ◌^◌, ◌≤◌, ◌<◌}
use native.Mathlib.Omega.{arith}
use borrow.Author.Tests.{leb-true, leb-false, eqb-true}
use lib.Dec.{leb}
use lib.ListN.{length, take, replicate}
use Rattle.refusal.specs.declared.Refusal.{Refusal}
use Rattle.refusal.proofs.Laws.{met, granted, refused, same_answer, given_or}
use Rattle.refusal.specs.Answer.{on_verdict}
use Rattle.wire.specs.Wire.{Bytes, word}
use Rattle.wire.proofs.Numbers.{bytes-layout, append-both, be_val-be, be-word, bytes_at_part, word_lt}
use Rattle.header.specs.Slot.{judge_fields, Below}
use Rattle.header.proofs.Fields.{below_granted}
use Rattle.format.specs.FileHeader.{metadata, judge_metadata, legacy_bytes, encode_legacy, parse_legacy, v1_layout, v1_bytes, encode_v1, version_of, parse_v1}
use Rattle.format.specs.declared.file_header.QueueMetadata.{QueueMetadata}
use Rattle.std.specs.Prelude.{Result, Ok, Err}
use Rattle.std.specs.Result.{result_unwrap_or}

-- fields below their limits are what is read
judged : (limit file_len count first last : ℕ) → Below limit (2 ^ 31) file_len count first last →
    judge_metadata limit file_len count first last ≡ Ok (metadata file_len count first last)
judged limit file_len count first last below =
    ap (λ (v : Result (Unit {0}) Refusal). on_verdict Err v (Ok (metadata file_len count first last))) (below_granted limit (2 ^ 31) file_len count first last below)

-- ---- Legacy

pub length-legacy_bytes : (file_len count first last : ℕ) → length (legacy_bytes file_len count first last) ≡ 16
length-legacy_bytes file_len count first last = refl

pub bytes-legacy_bytes : (file_len count first last : ℕ) → Bytes (legacy_bytes file_len count first last)
bytes-legacy_bytes file_len count first last = bytes-layout ((4, file_len) ∷ (4, count) ∷ (4, first) ∷ (4, last) ∷ [])

module _ (file_len count first last : ℕ) where
  -- an encoder gives these bytes or none
  -- 16 bytes, also where zeros stand in for what is refused
  pub length-encoded_legacy : length (result_unwrap_or (encode_legacy file_len count first last) (replicate 16 0)) ≡ 16
  length-encoded_legacy =
      given_or (λ (l : List ℕ). length l ≡ 16) (judge_fields (2 ^ 31) (2 ^ 31) file_len count first last) _ _ refl refl

  pub bytes-encoded_legacy : Bytes (result_unwrap_or (encode_legacy file_len count first last) (replicate 16 0))
  bytes-encoded_legacy =
      given_or Bytes (judge_fields (2 ^ 31) (2 ^ 31) file_len count first last) _ _
      (bytes-legacy_bytes file_len count first last) (bytes-layout ((16, 0) ∷ []))

module _ (file_len count first last : ℕ) (below : Below (2 ^ 31) (2 ^ 31) file_len count first last) where
  -- within the limits the encoder gives the bytes
  pub legacy_granted : encode_legacy file_len count first last ≡ Ok (legacy_bytes file_len count first last)
  legacy_granted =
      ap (λ (v : Result (Unit {0}) Refusal). on_verdict Err v (Ok (legacy_bytes file_len count first last)))
      (below_granted (2 ^ 31) (2 ^ 31) file_len count first last below)

  n : word 4 (legacy_bytes file_len count first last) 0 ≡ file_len
  n = be_val-be 4 file_len (omega (arith, below.length))

  c : word 4 (legacy_bytes file_len count first last) 4 ≡ count
  c = be_val-be 4 count (omega (arith, below.count))

  p : word 4 (legacy_bytes file_len count first last) 8 ≡ first
  p = be_val-be 4 first (omega (arith, below.first))

  q : word 4 (legacy_bytes file_len count first last) 12 ≡ last
  q = be_val-be 4 last (omega (arith, below.last))

  pub legacy_parse_encode : parse_legacy (legacy_bytes file_len count first last) ≡ Ok (metadata file_len count first last)
  legacy_parse_encode =
      sym (met _ _ _ refl (rw (n, c, p, q) (sym (judged (2 ^ 31) file_len count first last below))))

-- what parses determines its bytes
pub legacy_bytes_lem : (s : List ℕ) (m : QueueMetadata) → Bytes s → parse_legacy s ≡ Ok m →
    take 16 s ≡ legacy_bytes m.file_len m.elem_cnt m.first_pos m.last_pos
legacy_bytes_lem s m b e =
    let g1 = granted _ _ _ _ refused e in
    let i : metadata (word 4 s 0) (word 4 s 4) (word 4 s 8) (word 4 s 12) ≡ m = same_answer (judge_fields (2 ^ 31) (2 ^ 31) (word 4 s 0) (word 4 s 4) (word 4 s 8) (word 4 s 12)) _ m g1.1 in
    let long : 16 ≤ length s = leb-true 16 (length s) g1.0 in
    sym (bytes_at_part 16 s 0 (omega arith))
    ∙ append-both
    (append-both (append-both (sym (be-word 4 s 0 b)) (sym (be-word 4 s 4 b))) (sym (be-word 4 s 8 b)))
    (sym (be-word 4 s 12 b))
    ∙ ap (λ (x : QueueMetadata). legacy_bytes x.file_len x.elem_cnt x.first_pos x.last_pos) i

-- ---- V1

pub length-v1_bytes : (file_len count first last : ℕ) → length (v1_bytes file_len count first last) ≡ 32
length-v1_bytes file_len count first last = refl

pub bytes-v1_bytes : (file_len count first last : ℕ) → Bytes (v1_bytes file_len count first last)
bytes-v1_bytes file_len count first last =
    bytes-layout ((4, 0x8000_0001) ∷ (8, file_len) ∷ (4, count) ∷ (8, first) ∷ (8, last) ∷ [])

module _ (file_len count first last : ℕ) where
  -- an encoder gives these bytes or none
  -- 32 bytes, also where zeros stand in for what is refused
  pub length-encoded_v1 : length (result_unwrap_or (encode_v1 file_len count first last) (replicate 32 0)) ≡ 32
  length-encoded_v1 =
      given_or (λ (l : List ℕ). length l ≡ 32) (judge_fields (2 ^ 63) (2 ^ 31) file_len count first last) _ _ refl refl

  pub bytes-encoded_v1 : Bytes (result_unwrap_or (encode_v1 file_len count first last) (replicate 32 0))
  bytes-encoded_v1 =
      given_or Bytes (judge_fields (2 ^ 63) (2 ^ 31) file_len count first last) _ _
      (bytes-v1_bytes file_len count first last) (bytes-layout ((32, 0) ∷ []))

module _ (file_len count first last : ℕ) (below : Below (2 ^ 63) (2 ^ 31) file_len count first last) where
  -- within the limits the encoder gives the bytes
  pub v1_granted : encode_v1 file_len count first last ≡ Ok (v1_bytes file_len count first last)
  v1_granted =
      ap (λ (v : Result (Unit {0}) Refusal). on_verdict Err v (Ok (v1_bytes file_len count first last)))
      (below_granted (2 ^ 63) (2 ^ 31) file_len count first last below)

  vn : word 8 (v1_bytes file_len count first last) 4 ≡ file_len
  vn = be_val-be 8 file_len (omega (arith, below.length))

  vc : word 4 (v1_bytes file_len count first last) 12 ≡ count
  vc = be_val-be 4 count (omega (arith, below.count))

  vp : word 8 (v1_bytes file_len count first last) 16 ≡ first
  vp = be_val-be 8 first (omega (arith, below.first))

  vq : word 8 (v1_bytes file_len count first last) 24 ≡ last
  vq = be_val-be 8 last (omega (arith, below.last))

  pub v1_parse_encode : parse_v1 (v1_bytes file_len count first last) ≡ Ok (metadata file_len count first last)
  v1_parse_encode =
      sym (met _ _ _ refl (met _ _ _ refl (rw (vn, vc, vp, vq) (sym (judged (2 ^ 63) file_len count first last below)))))

top_or_not : (word : ℕ) (b : Bool) → leb (2 ^ 31) word ≡ b → word < 2 ^ 32 → word % 2 ^ 31 ≡ 1 → (word ≡ 0x8000_0001) ⊎ (word ≡ 1)
top_or_not word true t h e = let l : 2 ^ 31 ≤ word = leb-true (2 ^ 31) word t in inl (omega arith)
top_or_not word false t h e = let l : word < 2 ^ 31 = leb-false (2 ^ 31) word t in inr (omega arith)

-- what parses determines its bytes, but for the version word's top bit
module _ (s : List ℕ) (m : QueueMetadata) (b : Bytes s) (e : parse_v1 s ≡ Ok m) where
  pub v1_version : (word 4 s 0 ≡ 0x8000_0001) ⊎ (word 4 s 0 ≡ 1)
  v1_version =
      let g1 = granted _ _ _ _ refused e in
      let g2 = granted _ _ _ _ refused g1.1 in
      top_or_not (word 4 s 0) (leb (2 ^ 31) (word 4 s 0)) refl (word_lt 4 s 0 b) (eqb-true (version_of s) 1 g2.0)

  pub v1_bytes_lem : take 32 s ≡ v1_layout (word 4 s 0) m.file_len m.elem_cnt m.first_pos m.last_pos
  v1_bytes_lem =
      let g1 = granted _ _ _ _ refused e in
      let g2 = granted _ _ _ _ refused g1.1 in
      let i : metadata (word 8 s 4) (word 4 s 12) (word 8 s 16) (word 8 s 24) ≡ m = same_answer (judge_fields (2 ^ 63) (2 ^ 31) (word 8 s 4) (word 4 s 12) (word 8 s 16) (word 8 s 24)) _ m g2.1 in
      let long : 32 ≤ length s = leb-true 32 (length s) g1.0 in
      sym (bytes_at_part 32 s 0 (omega arith))
      ∙ append-both
      (append-both
      (append-both (append-both (sym (be-word 4 s 0 b)) (sym (be-word 8 s 4 b))) (sym (be-word 4 s 12 b)))
      (sym (be-word 8 s 16 b)))
      (sym (be-word 8 s 24 b))
      ∙ ap (λ (x : QueueMetadata). v1_layout (word 4 s 0) x.file_len x.elem_cnt x.first_pos x.last_pos) i
