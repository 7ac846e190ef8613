-- An element's header and footer both ways: what is encoded parses to what was encoded, and what parses was encoded so.
-- Assumes nothing.
use mathlib.Core.Path.{◌≡◌, refl, sym, ap, ◌∙◌}
use mathlib.Core.Bool.{not}
use mathlib.Core.List.{List, [], ◌∷◌, ◌++◌}
use Prim.Native.Nat.{ℕ, ◌^◌, ◌≤◌, ◌<◌}
use native.Mathlib.Omega.{arith}
use borrow.Author.Tests.{le-leb, lt-ltb, eq-eqb, ne_eqb, leb-true, ltb-true, eqb-true, eqb-false, not-true}
use lib.ListN.{length, take, replicate}
use lib.Seq.{take-add}
use Rattle.refusal.specs.declared.Refusal.{Refusal}
use Rattle.refusal.proofs.Laws.{met, granted, refused, keep}
use Rattle.wire.specs.Wire.{Bytes, be, word}
use Rattle.wire.proofs.Numbers.{bytes-layout, append-both, be_val-be, be-word, bytes_at_part, starts_with-take}
use Rattle.crc.specs.Crc.{crc_of}
use Rattle.crc.proofs.Limits.{crc_of_lt}
use Rattle.format.specs.Element.{header_start, header_fields, header_bytes, encode_header, stored_header, element_span, parse_header, footer_start, footer_fields, footer_bytes, check_footer}
use Rattle.format.specs.declared.element.V2ElementHeader.{V2ElementHeader}
use Rattle.std.specs.Prelude.{Result, Ok}
use Rattle.std.specs.Result.{result_unwrap_or}

-- ---- the header's bytes

pub length-header_bytes : (seq prev len : ℕ) → length (header_bytes seq prev len) ≡ 28
length-header_bytes seq prev len = refl

pub bytes-header_bytes : (seq prev len : ℕ) → Bytes (header_bytes seq prev len)
bytes-header_bytes seq prev len =
    bytes-layout ((4, 0x4954_4844) ∷ (8, seq) ∷ (8, prev) ∷ (4, len) ∷ (4, crc_of (header_fields seq prev len)) ∷ [])

-- within its limit the encoder gives the bytes
pub header_granted : (seq prev len : ℕ) → len < 2 ^ 31 → encode_header seq prev len ≡ Ok (header_bytes seq prev len)
header_granted seq prev len h = sym (met _ _ _ (lt-ltb len (2 ^ 31) h) refl)

-- it gives these bytes or none
-- 28 bytes, also where zeros stand in for what is refused, as they do where a header is stored
pub length_encoded_header : (seq prev len : ℕ) → length (result_unwrap_or (encode_header seq prev len) (replicate 28 0)) ≡ 28
length_encoded_header seq prev len =
    keep (λ (r : Result (List ℕ) Refusal). length (result_unwrap_or r (replicate 28 0)) ≡ 28) _ _ _ refl (λ _. refl)

pub bytes_encoded_header : (seq prev len : ℕ) → Bytes (result_unwrap_or (encode_header seq prev len) (replicate 28 0))
bytes_encoded_header seq prev len =
    keep (λ (r : Result (List ℕ) Refusal). Bytes (result_unwrap_or r (replicate 28 0))) _ _ _ (bytes-layout ((28, 0) ∷ []))
    (λ _. bytes-header_bytes seq prev len)

pub length_stored_header : (seq prev len : ℕ) → length (stored_header seq prev len) ≡ 28
length_stored_header seq prev len = length_encoded_header seq prev len

pub header_stored : (seq prev len : ℕ) → len < 2 ^ 31 → stored_header seq prev len ≡ header_bytes seq prev len
header_stored seq prev len h =
    ap (λ (r : Result (List ℕ) Refusal). result_unwrap_or r (replicate 28 0)) (header_granted seq prev len h)

-- ---- the header: parse after encode

module _ (seq prev len capacity : ℕ) where
  n : len < 2 ^ 31 → word 4 (header_bytes seq prev len) 20 ≡ len
  n h = be_val-be 4 len (omega arith)

  q : seq < 2 ^ 64 → word 8 (header_bytes seq prev len) 4 ≡ seq
  q h = be_val-be 8 seq h

  p : prev < 2 ^ 64 → word 8 (header_bytes seq prev len) 12 ≡ prev
  p h = be_val-be 8 prev h

  k : word 4 (header_bytes seq prev len) 24 ≡ crc_of (take 24 (header_bytes seq prev len))
  k = be_val-be 4 (crc_of (header_fields seq prev len)) (crc_of_lt (header_fields seq prev len))

  pub header_parse_encode :
      0 < seq → seq < 2 ^ 64 → prev < 2 ^ 64 → len < 2 ^ 31 → element_span len ≤ capacity →
      parse_header (header_bytes seq prev len) capacity ≡ Ok (record { payload_len = len; seq = seq; prev_pos = prev })
  header_parse_encode pos hs hp hl fits =
      sym
      (met _ _ _ refl
      (met _ _ _ refl
      (met _ _ _ (rw (n hl) (lt-ltb len (2 ^ 31) hl))
      (met _ _ _ (rw (q hs) (ap not (ne_eqb seq 0 (λ z. omega arith))))
      (met _ _ _ (eq-eqb _ _ k)
      (met _ _ _ (rw (n hl) (le-leb (element_span len) capacity fits))
      (rw (n hl, q hs, p hp))))))))

-- ---- the header: encode after parse

-- what bytes that parse to h have
pub record Parsed (s : List ℕ) (capacity : ℕ) (h : V2ElementHeader) : Type 0 where
  pub long : 28 ≤ length s
  pub starts : take 4 s ≡ header_start
  pub sums : word 4 s 24 ≡ crc_of (take 24 s)
  pub seq : word 8 s 4 ≡ h.seq
  pub prev : word 8 s 12 ≡ h.prev_pos
  pub len : word 4 s 20 ≡ h.payload_len
  pub positive : 0 < h.seq
  pub small : h.payload_len < 2 ^ 31
  pub fits : element_span h.payload_len ≤ capacity

pub parsed : (s : List ℕ) (capacity : ℕ) (h : V2ElementHeader) → parse_header s capacity ≡ Ok h → Parsed s capacity h
parsed s capacity h e =
    let g1 = granted _ _ _ _ refused e in
    let g2 = granted _ _ _ _ refused g1.1 in
    let g3 = granted _ _ _ _ refused g2.1 in
    let g4 = granted _ _ _ _ refused g3.1 in
    let g5 = granted _ _ _ _ refused g4.1 in
    let g6 = granted _ _ _ _ refused g5.1 in
    let i : record { payload_len = word 4 s 20; seq = word 8 s 4; prev_pos = word 8 s 12 } ≡ h = cc g6.1 in
    let n : word 4 s 20 ≡ h.payload_len = ap (λ (x : V2ElementHeader). x.payload_len) i in
    let q : word 8 s 4 ≡ h.seq = ap (λ (x : V2ElementHeader). x.seq) i in
    let z : word 8 s 4 ≡ 0 → ⊥ = eqb-false _ _ (not-true _ g4.0) in
    let z' : h.seq ≡ 0 → ⊥ = rw q at z in
    record {
      long = leb-true _ _ g1.0;
      starts = starts_with-take s header_start g2.0;
      sums = eqb-true _ _ g5.0;
      seq = q;
      prev = ap (λ (x : V2ElementHeader). x.prev_pos) i;
      len = n;
      positive = omega (arith, z');
      small = rw n at (ltb-true (word 4 s 20) (2 ^ 31) g3.0);
      fits = rw n at (leb-true (element_span (word 4 s 20)) capacity g6.0);
    }

module _ (s : List ℕ) (capacity : ℕ) (h : V2ElementHeader) (b : Bytes s) (e : parse_header s capacity ≡ Ok h) where
  fields : take 24 s ≡ header_fields h.seq h.prev_pos h.payload_len
  fields =
      let w = parsed s capacity h e in
      sym (bytes_at_part 24 s 0 (omega (arith, w.long)))
      ∙ append-both
      (append-both
      (append-both
      (bytes_at_part 4 s 0 (omega (arith, w.long)) ∙ w.starts)
      (sym (be-word 8 s 4 b) ∙ ap (be 8) w.seq))
      (sym (be-word 8 s 12 b) ∙ ap (be 8) w.prev))
      (sym (be-word 4 s 20 b) ∙ ap (be 4) w.len)

  -- what parses determines its bytes
  pub header-bytes : take 28 s ≡ header_bytes h.seq h.prev_pos h.payload_len
  header-bytes =
      let w = parsed s capacity h e in
      take-add 24 4 s
      ∙ append-both fields
      (sym (bytes_at_part 4 s 24 (omega (arith, w.long))) ∙ sym (be-word 4 s 24 b) ∙ ap (be 4) (w.sums ∙ ap crc_of fields))

-- ---- the footer

pub length-footer_bytes : (seq : ℕ) (payload : List ℕ) → length (footer_bytes seq payload) ≡ 16
length-footer_bytes seq payload = refl

pub bytes-footer_bytes : (seq : ℕ) (payload : List ℕ) → Bytes (footer_bytes seq payload)
bytes-footer_bytes seq payload = bytes-layout ((4, 0x4954_4654) ∷ (8, seq) ∷ (4, crc_of (payload ++ footer_fields seq)) ∷ [])

-- the footer that is encoded for an element is valid for it
pub footer_check_encode : (seq : ℕ) (payload : List ℕ) → seq < 2 ^ 64 → check_footer (footer_bytes seq payload) seq payload ≡ Ok tt
footer_check_encode seq payload h =
    sym
    (met _ _ _ refl
    (met _ _ _ refl
    (met _ _ _ (eq-eqb _ _ (be_val-be 8 seq h))
    (met _ _ _ (eq-eqb _ _ (be_val-be 4 (crc_of (payload ++ footer_fields seq)) (crc_of_lt (payload ++ footer_fields seq)))) refl))))

-- what is valid for an element is the footer that is encoded for it
pub footer_bytes_lem : (s : List ℕ) (seq : ℕ) (payload : List ℕ) → Bytes s → check_footer s seq payload ≡ Ok tt → take 16 s ≡ footer_bytes seq payload
footer_bytes_lem s seq payload b e =
    let g1 = granted _ _ _ _ refused e in
    let g2 = granted _ _ _ _ refused g1.1 in
    let g3 = granted _ _ _ _ refused g2.1 in
    let g4 = granted _ _ _ _ refused g3.1 in
    let long : 16 ≤ length s = leb-true 16 (length s) g1.0 in
    let fields : take 12 s ≡ footer_fields seq =
    sym (bytes_at_part 12 s 0 (omega arith))
    ∙ append-both
    (bytes_at_part 4 s 0 (omega arith) ∙ starts_with-take s footer_start g2.0)
    (sym (be-word 8 s 4 b) ∙ ap (be 8) (eqb-true (word 8 s 4) seq g3.0)) in
    take-add 12 4 s
    ∙ append-both fields
    (sym (bytes_at_part 4 s 12 (omega arith))
    ∙ sym (be-word 4 s 12 b)
    ∙ ap (be 4) (eqb-true (word 4 s 12) (crc_of (payload ++ take 12 s)) g4.0 ∙ ap (λ (l : List ℕ). crc_of (payload ++ l)) fields))
