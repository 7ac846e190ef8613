-- An element of a V2 queue: the 28 bytes of its header and the 16 of its footer, and what reading them answers.
-- All numbers are big-endian. Assumes nothing.
use Rattle.std.specs.Prelude.{ℕ, ◌+◌, ◌^◌, not, List, [], ◌∷◌, ◌++◌, length, take, replicate, ltb, leb, eqb, Result, Ok, Err}
use Rattle.refusal.specs.declared.Refusal.TheVariants.{Short, HeaderMagic, HeaderLength, HeaderSequence, HeaderCrc, HeaderSpan, FooterMagic, FooterSequence, FooterCrc, ElementTooBig}
use Rattle.std.specs.Result.{result_unwrap_or}
use Rattle.refusal.specs.Demand.{demand}
use Rattle.refusal.specs.declared.Refusal.{Refusal}
use Rattle.wire.specs.Wire.{be, word, starts_with}
use Rattle.crc.specs.Crc.{crc_of}
use Rattle.format.specs.declared.element.V2ElementHeader.{V2ElementHeader}

-- ---- the header's bytes

-- "ITHD"
abbrev pub header_start : List ℕ
header_start = 0x49 ∷ 0x54 ∷ 0x48 ∷ 0x44 ∷ []

-- the first 24: magic, sequence, backlink, payload length
abbrev pub header_fields : ℕ → ℕ → ℕ → List ℕ
header_fields seq prev len = header_start ++ be 8 seq ++ be 8 prev ++ be 4 len

-- all 28: the CRC-32 of the 24 stands last
abbrev pub header_bytes : ℕ → ℕ → ℕ → List ℕ
header_bytes seq prev len = header_fields seq prev len ++ be 4 (crc_of (header_fields seq prev len))

-- what encoding answers: no bytes for a payload that is too long
abbrev pub encode_header : ℕ → ℕ → ℕ → Result (List ℕ) Refusal
encode_header seq prev len =
    demand (ltb len (2 ^ 31)) (Err ElementTooBig) (Ok (header_bytes seq prev len))

-- the bytes that are stored: as many zeros where they are refused
abbrev pub stored_header : ℕ → ℕ → ℕ → List ℕ
stored_header seq prev len = result_unwrap_or (encode_header seq prev len) (replicate 28 0)

-- ---- what the header's bytes say

-- the bytes of an element beside its payload: header and footer
abbrev pub element_overhead : ℕ
element_overhead = 44

-- the bytes that an element takes
abbrev pub element_span : ℕ → ℕ
element_span len = len + element_overhead

-- what the fields say: the first demand that is not met gives the answer
abbrev pub judge_header : ℕ → ℕ → ℕ → ℕ → ℕ → ℕ → Result V2ElementHeader Refusal
judge_header seq prev len stored sum capacity =
    demand (ltb len (2 ^ 31)) (Err HeaderLength)
    (demand (not (eqb seq 0)) (Err HeaderSequence)
    (demand (eqb stored sum) (Err HeaderCrc)
    (demand (leb (element_span len) capacity) (Err HeaderSpan)
    (Ok (record { payload_len = len; seq = seq; prev_pos = prev })))))

-- what reading a header answers; bytes after the 28 are not read
abbrev pub parse_header : List ℕ → ℕ → Result V2ElementHeader Refusal
parse_header s capacity =
    demand (leb 28 (length s)) (Err Short)
    (demand (starts_with s header_start) (Err HeaderMagic)
    (judge_header (word 8 s 4) (word 8 s 12) (word 4 s 20) (word 4 s 24) (crc_of (take 24 s)) capacity))

-- ---- the footer

-- "ITFT"
abbrev pub footer_start : List ℕ
footer_start = 0x49 ∷ 0x54 ∷ 0x46 ∷ 0x54 ∷ []

-- the first 12: magic, sequence
abbrev pub footer_fields : ℕ → List ℕ
footer_fields seq = footer_start ++ be 8 seq

-- all 16: the CRC-32 of the payload followed by the 12 stands last
abbrev pub footer_bytes : ℕ → List ℕ → List ℕ
footer_bytes seq payload = footer_fields seq ++ be 4 (crc_of (payload ++ footer_fields seq))

-- what checking the footer of that element answers; bytes after the 16 are not read
abbrev pub check_footer : List ℕ → ℕ → List ℕ → Result (Unit {0}) Refusal
check_footer s seq payload =
    demand (leb 16 (length s)) (Err Short)
    (demand (starts_with s footer_start) (Err FooterMagic)
    (demand (eqb (word 8 s 4) seq) (Err FooterSequence)
    (demand (eqb (word 4 s 12) (crc_of (payload ++ take 12 s))) (Err FooterCrc)
    (Ok tt))))
