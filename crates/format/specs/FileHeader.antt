-- The file headers that came before V2: the 16 bytes of Legacy and the 32 of V1, and what reading them answers.
-- All numbers are big-endian. Assumes nothing.
use Rattle.std.specs.Prelude.{ℕ, ◌%◌, ◌^◌, List, ◌++◌, length, leb, eqb, Result, Ok, Err}
use Rattle.refusal.specs.declared.Refusal.TheVariants.{Short, UnsupportedVersion}
use Rattle.refusal.specs.Answer.{on_verdict}
use Rattle.refusal.specs.Demand.{demand}
use Rattle.refusal.specs.declared.Refusal.{Refusal}
use Rattle.wire.specs.Wire.{be, word}
use Rattle.header.specs.Slot.{judge_fields}
use Rattle.format.specs.declared.file_header.QueueMetadata.{QueueMetadata}

abbrev pub metadata : ℕ → ℕ → ℕ → ℕ → QueueMetadata
metadata file_len count first last =
    record { file_len = file_len; elem_cnt = count; first_pos = first; last_pos = last }

-- what the fields say; the count is an i32 in both headers
abbrev pub judge_metadata : ℕ → ℕ → ℕ → ℕ → ℕ → Result QueueMetadata Refusal
judge_metadata limit file_len count first last =
    on_verdict Err (judge_fields limit (2 ^ 31) file_len count first last) (Ok (metadata file_len count first last))

-- ---- Legacy

-- its 16 bytes: file length, count, first, last
abbrev pub legacy_bytes : ℕ → ℕ → ℕ → ℕ → List ℕ
legacy_bytes file_len count first last = be 4 file_len ++ be 4 count ++ be 4 first ++ be 4 last

-- what encoding answers: each field is an i32, and none is negative
abbrev pub encode_legacy : ℕ → ℕ → ℕ → ℕ → Result (List ℕ) Refusal
encode_legacy file_len count first last =
    on_verdict Err (judge_fields (2 ^ 31) (2 ^ 31) file_len count first last) (Ok (legacy_bytes file_len count first last))

-- what reading a Legacy header answers; bytes after the 16 are not read
abbrev pub parse_legacy : List ℕ → Result QueueMetadata Refusal
parse_legacy s =
    demand (leb 16 (length s)) (Err Short)
    (judge_metadata (2 ^ 31) (word 4 s 0) (word 4 s 4) (word 4 s 8) (word 4 s 12))

-- ---- V1

-- its 32 bytes after a version word: file length, count, first, last
abbrev pub v1_layout : ℕ → ℕ → ℕ → ℕ → ℕ → List ℕ
v1_layout version file_len count first last = be 4 version ++ be 8 file_len ++ be 4 count ++ be 8 first ++ be 8 last

-- the version word is 1 with its top bit set
abbrev pub v1_bytes : ℕ → ℕ → ℕ → ℕ → List ℕ
v1_bytes file_len count first last = v1_layout 0x8000_0001 file_len count first last

-- what encoding answers: the count is an i32 and the others are i64, and none is negative
abbrev pub encode_v1 : ℕ → ℕ → ℕ → ℕ → Result (List ℕ) Refusal
encode_v1 file_len count first last =
    on_verdict Err (judge_fields (2 ^ 63) (2 ^ 31) file_len count first last) (Ok (v1_bytes file_len count first last))

-- the version, without the word's top bit
abbrev pub version_of : List ℕ → ℕ
version_of s = word 4 s 0 % 2 ^ 31

-- what reading a V1 header answers; bytes after the 32 are not read
abbrev pub parse_v1 : List ℕ → Result QueueMetadata Refusal
parse_v1 s =
    demand (leb 32 (length s)) (Err Short)
    (demand (eqb (version_of s) 1) (Err (UnsupportedVersion (version_of s)))
    (judge_metadata (2 ^ 63) (word 8 s 4) (word 4 s 12) (word 8 s 16) (word 8 s 24)))
