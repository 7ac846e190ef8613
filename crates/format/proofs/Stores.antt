-- Each encoder's stores, one behind the other, lay out its bytes. Assumes nothing.
use mathlib.Core.Path.{◌≡◌, refl, ◌∙◌}
use mathlib.Core.List.{List, [], ◌++◌, append-nil}
use Prim.Native.Nat.{ℕ}
use lib.ListN.{take}
use Rattle.wire.specs.Wire.{be, put_at}
use Rattle.wire.proofs.Stores.{put_at-behind}
use Rattle.crc.specs.Crc.{crc_of}
use Rattle.header.proofs.Stores.{zeros, sealed}
use Rattle.format.specs.Element.{header_start, header_fields, header_bytes, footer_start, footer_fields, footer_bytes}
use Rattle.format.specs.FileHeader.{legacy_bytes, v1_bytes}

pub header_laid : {a b c d e : List ℕ} {sum : ℕ} (seq prev len : ℕ) →
    a ≡ put_at (zeros 28) 0 header_start →
    b ≡ put_at a 4 (be 8 seq) →
    c ≡ put_at b 12 (be 8 prev) →
    d ≡ put_at c 20 (be 4 len) →
    sum ≡ crc_of (take 24 d) →
    e ≡ put_at d 24 (be 4 sum) →
    e ≡ header_bytes seq prev len
header_laid seq prev len pa pb pc pd ps pe =
    let a = put_at-behind [] (zeros 4) (zeros 24) header_start refl refl pa in
    let b = put_at-behind header_start (zeros 8) (zeros 16) (be 8 seq) refl a pb in
    let c = put_at-behind (header_start ++ be 8 seq) (zeros 8) (zeros 8) (be 8 prev) refl b pc in
    let d = put_at-behind (header_start ++ be 8 seq ++ be 8 prev) (zeros 4) (zeros 4) (be 4 len) refl c pd in
    sealed crc_of (header_fields seq prev len) d ps pe

pub footer_laid : {a b c : List ℕ} {sum : ℕ} (seq : ℕ) (payload : List ℕ) →
    a ≡ put_at (zeros 16) 0 footer_start →
    b ≡ put_at a 4 (be 8 seq) →
    sum ≡ crc_of (payload ++ take 12 b) →
    c ≡ put_at b 12 (be 4 sum) →
    c ≡ footer_bytes seq payload
footer_laid seq payload pa pb ps pc =
    let a = put_at-behind [] (zeros 4) (zeros 12) footer_start refl refl pa in
    let b = put_at-behind footer_start (zeros 8) (zeros 4) (be 8 seq) refl a pb in
    sealed (λ l. crc_of (payload ++ l)) (footer_fields seq) b ps pc

pub legacy_laid : {a b c d : List ℕ} (file_len count first last : ℕ) →
    a ≡ put_at (zeros 16) 0 (be 4 file_len) →
    b ≡ put_at a 4 (be 4 count) →
    c ≡ put_at b 8 (be 4 first) →
    d ≡ put_at c 12 (be 4 last) →
    d ≡ legacy_bytes file_len count first last
legacy_laid file_len count first last pa pb pc pd =
    let a = put_at-behind [] (zeros 4) (zeros 12) (be 4 file_len) refl refl pa in
    let b = put_at-behind (be 4 file_len) (zeros 4) (zeros 8) (be 4 count) refl a pb in
    let c = put_at-behind (be 4 file_len ++ be 4 count) (zeros 4) (zeros 4) (be 4 first) refl b pc in
    put_at-behind (be 4 file_len ++ be 4 count ++ be 4 first) (zeros 4) [] (be 4 last) refl c pd
    ∙ append-nil (legacy_bytes file_len count first last)

pub v1_laid : {a b c d e : List ℕ} (file_len count first last : ℕ) →
    a ≡ put_at (zeros 32) 0 (be 4 0x8000_0001) →
    b ≡ put_at a 4 (be 8 file_len) →
    c ≡ put_at b 12 (be 4 count) →
    d ≡ put_at c 16 (be 8 first) →
    e ≡ put_at d 24 (be 8 last) →
    e ≡ v1_bytes file_len count first last
v1_laid file_len count first last pa pb pc pd pe =
    let word : List ℕ = be 4 0x8000_0001 in
    let a = put_at-behind [] (zeros 4) (zeros 28) word refl refl pa in
    let b = put_at-behind word (zeros 8) (zeros 20) (be 8 file_len) refl a pb in
    let c = put_at-behind (word ++ be 8 file_len) (zeros 4) (zeros 16) (be 4 count) refl b pc in
    let d = put_at-behind (word ++ be 8 file_len ++ be 4 count) (zeros 8) (zeros 8) (be 8 first) refl c pd in
    put_at-behind (word ++ be 8 file_len ++ be 4 count ++ be 8 first) (zeros 8) [] (be 8 last) refl d pe
    ∙ append-nil (v1_bytes file_len count first last)
