-- An encoder's stores, each behind the one before, lay out its bytes: a slot's, and what other layouts share.
-- Assumes nothing.
use mathlib.Core.Path.{◌≡◌, refl, ap, ◌∙◌}
use mathlib.Core.List.{List, [], ◌++◌, append-nil}
use Prim.Native.Nat.{ℕ}
use lib.ListN.{length, take, replicate}
use lib.Seq.{take-append_seam}
use Rattle.wire.specs.Wire.{be, put_at}
use Rattle.wire.proofs.Stores.{put_at-behind}
use Rattle.header.specs.Slot.{slot_start, slot_fields}
use Rattle.header.specs.declared.SlotData.{SlotData}

-- what is not laid out yet
abbrev pub zeros : ℕ → List ℕ
zeros n = replicate n 0

-- fields that are sealed by a sum over them, which stands last
pub sealed : {a b : List ℕ} {sum : ℕ} (f : List ℕ → ℕ) (fields : List ℕ) →
    a ≡ fields ++ zeros 4 → sum ≡ f (take (length fields) a) → b ≡ put_at a (length fields) (be 4 sum) → b ≡ fields ++ be 4 (f fields)
sealed {sum = sum} f fields pa ps pb =
    let summed : sum ≡ f fields = ps ∙ ap (λ (l : List ℕ). f (take (length fields) l)) pa ∙ ap f (take-append_seam fields (zeros 4)) in
    put_at-behind fields (zeros 4) [] (be 4 sum) refl pa pb
    ∙ append-nil (fields ++ be 4 sum)
    ∙ ap (λ (n : ℕ). fields ++ be 4 n) summed

module _ (x : SlotData) where
  pub fields_laid : {a b c d e f g : List ℕ} →
      a ≡ put_at (zeros 56) 0 slot_start →
      b ≡ put_at a 8 (be 8 x.file_length) →
      c ≡ put_at b 16 (be 4 x.element_count) →
      d ≡ put_at c 20 (be 8 x.first_position) →
      e ≡ put_at d 28 (be 8 x.last_position) →
      f ≡ put_at e 36 (be 8 x.generation) →
      g ≡ put_at f 44 (be 8 x.next_sequence_number) →
      g ≡ slot_fields x ++ zeros 4
  fields_laid pa pb pc pd pe pf pg =
      let a = put_at-behind [] (zeros 8) (zeros 48) slot_start refl refl pa in
      let b = put_at-behind slot_start (zeros 8) (zeros 40) (be 8 x.file_length) refl a pb in
      let up_to_length : List ℕ = slot_start ++ be 8 x.file_length in
      let c = put_at-behind up_to_length (zeros 4) (zeros 36) (be 4 x.element_count) refl b pc in
      let up_to_count : List ℕ = up_to_length ++ be 4 x.element_count in
      let d = put_at-behind up_to_count (zeros 8) (zeros 28) (be 8 x.first_position) refl c pd in
      let up_to_first : List ℕ = up_to_count ++ be 8 x.first_position in
      let e = put_at-behind up_to_first (zeros 8) (zeros 20) (be 8 x.last_position) refl d pe in
      let up_to_last : List ℕ = up_to_first ++ be 8 x.last_position in
      let f = put_at-behind up_to_last (zeros 8) (zeros 12) (be 8 x.generation) refl e pf in
      let up_to_generation : List ℕ = up_to_last ++ be 8 x.generation in
      put_at-behind up_to_generation (zeros 8) (zeros 4) (be 8 x.next_sequence_number) refl f pg
