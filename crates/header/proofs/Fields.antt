-- The fields that every file header has are granted exactly where each is below its limit. Assumes nothing.
use mathlib.Core.Path.{◌≡◌, refl, sym}
use Prim.Native.Nat.{ℕ}
use borrow.Author.Tests.{lt-ltb, ltb-true}
use Rattle.refusal.proofs.Laws.{met, granted, refused}
use Rattle.header.specs.Slot.{judge_fields, Below}
use Rattle.std.specs.Prelude.{Ok}

module _ (limit count_limit file_len count first last : ℕ) where
  pub below_granted : Below limit count_limit file_len count first last → judge_fields limit count_limit file_len count first last ≡ Ok tt
  below_granted b =
      sym
      (met _ _ _ (lt-ltb file_len limit b.length)
      (met _ _ _ (lt-ltb count count_limit b.count)
      (met _ _ _ (lt-ltb first limit b.first)
      (met _ _ _ (lt-ltb last limit b.last) refl))))

  pub granted_below : judge_fields limit count_limit file_len count first last ≡ Ok tt → Below limit count_limit file_len count first last
  granted_below e =
      let g1 = granted _ _ _ _ refused e in
      let g2 = granted _ _ _ _ refused g1.1 in
      let g3 = granted _ _ _ _ refused g2.1 in
      let g4 = granted _ _ _ _ refused g3.1 in
      record {
        length = ltb-true file_len limit g1.0;
        count = ltb-true count count_limit g2.0;
        first = ltb-true first limit g3.0;
        last = ltb-true last limit g4.0;
      }
