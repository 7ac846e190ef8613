-- What a call leaves, from what is laid or vacant in its work; and the list of what is held, end to end, from another place that is the
-- same in the ring, and without its first n. Assumes nothing.
use mathlib.Core.Path.{◌≡◌, refl, sym, ap, ◌∙◌}
use mathlib.Core.Logic.{inl, inr}
use mathlib.Core.List.{List, [], ◌∷◌, ◌++◌}
use Prim.Native.Nat.{ℕ, zero, suc, ◌+◌, ◌%◌}
use native.Mathlib.Nat.{add-zero, add_assoc}
use lib.ListN.{length, take, drop}
use Rattle.ring.proofs.Places.{add_same}
use Rattle.queue.specs.Element.{capacity}
use Rattle.queue.specs.declared.state.QueueFile.{QueueFile}
use Rattle.assurance.specs.Held.{Held}
use Rattle.assurance.specs.Linked.{Empty}
use Rattle.assurance.specs.Changes.{Leaves}
use Rattle.assurance.proofs.Chain.{Elem, span, total}
use Rattle.assurance.proofs.Laid.{Laid}
use Rattle.assurance.proofs.Bridge.{laid_linked, held_at, held_all, laid_elements, empty_elements}
use Rattle.assurance.proofs.Vacant.{Vacant, vacant_empty}

-- ---- what is left

pub laid_leaves : (img : List ℕ) (q : QueueFile) (e : Elem) (es : List Elem) → Laid img q e es
    → Leaves img q (held_all (capacity q.file_len) q.first.pos (e ∷ es))
laid_leaves img q e es k = record { whole = inl (laid_linked img q e es k); holds = laid_elements img q e es k }

pub vacant_leaves : (img : List ℕ) (q : QueueFile) → Vacant q (length img) → Empty img q × Leaves img q []
vacant_leaves img q v =
    let e = vacant_empty img q v in
    (e, record { whole = inr e; holds = empty_elements img q v.none })

-- ---- the list

pub held_same : (size p r : ℕ) (es : List Elem) → p % size ≡ r % size → held_all size p es ≡ held_all size r es
held_same size p r [] s = refl
held_same size p r (e ∷ es) s = rw (s, held_same size (p + span e) (r + span e) es (add_same size p r (span e) s))

pub held_append : (size p : ℕ) (es fs : List Elem) → held_all size p (es ++ fs) ≡ held_all size p es ++ held_all size (p + total es) fs
held_append size p [] fs = ap (λ (x : ℕ). held_all size x fs) (sym (add-zero p))
held_append size p (e ∷ es) fs =
    ap (λ (l : List Held). held_at size p e ∷ l)
    (held_append size (p + span e) es fs
    ∙ ap (λ (x : ℕ). held_all size (p + span e) es ++ held_all size x fs) (add_assoc p (span e) (total es)))

pub held_drop : (n size p : ℕ) (es : List Elem) → drop n (held_all size p es) ≡ held_all size (p + total (take n es)) (drop n es)
held_drop zero size p es = ap (λ (x : ℕ). held_all size x es) (sym (add-zero p))
held_drop (suc n) size p [] = refl
held_drop (suc n) size p (e ∷ es) =
    held_drop n size (p + span e) es ∙ ap (λ (x : ℕ). held_all size x (drop n es)) (add_assoc p (span e) (total (take n es)))

pub length_held : (size p : ℕ) (es : List Elem) → length (held_all size p es) ≡ length es
length_held size p [] = refl
length_held size p (e ∷ es) = ap suc (length_held size (p + span e) es)
