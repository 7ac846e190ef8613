-- Growth's walk in the old ring refuses no linked queue: it asks less than the walk of strict opening. Assumes nothing.
use mathlib.Core.Path.{◌≡◌, refl, sym, ap, ◌∙◌}
use mathlib.Core.List.{List, [], ◌∷◌}
use Prim.Native.Nat.{ℕ, zero, suc, ◌+◌, ◌%◌, ◌≤◌}
use native.Mathlib.Nat.{mod-eq_of_lt, mod-add-mod}
use native.Mathlib.Omega.{arith}
use lib.ListN.{length}
use borrow.Author.Tests.{eq-eqb, le-leb}
use Rattle.refusal.proofs.Laws.{pass}
use Rattle.queue.specs.Element.{capacity}
use Rattle.writing.specs.Growth.{walk_from, walk_old_ring}
use Rattle.assurance.specs.Growth.{LinkedPassesWalk}
use Rattle.assurance.proofs.Chain.{Elem, span, total, Holds, Chain, last_from, header_there}
use Rattle.assurance.proofs.Bridge.{linked_laid}
use Rattle.std.specs.Prelude.{Ok}

-- one element
step : (left : ℕ) (img : List ℕ) (file last before p spans : ℕ) (e : Elem) → Holds img (capacity file) p e → spans + span e ≤ capacity file
    → walk_from img file last (suc left) before (p % capacity file) spans
    ≡ walk_from img file last left (p % capacity file) ((p + span e) % capacity file) (spans + span e)
unfolding walk_from
step left img file last before p spans e h l =
    rw (header_there img file p (p % capacity file) e refl h)
    (pass _ _ _ (le-leb (spans + span e) (capacity file) l)
    ∙ ap (λ (x : ℕ). walk_from img file last left (p % capacity file) x (spans + span e)) (mod-add-mod p (capacity file) (span e)))

ends : (img : List ℕ) (file last before p spans : ℕ) → before ≡ last → walk_from img file last zero before p spans ≡ Ok tt
unfolding walk_from
ends img file last before p spans e = pass _ _ _ (eq-eqb before last e)

-- all of them
walks : (es : List Elem) (img : List ℕ) (file last before p spans : ℕ) (e : Elem) → Chain img (capacity file) p (e ∷ es)
    → spans + total (e ∷ es) ≤ capacity file → last_from p e es % capacity file ≡ last
    → walk_from img file last (suc (length es)) before (p % capacity file) spans ≡ Ok tt
walks [] img file last before p spans e c l z =
    step zero img file last before p spans e c.0 (omega arith) ∙ ends img file last (p % capacity file) _ _ z
walks (f ∷ es) img file last before p spans e c l z =
    step (suc (length es)) img file last before p spans e c.0 (omega arith)
    ∙ walks es img file last (p % capacity file) (p + span e) (spans + span e) f c.1 (omega arith) z

pub linked_passes_walk : LinkedPassesWalk
unfolding walk_old_ring
linked_passes_walk img q w =
    let u = linked_laid img q w in
    let k = u.laid in
    let file : ℕ = q.file_len in
    let first : ℕ = q.first.pos in
    ap (λ (n : ℕ). walk_from img file q.last.pos n first first 0) k.count
    ∙ ap (λ (p : ℕ). walk_from img file q.last.pos (suc (length u.es)) first p 0) (sym (mod-eq_of_lt {n = first} {m = capacity file} k.first_low))
    ∙ walks u.es img file q.last.pos first first 0 u.e k.holds (omega (arith, k.fits)) (sym k.last-place)
