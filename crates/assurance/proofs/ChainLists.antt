-- Chains as lists: two of them end to end, one element more at the end, and a chain at a place that is the same in the ring.
-- Assumes nothing.
use mathlib.Core.Path.{◌≡◌, refl, sym, ap, ◌∙◌, subst}
use mathlib.Core.List.{List, [], ◌∷◌, ◌++◌}
use Prim.Native.Nat.{ℕ, suc, ◌+◌, ◌%◌}
use native.Mathlib.Nat.{add-zero, zero-add}
use native.Mathlib.Omega.{arith}
use Rattle.ring.proofs.Places.{add_same}
use Rattle.assurance.proofs.Chain.{Elem, span, total, Chain, Rising, Backs, last_of, last_from}
use Rattle.assurance.proofs.TrailWalk.{holds_same}

-- ---- end to end

pub total-append : (es fs : List Elem) → total (es ++ fs) ≡ total es + total fs
total-append [] fs = sym (zero-add (total fs))
total-append (e ∷ es) fs = ap (λ (x : ℕ). span e + x) (total-append es fs) ∙ omega arith

pub chain_append : (es fs : List Elem) (img : List ℕ) (size p : ℕ) → Chain img size p es → Chain img size (p + total es) fs
    → Chain img size p (es ++ fs)
chain_append [] fs img size p c d = rw add-zero at d
chain_append (e ∷ es) fs img size p c d = (
  c.0,
  chain_append es fs img size (p + span e) c.1
      (subst (λ (x : ℕ). Chain img size x fs) (let t : p + total (e ∷ es) ≡ p + span e + total es = omega arith in t) d),
)

-- ---- one more at the end

pub rising_snoc : (e : Elem) (es : List Elem) (f : Elem) → Rising e es → f.seq ≡ suc (last_of e es).seq → Rising e (es ++ (f ∷ []))
rising_snoc e [] f r h = (h, tt)
rising_snoc e (g ∷ es) f r h = (r.0, rising_snoc g es f r.1 h)

pub backs_snoc : (size p : ℕ) (e : Elem) (es : List Elem) (f : Elem) → Backs size p e es → f.back ≡ 8192 + last_from p e es % size
    → Backs size p e (es ++ (f ∷ []))
backs_snoc size p e [] f b h = (h, tt)
backs_snoc size p e (g ∷ es) f b h = (b.0, backs_snoc size (p + span e) g es f b.1 h)

pub last_snoc : (p : ℕ) (e : Elem) (es : List Elem) (f : Elem) → last_from p e (es ++ (f ∷ [])) ≡ p + total (e ∷ es)
last_snoc p e [] f = omega arith
last_snoc p e (g ∷ es) f = last_snoc (p + span e) g es f ∙ omega arith

pub last_of_snoc : (e : Elem) (es : List Elem) (f : Elem) → last_of e (es ++ (f ∷ [])) ≡ f
last_of_snoc e [] f = refl
last_of_snoc e (g ∷ es) f = last_of_snoc g es f

-- ---- at a place that is the same in the ring

pub chain_same : (es : List Elem) (img : List ℕ) (size p r : ℕ) → p % size ≡ r % size → Chain img size p es → Chain img size r es
chain_same [] img size p r s c = tt
chain_same (e ∷ es) img size p r s c =
    (holds_same img size p r e s c.0, chain_same es img size (p + span e) (r + span e) (add_same size p r (span e) s) c.1)

pub backs_same : (size p r : ℕ) (e : Elem) (es : List Elem) → p % size ≡ r % size → Backs size p e es → Backs size r e es
backs_same size p r e [] s b = tt
backs_same size p r e (f ∷ es) s b =
    (b.0 ∙ ap (λ (x : ℕ). 8192 + x) s, backs_same size (p + span e) (r + span e) f es (add_same size p r (span e) s) b.1)

pub last_same : (size p r : ℕ) (e : Elem) (es : List Elem) → p % size ≡ r % size → last_from p e es % size ≡ last_from r e es % size
last_same size p r e [] s = s
last_same size p r e (f ∷ es) s = last_same size (p + span e) (r + span e) f es (add_same size p r (span e) s)
