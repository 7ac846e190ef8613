-- What the walks by hand of a reader's functions share: a struct that is put together of parts owns what they own, at the machine values that
-- they have; and a goal that ends in two facts. Takes `Logic`, for the calculus alone.
use mathlib.Core.Path.{refl}
use mathlib.Core.List.{List, [], ◌∷◌}
use seplogic.Ra.Ura.{Ura}
use mir.Val.{Val, vstruct, of_list}
use base.Logic.{SProp, ent, sep, assoc∗}
use types.Logic.{Logic, sem}
use contract.Monad.{fact}
use types.Kit.{Item, prop, Step, step, ‵, ◌$◌, !, qed, fjoin, fpack, feq_i, suffices, done}
use denote.RattleType.{Valss, flat, owns}
use denote.Struct.Struct.{within}
use denote.Struct.Declared.{Declared, fields, shape, row}
use denote.Triple.Walked.{says}

-- the machine value of a struct whose fields have these
abbrev pub built : (N : Declared) → Valss (fields N) → Val
built N vss = vstruct (of_list (flat (fields N) vss))

pub builds : {M : Type 1} {𝓤 : Ura M} (𝓛 : Logic 𝓤) (N : Declared) (d : N.D) (vss : Valss (fields N))
    → ent 𝓤 (sem 𝓛 (owns (fields N) (N.to d) vss)) (sem 𝓛 ((row N).own_val d (built N vss ∷ [])))
builds 𝓛 N d vss = qed 𝓛 (‵ (owns (fields N) (N.to d) vss) ∷ []) {P = sem 𝓛 ((row N).own_val d (built N vss ∷ []))} (
    feq_i ! (List Val) (built N vss ∷ []) (built N vss ∷ []) refl $ fjoin ! $
    fpack ! (Valss (fields N)) (within (shape N) (N.to d) (built N vss ∷ [])) vss $ done !)

-- `says` for a contract of two clauses
pub says_both : {M : Type 1} {𝓤 : Ura M} {𝓛 : Logic 𝓤} {K : Type 0} {Γ : List (Item 𝓤)} → K → {φ ψ : Type 0} {P : SProp 𝓤}
    → φ → ψ → Step K 𝓛 Γ (prop P) Γ (prop (sep 𝓤 P (sep 𝓤 (fact 𝓤 φ) (fact 𝓤 ψ))))
says_both {𝓤 = 𝓤} t {φ} {ψ} {P} x y = step (λ s.
    suffices t (sep 𝓤 (sep 𝓤 P (fact 𝓤 φ)) (fact 𝓤 ψ)) (assoc∗ 𝓤 P (fact 𝓤 φ) (fact 𝓤 ψ)) $ says t y $ says t x $ s)
