-- What the workers of growth know of a sound state. Assumes nothing.
use Rattle.refusal.proofs.Laws.{refused, same_ok, granted}
use mathlib.Core.Path.{◌≡◌, refl, sym, ◌∙◌}
use mathlib.Core.Bool.{Bool, true, false, not, and-eq-true_iff}
use Prim.Native.Nat.{ℕ, ◌≤◌}
use native.Mathlib.Omega.{arith}
use lib.Dec.{eqb, leb}
use borrow.Author.Tests.{leb-true, eqb-false, not-true}
use Rattle.refusal.specs.declared.Refusal.TheVariants.{Unsound}
use Rattle.refusal.specs.Demand.{demand}
use Rattle.refusal.specs.declared.Refusal.{Refusal}
use Rattle.queue.specs.Element.{Lies}
use Rattle.queue.specs.State.{remaining_bytes, sound, judge_remaining}
use Rattle.queue.specs.declared.element.Element.{Element}
use Rattle.queue.specs.declared.state.QueueFile.{QueueFile}
use Rattle.queue.proofs.Sound.{last_lies}
use Rattle.writing.specs.Growth.{end_of_last, wrapped}
use Rattle.std.specs.Prelude.{Result, Ok, Err}

-- an element lies in the file, whatever image the file is in
pub own_lies : (len file : ℕ) (e : Element) → Lies len file e → Lies file file e
own_lies len file e l = record { some = l.some; inside = omega arith; small = l.small; place = l.place; span = l.span }

-- so does last
pub last_stands : (q : QueueFile) (len : ℕ) → sound q len ≡ true → (q.elem_cnt ≡ 0 → ⊥) → Lies q.file_len q.file_len q.last
last_stands q len e k = own_lies len q.file_len q.last (last_lies q len e k)

-- where elements wrap, there are some, and the end of last is not behind first
pub wrapped-some : (q : QueueFile) → wrapped q ≡ true → q.elem_cnt ≡ 0 → ⊥
unfolding wrapped
wrapped-some q e =
    eqb-false _ _ (not-true _ ((and-eq-true_iff (not (eqb q.elem_cnt 0)) (leb (end_of_last q) q.first.pos)).0 e).0)

pub wrapped-end : (q : QueueFile) → wrapped q ≡ true → end_of_last q ≤ q.first.pos
unfolding wrapped
wrapped-end q e = leb-true _ _ ((and-eq-true_iff (not (eqb q.elem_cnt 0)) (leb (end_of_last q) q.first.pos)).0 e).1

-- a state that answers its remaining bytes is sound, and one that does not is not
pub remaining_known : (q : QueueFile) (len m : ℕ) (c : Result ℕ Refusal) → c ≡ judge_remaining q len → c ≡ Ok m → (sound q len ≡ true) × (m ≡ remaining_bytes q)
remaining_known q len m c e h =
    let g = granted (sound q len) (Err Unsound) (Ok (remaining_bytes q)) (Ok m) refused (sym e ∙ h) in
    (g.0, sym (same_ok (remaining_bytes q) m g.1))

refused_by : (b : Bool) (n : ℕ) (r : Refusal) → demand b (Err Unsound) (Ok n) ≡ Err r → (b ≡ false) × (r ≡ Unsound)
unfolding demand
refused_by true n r e = absurd (refused (sym e))
refused_by false n r e = (refl, cc)

pub remaining_refused : (q : QueueFile) (len : ℕ) (r : Refusal) (c : Result ℕ Refusal) → c ≡ judge_remaining q len → c ≡ Err r → (sound q len ≡ false) × (r ≡ Unsound)
remaining_refused q len r c e h = refused_by (sound q len) (remaining_bytes q) r (sym e ∙ h)
