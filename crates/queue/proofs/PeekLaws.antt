-- What is known where peeking answers a payload, and where it does not. Assumes nothing.
use Rattle.refusal.proofs.Laws.{nothing, refused, granted}
use Prim.Native.Nat.{ℕ, ◌≤◌}
use mathlib.Core.Path.{◌≡◌, refl, ap, sym, ◌∙◌}
use mathlib.Core.Bool.{Bool, cond}
use mathlib.Core.List.{List, []}
use lib.Dec.{leb}
use borrow.Author.Tests.{leb-true, eq-eqb, ne_eqb}
use Rattle.refusal.specs.declared.Refusal.TheVariants.{OutputTooSmall}
use Rattle.refusal.specs.Demand.{demand}
use Rattle.refusal.specs.declared.Refusal.{Refusal}
use Rattle.queue.specs.Element.{Lies}
use Rattle.queue.specs.State.{sound}
use Rattle.queue.specs.Peek.{fit_peek, check_peek, peeked_output, peeked_part}
use Rattle.queue.specs.declared.state.QueueFile.{QueueFile}
use Rattle.queue.specs.declared.peek.Part.{Part}
use Rattle.queue.proofs.Sound.{first_lies}
use Rattle.std.specs.Prelude.{Result, Ok, Err, Option, Some, None}

-- ---- a payload

-- a payload that fits lies in the ring, and there is room for it
pub fit_known : (q : QueueFile) (len room n : ℕ) → fit_peek q len room ≡ Ok (Some n) → Lies len q.file_len q.first × (q.first.len ≤ room)
unfolding fit_peek
fit_known q len room n e =
    let rest : Result (Option ℕ) Refusal = demand (leb q.first.len room) (Err OutputTooSmall) (Ok (Some q.first.len)) in
    let a = granted (sound q len) _ _ _ refused e in
    let some : q.elem_cnt ≡ 0 → ⊥ = λ z. nothing (sym (ap (λ (t : Bool). cond t (Ok None) rest) (eq-eqb _ _ z)) ∙ a.1) in
    let b : rest ≡ Ok (Some n) = sym (ap (λ (t : Bool). cond t (Ok None) rest) (ne_eqb _ _ some)) ∙ a.1 in
    (first_lies q len a.0 some, leb-true _ _ (granted _ _ _ _ refused b).0)

-- ---- none: the answer has no payload

pub none-checked : (img : List ℕ) (q : QueueFile) (p : Result (Option ℕ) Refusal) → ((n : ℕ) → p ≡ Ok (Some n) → ⊥) → p ≡ check_peek img q p
none-checked img q (Ok (Some n)) k = absurd (k n refl)
none-checked img q (Ok None) k = refl
none-checked img q (Err r) k = refl

pub none_output : (p : Result (Option ℕ) Refusal) (payload out : List ℕ) → ((n : ℕ) → p ≡ Ok (Some n) → ⊥) → out ≡ peeked_output p payload out
none_output (Ok (Some n)) payload out k = absurd (k n refl)
none_output (Ok None) payload out k = refl
none_output (Err r) payload out k = refl

pub none_part : (img : List ℕ) (p : Result (Option Part) Refusal) → ((part : Part) → p ≡ Ok (Some part) → ⊥) → [] ≡ peeked_part img p
none_part img (Ok (Some part)) k = absurd (k part refl)
none_part img (Ok None) k = refl
none_part img (Err r) k = refl
