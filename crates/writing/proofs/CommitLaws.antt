-- A sound state can be stored, a state that is granted a commit is sound, and what a pointer is. Assumes nothing.
use mathlib.Core.Path.{◌≡◌, ap}
use mathlib.Core.Bool.{Bool, true, cond, and-eq-true_iff}
use Prim.Native.Nat.{ℕ, ◌+◌, ◌^◌, ◌<◌}
use native.Mathlib.Omega.{arith}
use borrow.Author.Tests.{ltb-true, eq-eqb, ne_eqb, eqb-true}
use Rattle.refusal.proofs.Laws.{granted, refused}
use Rattle.queue.specs.Element.{is_empty_element}
use Rattle.queue.specs.State.{no_ends, sound}
use Rattle.queue.specs.declared.element.Element.{Element}
use Rattle.queue.specs.declared.state.QueueFile.{QueueFile}
use Rattle.queue.proofs.Sound.{sound_numbers_lem, sound_empty, by_count, first_lies, last_lies}
use Rattle.writing.specs.Commit.{pointer_to, judge_numbers, judge_commit, Storable}
use Rattle.std.specs.Prelude.{Ok}

-- ---- a sound state without elements has no places

empty-place : (e : Element) → is_empty_element e ≡ true → e.pos ≡ 0
unfolding is_empty_element
empty-place e h = eqb-true _ _ ((and-eq-true_iff _ _).0 h).0

no_places : (q : QueueFile) → no_ends q ≡ true → (q.first.pos ≡ 0) × (q.last.pos ≡ 0)
unfolding no_ends
no_places q e =
    let a = (and-eq-true_iff (is_empty_element q.first) (is_empty_element q.last)).0 e in
    (empty-place q.first a.0, empty-place q.last a.1)

-- ---- its slot has numbers that fit

empty_storable : (q : QueueFile) (len : ℕ) → sound q len ≡ true → q.elem_cnt ≡ 0 → Storable q
empty_storable q len e z =
    let n = sound_numbers_lem q len e in
    let p = no_places q (sound_empty q len e z) in
    record { generation = omega (arith, n.generation); first = omega (arith, p.0); last = omega (arith, p.1) }

some_storable : (q : QueueFile) (len : ℕ) → sound q len ≡ true → (q.elem_cnt ≡ 0 → ⊥) → Storable q
some_storable q len e m =
    let n = sound_numbers_lem q len e in
    let f = first_lies q len e m in
    let l = last_lies q len e m in
    record { generation = omega (arith, n.generation); first = omega (arith, f.place, f.small); last = omega (arith, l.place, l.small) }

pub sound_storable : (q : QueueFile) (len : ℕ) → sound q len ≡ true → Storable q
sound_storable q len e = by_count q.elem_cnt (empty_storable q len e) (some_storable q len e)

-- ---- what is granted a commit

pub commit_sound : (q : QueueFile) (len : ℕ) → judge_commit q len ≡ Ok tt → sound q len ≡ true
unfolding judge_commit
commit_sound q len e = (granted _ _ _ _ refused e).0

pub commit_storable : (q : QueueFile) (len : ℕ) → judge_commit q len ≡ Ok tt → Storable q
commit_storable q len e = sound_storable q len (commit_sound q len e)

-- the numbers that are granted so many commits and elements
pub numbers_granted : (q : QueueFile) (commits elements : ℕ) → judge_numbers q commits elements ≡ Ok tt
    → (q.format.generation + commits < 2 ^ 63) × (q.format.next_seq + elements < 2 ^ 63)
unfolding judge_numbers
numbers_granted q commits elements e =
    let a = granted _ _ _ _ refused e in
    let b = granted _ _ _ _ refused a.1 in
    (ltb-true _ _ a.0, ltb-true _ _ b.0)

-- ---- pointers

pub pointer_none : (n : ℕ) (e : Element) → n ≡ 0 → pointer_to n e ≡ 0
pointer_none n e z = ap (λ (t : Bool). cond t 0 (8192 + e.pos)) (eq-eqb n 0 z)

pub pointer-some : (n : ℕ) (e : Element) → (n ≡ 0 → ⊥) → pointer_to n e ≡ 8192 + e.pos
pointer-some n e m = ap (λ (t : Bool). cond t 0 (8192 + e.pos)) (ne_eqb n 0 m)
