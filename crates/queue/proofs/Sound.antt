-- What a sound state is known to be, for those who work on one. Assumes nothing.
use mathlib.Core.Path.{◌≡◌, refl, ap, sym, ◌∙◌}
use mathlib.Core.Bool.{Bool, true, not, cond, ◌&&◌, and-eq-true_iff}
use Prim.Native.Nat.{ℕ, zero, suc, ◌^◌, ◌≤◌, ◌<◌}
use native.Mathlib.Omega.{arith}
use lib.Dec.{eqb}
use borrow.Author.Tests.{ltb-true, leb-true, lt-ltb, le-leb, eq-eqb, ne_eqb, eqb-false, not-true}
use Rattle.format.specs.Element.{element_span}
use Rattle.queue.specs.Element.{capacity, Lies}
use Rattle.queue.specs.State.{ends_used, sound_lengths, sound_numbers, no_ends, sound_ends, sound}
use Rattle.queue.specs.declared.state.QueueFile.{QueueFile}

-- ---- its lengths

pub record Lengths (q : QueueFile) (len : ℕ) : Type 0 where
  pub start : 8192 ≤ q.file_len
  pub real : q.file_len ≤ q.real_len
  pub inside : q.real_len ≤ len
  pub small : q.real_len < 2 ^ 63

pub lengths_known : (q : QueueFile) (len : ℕ) → sound_lengths q len ≡ true → Lengths q len
unfolding sound_lengths
lengths_known q len e =
    let a = (and-eq-true_iff _ _).0 e in
    let b = (and-eq-true_iff _ _).0 a.1 in
    let d = (and-eq-true_iff _ _).0 b.1 in
    record { start = leb-true _ _ a.0; real = leb-true _ _ b.0; inside = leb-true _ _ d.0; small = ltb-true _ _ d.1 }

pub lengths_sound : (q : QueueFile) (len : ℕ) → Lengths q len → sound_lengths q len ≡ true
unfolding sound_lengths
lengths_sound q len l = rw (le-leb _ _ l.start, le-leb _ _ l.real, le-leb _ _ l.inside, lt-ltb _ _ l.small)

pub sound_lengths_lem : (q : QueueFile) (len : ℕ) → sound q len ≡ true → Lengths q len
unfolding sound
sound_lengths_lem q len e = lengths_known q len ((and-eq-true_iff _ _).0 e).0

-- ---- its numbers

pub record Numbers (q : QueueFile) : Type 0 where
  pub next_some : 0 < q.format.next_seq
  pub next_small : q.format.next_seq < 2 ^ 63
  pub generation : q.format.generation < 2 ^ 63
  pub count : q.elem_cnt < 2 ^ 31

-- ---- its ends, where there are elements

pub record Ends (q : QueueFile) : Type 0 where
  pub first-place : q.first.pos < capacity q.file_len
  pub last-place : q.last.pos < capacity q.file_len
  pub first-span : element_span q.first.len ≤ capacity q.file_len
  pub last-span : element_span q.last.len ≤ capacity q.file_len
  pub used : ends_used q ≤ q.file_len

pub ends_known : (q : QueueFile) → sound_ends q ≡ true → Ends q
unfolding sound_ends
ends_known q e =
    let a = (and-eq-true_iff _ _).0 e in
    let b = (and-eq-true_iff _ _).0 a.1 in
    let d = (and-eq-true_iff _ _).0 b.1 in
    let g = (and-eq-true_iff _ _).0 d.1 in
    record {
      first-place = ltb-true _ _ a.0;
      last-place = ltb-true _ _ b.0;
      first-span = leb-true _ _ d.0;
      last-span = leb-true _ _ g.0;
      used = leb-true _ _ g.1;
    }

pub sound-ends : (q : QueueFile) (len : ℕ) → sound q len ≡ true → (q.elem_cnt ≡ 0 → ⊥) → Ends q
unfolding sound
sound-ends q len e n =
    let a = ((and-eq-true_iff (sound_lengths q len) (sound_numbers q && cond (eqb q.elem_cnt 0) (no_ends q) (sound_ends q))).0 e).1 in
    let b = ((and-eq-true_iff (sound_numbers q) (cond (eqb q.elem_cnt 0) (no_ends q) (sound_ends q))).0 a).1 in
    ends_known q (sym (ap (λ (t : Bool). cond t (no_ends q) (sound_ends q)) (ne_eqb _ _ n)) ∙ b)

-- ---- where there are none

pub sound_empty : (q : QueueFile) (len : ℕ) → sound q len ≡ true → q.elem_cnt ≡ 0 → no_ends q ≡ true
unfolding sound
sound_empty q len e z =
    let a = ((and-eq-true_iff (sound_lengths q len) (sound_numbers q && cond (eqb q.elem_cnt 0) (no_ends q) (sound_ends q))).0 e).1 in
    let b = ((and-eq-true_iff (sound_numbers q) (cond (eqb q.elem_cnt 0) (no_ends q) (sound_ends q))).0 a).1 in
    sym (ap (λ (t : Bool). cond t (no_ends q) (sound_ends q)) (eq-eqb _ _ z)) ∙ b

-- a count is 0 or it is not
pub by_count : {A : Type 0} (n : ℕ) → (n ≡ 0 → A) → ((n ≡ 0 → ⊥) → A) → A
by_count zero none some = none refl
by_count (suc n) none some = some (λ (e : suc n ≡ 0). omega (arith, e))

-- ---- both ends lie in the ring, where there are elements

-- there is a ring, since an end has a place in it
pub first_lies : (q : QueueFile) (len : ℕ) → sound q len ≡ true → (q.elem_cnt ≡ 0 → ⊥) → Lies len q.file_len q.first
first_lies q len e n =
    let l = sound_lengths_lem q len e in
    let p = sound-ends q len e n in
    record {
      some = omega (arith, p.first-place);
      inside = omega (arith, l.real, l.inside);
      small = omega (arith, l.real, l.small);
      place = p.first-place;
      span = p.first-span;
    }

pub last_lies : (q : QueueFile) (len : ℕ) → sound q len ≡ true → (q.elem_cnt ≡ 0 → ⊥) → Lies len q.file_len q.last
last_lies q len e n =
    let l = sound_lengths_lem q len e in
    let p = sound-ends q len e n in
    record {
      some = omega (arith, p.last-place);
      inside = omega (arith, l.real, l.inside);
      small = omega (arith, l.real, l.small);
      place = p.last-place;
      span = p.last-span;
    }

-- what is not 0 is above it
pub not_zero : (n : ℕ) → not (eqb n 0) ≡ true → 0 < n
not_zero n e = omega (arith, eqb-false n 0 (not-true (eqb n 0) e))

pub numbers_known : (q : QueueFile) → sound_numbers q ≡ true → Numbers q
unfolding sound_numbers
numbers_known q e =
    let a = (and-eq-true_iff _ _).0 e in
    let b = (and-eq-true_iff _ _).0 a.1 in
    let d = (and-eq-true_iff _ _).0 b.1 in
    record {
      next_some = not_zero q.format.next_seq a.0;
      next_small = ltb-true _ _ b.0;
      generation = ltb-true _ _ d.0;
      count = ltb-true _ _ d.1;
    }

pub numbers_sound : (q : QueueFile) → Numbers q → sound_numbers q ≡ true
unfolding sound_numbers
numbers_sound q n =
    rw (
      ne_eqb q.format.next_seq 0 (λ z. omega (arith, n.next_some)),
      lt-ltb _ _ n.next_small,
      lt-ltb _ _ n.generation,
      lt-ltb _ _ n.count,
    )

pub sound_numbers_lem : (q : QueueFile) (len : ℕ) → sound q len ≡ true → Numbers q
unfolding sound
sound_numbers_lem q len e =
    let a = ((and-eq-true_iff (sound_lengths q len) (sound_numbers q && cond (eqb q.elem_cnt 0) (no_ends q) (sound_ends q))).0 e).1 in
    numbers_known q ((and-eq-true_iff (sound_numbers q) (cond (eqb q.elem_cnt 0) (no_ends q) (sound_ends q))).0 a).0
