-- A state that has grown as was planned for an add has a ring to go on in behind its last. Assumes nothing.
use mathlib.Core.Path.{◌≡◌, refl}
use mathlib.Core.Bool.{Bool, true, false, cond}
use mathlib.Core.List.{List}
use Prim.Native.Nat.{ℕ, ◌≤◌, ◌<◌}
use native.Mathlib.Decide.{dec_le}
use native.Mathlib.Omega.{arith}
use lib.Dec.{ltb, eqb}
use borrow.Author.Tests.{ltb-true, ltb-false}
use Rattle.format.specs.Element.{element_span}
use Rattle.queue.specs.Element.{capacity, Lies}
use Rattle.queue.specs.State.{ends_used, used_bytes, remaining_bytes, sound}
use Rattle.queue.specs.declared.element.Element.{Element}
use Rattle.queue.specs.declared.state.QueueFile.{QueueFile}
use Rattle.queue.proofs.Sound.{sound_lengths_lem, sound_numbers_lem, last_lies}
use Rattle.writing.specs.Work.{Work, with_length}
use Rattle.writing.specs.Commit.{committed, next_state}
use Rattle.writing.specs.Growth.{end_of_last, wrapped}
use Rattle.writing.specs.Expansion.{lengthened, last_moved, last_placed, start_zeroed, laid_straight, expanded, grown, Expands}
use Rattle.writing.specs.Adding.{Extends}
use Rattle.writing.proofs.Choices.{either}
use Rattle.writing.proofs.CommitLaws.{sound_storable}
use Rattle.writing.proofs.LengthLaws.{length_grows}
use Rattle.writing.proofs.StateLaws.{wrapped-some}
use Rattle.writing.proofs.PlanLaws.{length_planned, length_expands, Adds}

-- ---- a state that is longer

-- an element that has its place in the longer ring lies in it
longer_lies : (q : QueueFile) (len n : ℕ) (e : Element) → Expands q len n → e.pos < capacity n → element_span e.len ≤ capacity n → Lies len n e
longer_lies q len n e x p s = record { some = omega (arith, p); inside = x.inside; small = x.small; place = p; span = s }

-- as last does where it is
last-longer : (q : QueueFile) (len n : ℕ) → Expands q len n → (q.elem_cnt ≡ 0 → ⊥) → Lies len n q.last
last-longer q len n x k =
    let l = last_lies q len x.sound k in
    longer_lies q len n q.last x (omega (arith, l.some, l.place, x.twice)) (omega (arith, l.some, l.span, x.twice))

longer_extends : (q : QueueFile) (len n : ℕ) → Expands q len n → Extends len (with_length q n)
longer_extends q len n x =
    let l = sound_lengths_lem q len x.sound in
    let m = sound_numbers_lem q len x.sound in
    let s = sound_storable q len x.sound in
    record {
      some = omega (arith, l.start, x.twice);
      inside = x.inside;
      small = x.small;
      count = m.count;
      sequence = m.next_small;
      generation = s.generation;
      first = s.first;
      place = s.last;
      last = last-longer q len n x;
    }

-- with last moved, which there is
moved_extends : (q : QueueFile) (len n : ℕ) → Expands q len n → (q.elem_cnt ≡ 0 → ⊥) → Extends len (last_moved q.file_len (with_length q n))
moved_extends q len n x k =
    let e = longer_extends q len n x in
    let o = last_lies q len x.sound k in
    let l = longer_lies q len n (last_moved q.file_len (with_length q n)).last x (omega (arith, o.some, o.place, x.twice)) (omega (arith, o.some, o.span, x.twice)) in
    record {
      some = e.some;
      inside = e.inside;
      small = e.small;
      count = e.count;
      sequence = e.sequence;
      generation = e.generation;
      first = e.first;
      place = omega (arith, l.place, l.small);
      last = λ (_ : q.elem_cnt ≡ 0 → ⊥). l;
    }

-- and committed
next_extends : (q : QueueFile) (len n : ℕ) → Expands q len n → (q.elem_cnt ≡ 0 → ⊥)
    → Extends len (next_state (last_moved q.file_len (with_length q n)))
next_extends q len n x k =
    let e = moved_extends q len n x k in
    let m = sound_numbers_lem q len x.sound in
    record {
      some = e.some;
      inside = e.inside;
      small = e.small;
      count = e.count;
      sequence = e.sequence;
      generation = omega (arith, m.generation);
      first = e.first;
      place = e.place;
      last = e.last;
    }

-- ---- a state that has grown

placed_extends : (q : QueueFile) (img : List ℕ) (len n : ℕ) → Expands q len n → (q.elem_cnt ≡ 0 → ⊥)
    → Extends len (last_placed q.file_len (with_length q n, img)).0
unfolding last_placed committed
placed_extends q img len n x k =
    either (λ (w : Work). Extends len w.0) (ltb q.last.pos q.first.pos) _ _
    (λ _. either (λ (w : Work). Extends len w.0) q.settings.overwrite_on_remove _ _
    (λ _. next_extends q len n x k)
    (moved_extends q len n x k))
    (longer_extends q len n x)

zeroed_extends : (len end : ℕ) (w : Work) → Extends len w.0 → Extends len (start_zeroed end w).0
unfolding start_zeroed
zeroed_extends len end w h = either (λ (v : Work). Extends len v.0) w.0.settings.overwrite_on_remove _ _ (λ _. h) h

expanded_extends : (q : QueueFile) (img : List ℕ) (len n : ℕ) → Expands q len n → Extends len (expanded n (q, img)).0
unfolding expanded laid_straight lengthened
expanded_extends q img len n x =
    either (λ (w : Work). Extends len w.0) (wrapped q) _ _
    (λ e. zeroed_extends len (end_of_last q) _ (placed_extends q _ len n x (wrapped-some q e)))
    (longer_extends q len n x)

-- a state that has room for an element has a ring
used_some : (q : QueueFile) → 8192 ≤ used_bytes q
unfolding used_bytes
used_some q = either (λ (u : ℕ). 8192 ≤ u) (eqb q.elem_cnt 0) 8192 (ends_used q) (λ _. omega arith) (omega arith)

same_extends : (q : QueueFile) (len span : ℕ) → sound q len ≡ true → 0 < span → span ≤ remaining_bytes q → Extends len q
same_extends q len span e h r =
    let l = sound_lengths_lem q len e in
    let m = sound_numbers_lem q len e in
    let s = sound_storable q len e in
    record {
      some = omega (arith, used_some q, h, r);
      inside = omega (arith, l.real, l.inside);
      small = omega (arith, l.real, l.small);
      count = m.count;
      sequence = m.next_small;
      generation = s.generation;
      first = s.first;
      place = s.last;
      last = last_lies q len e;
    }

-- where the file stays as it is, that is because there is room
has_room : (q : QueueFile) (len payload n : ℕ) → Adds q len payload n → n ≤ q.file_len → element_span payload ≤ remaining_bytes q
has_room q len payload n a h =
    go (dec_le (element_span payload) (remaining_bytes q))
  where
    go : Dec (element_span payload ≤ remaining_bytes q) → element_span payload ≤ remaining_bytes q
    go (yes y) = y
    go (no m) =
        let p = length_planned q len (element_span payload) 1 1 n a.planned in
        let g = length_grows q.file_len (remaining_bytes q) (element_span payload) n p.0 (omega (arith, m)) in
        absurd (omega (arith, h, (sound_lengths_lem q len a.sound).start, g))

grown_by : (b : Bool) (q : QueueFile) (img : List ℕ) (len payload n : ℕ) → Adds q len payload n → ltb q.file_len n ≡ b
    → Extends len (cond b (expanded n (q, img)) (q, img)).0
grown_by true q img len payload n a e =
    expanded_extends q img len n (length_expands q len (element_span payload) 1 1 n a.sound a.planned (ltb-true _ _ e))
grown_by false q img len payload n a e = same_extends q len (element_span payload) a.sound (omega arith) (has_room q len payload n a (ltb-false _ _ e))

pub grown_extends : (q : QueueFile) (img : List ℕ) (len payload n : ℕ) → Adds q len payload n → Extends len (grown n (q, img)).0
unfolding grown
grown_extends q img len payload n a = grown_by (ltb q.file_len n) q img len payload n a refl
