-- What is known of an element that goes behind last: its place is in the ring, and a state that it is put into can be stored. Assumes
-- nothing.
use mathlib.Core.Path.{◌≡◌}
use mathlib.Core.List.{List}
use Prim.Native.Nat.{ℕ, ◌+◌, ◌^◌, ◌<◌}
use native.Mathlib.Nat.{mod-lt}
use native.Mathlib.Omega.{arith}
use lib.Dec.{eqb}
use Rattle.format.specs.Element.{element_span}
use Rattle.queue.specs.Element.{capacity}
use Rattle.queue.specs.declared.element.Element.{Element}
use Rattle.queue.specs.declared.state.QueueFile.{QueueFile}
use Rattle.writing.specs.Work.{Work}
use Rattle.writing.specs.Commit.{Storable}
use Rattle.writing.specs.Growth.{end_of_last}
use Rattle.writing.specs.Adding.{next_place, appended, Extends}
use Rattle.writing.proofs.Choices.{either}
use Rattle.writing.proofs.StateLaws.{own_lies}

-- ---- the file itself is image enough

pub own_extends : (q : QueueFile) (len : ℕ) → Extends len q → Extends q.file_len q
own_extends q len e =
    record {
      some = e.some;
      inside = omega arith;
      small = e.small;
      count = e.count;
      sequence = e.sequence;
      generation = e.generation;
      first = e.first;
      place = e.place;
      last = λ (k : q.elem_cnt ≡ 0 → ⊥). own_lies len q.file_len q.last (e.last k);
    }

-- ---- its place

pub next_place_lem : (q : QueueFile) → 8192 < q.file_len → next_place q < capacity q.file_len
next_place_lem q h =
    either (λ (p : ℕ). p < capacity q.file_len) (eqb q.elem_cnt 0) 0 (end_of_last q) (λ _. omega arith)
    (mod-lt (q.last.pos + element_span q.last.len) (omega arith))

-- ---- the state with it

pub append_storable : (payload : List ℕ) (w : Work) (len : ℕ) → Extends len w.0 → Storable (appended payload w).0
unfolding appended
append_storable payload w len e =
    let q = w.0 in
    let place : next_place q < 2 ^ 63 = omega (arith, e.small, next_place_lem q e.some) in
    record {
      generation = e.generation;
      first = either (λ (f : Element). f.pos < 2 ^ 63) (eqb q.elem_cnt 0) _ _ (λ _. place) e.first;
      last = place;
    }
