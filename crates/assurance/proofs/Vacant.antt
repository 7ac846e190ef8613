-- An empty queue, by its parts: what each step that leaves it empty has to keep. Clear, a fresh image, and the growth and the commit of
-- an empty queue leave one. Assumes nothing.
use mathlib.Core.Path.{◌≡◌}
use mathlib.Core.Bool.{true}
use mathlib.Core.List.{List}
use Prim.Native.Nat.{ℕ}
use lib.ListN.{length}
use borrow.Author.Tests.{eq-eqb}
use Rattle.queue.specs.State.{no_ends, sound}
use Rattle.queue.specs.declared.state.QueueFile.{QueueFile}
use Rattle.queue.proofs.Sound.{Lengths, Numbers, lengths_sound, numbers_sound, sound_lengths_lem, sound_numbers_lem, sound_empty}
use Rattle.assurance.specs.Linked.{Empty}

pub record Vacant (q : QueueFile) (len : ℕ) : Type 0 where
  pub lengths : Lengths q len
  pub numbers : Numbers q
  pub none : q.elem_cnt ≡ 0
  pub ends : no_ends q ≡ true

-- ---- that is a sound state with no element

vacant_sound : (q : QueueFile) (len : ℕ) → Vacant q len → sound q len ≡ true
unfolding sound
vacant_sound q len v = rw (lengths_sound q len v.lengths, numbers_sound q v.numbers, eq-eqb q.elem_cnt 0 v.none, v.ends)

pub vacant_empty : (img : List ℕ) (q : QueueFile) → Vacant q (length img) → Empty img q
vacant_empty img q v = record { sound = vacant_sound q (length img) v; none = v.none }

pub empty_vacant : (img : List ℕ) (q : QueueFile) → Empty img q → Vacant q (length img)
empty_vacant img q e = record {
  lengths = sound_lengths_lem q (length img) e.sound;
  numbers = sound_numbers_lem q (length img) e.sound;
  none = e.none;
  ends = sound_empty q (length img) e.sound e.none;
}
