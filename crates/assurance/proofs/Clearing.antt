-- Clear leaves an empty queue, cut or not, and so does a fresh image; a commit or growth of an empty queue leaves it empty.
-- Assumes nothing.
use mathlib.Core.Path.{◌≡◌, refl}
use mathlib.Core.Bool.{true, false}
use mathlib.Core.List.{List}
use Prim.Native.Nat.{ℕ, ◌+◌, ◌-◌, ◌^◌, ◌≤◌, ◌<◌, min}
use native.Mathlib.Nat.{le-max_right}
use native.Mathlib.Omega.{arith}
use lib.ListN.{length, replicate}
use lib.Seq.{length-sets}
use lib.Dec.{ltb}
use borrow.Author.Tests.{ltb-true, eq-eqb}
use Rattle.wire.specs.Wire.{put_at}
use Rattle.queue.specs.Element.{is_empty_element}
use Rattle.queue.specs.State.{no_ends, sound}
use Rattle.queue.specs.declared.state.Settings.{Settings}
use Rattle.queue.specs.declared.state.QueueFile.{QueueFile}
use Rattle.queue.proofs.Sound.{sound_lengths_lem, sound_numbers_lem}
use Rattle.writing.specs.Work.{Work, with_length}
use Rattle.writing.specs.Commit.{next_state, committed}
use Rattle.writing.specs.Growth.{wrapped}
use Rattle.writing.specs.Expansion.{lengthened, expanded, grown, Expands}
use Rattle.writing.specs.Clearing.{cleared_length, emptied, ring_zeroed, cut_state, cleared}
use Rattle.writing.specs.Fresh.{fresh_queue}
use Rattle.writing.proofs.Choices.{either}
use Rattle.assurance.proofs.CommitLaid.{length-committed}
use Rattle.assurance.proofs.Vacant.{Vacant}

-- the state is empty and sound over the image
abbrev VacantWork : Work → Type 0
VacantWork w = Vacant w.0 (length w.1)

-- after a store too
pub stored_vacant : (q : QueueFile) (img : List ℕ) (at : ℕ) (s : List ℕ) → Vacant q (length img) → Vacant q (length (put_at img at s))
stored_vacant q img at s v = rw (length-sets img at s) v

-- ---- commit

next_vacant : (q : QueueFile) (len : ℕ) → Vacant q len → q.format.generation + 1 < 2 ^ 63 → Vacant (next_state q) len
unfolding no_ends
next_vacant q len v g = record {
  lengths = record { start = v.lengths.start; real = v.lengths.real; inside = v.lengths.inside; small = v.lengths.small };
  numbers = record {
    next_some = v.numbers.next_some;
    next_small = v.numbers.next_small;
    generation = g;
    count = v.numbers.count;
  };
  none = v.none;
  ends = v.ends;
}

pub committed_vacant : (w : Work) → VacantWork w → w.0.format.generation + 1 < 2 ^ 63 → VacantWork (committed w)
unfolding committed
committed_vacant w v g = rw (length-committed w) (next_vacant w.0 (length w.1) v g)

-- ---- clear

emptied_vacant : (q : QueueFile) (len : ℕ) → sound q len ≡ true → Vacant (emptied q) len
unfolding no_ends is_empty_element
emptied_vacant q len e =
    let l = sound_lengths_lem q len e in
    let n = sound_numbers_lem q len e in
    record {
      lengths = record { start = l.start; real = l.real; inside = l.inside; small = l.small };
      numbers = record { next_some = n.next_some; next_small = n.next_small; generation = n.generation; count = omega arith };
      none = refl;
      ends = refl;
    }

zeroed_vacant : (w : Work) → VacantWork w → VacantWork (ring_zeroed w)
unfolding ring_zeroed
zeroed_vacant w v =
    either VacantWork w.0.settings.overwrite_on_remove _ _
    (λ _. stored_vacant w.0 w.1 8192 (replicate (min w.0.file_len (cleared_length w.0) - 8192) 0) v)
    v

-- a length from the ring's start to the image's end
length_vacant : (q : QueueFile) (len n : ℕ) → Vacant q len → 8192 ≤ n → n ≤ len → n < 2 ^ 63 → Vacant (with_length q n) len
unfolding no_ends
length_vacant q len n v s i m = record {
  lengths = record { start = s; real = omega arith; inside = i; small = m };
  numbers = record {
    next_some = v.numbers.next_some;
    next_small = v.numbers.next_small;
    generation = v.numbers.generation;
    count = v.numbers.count;
  };
  none = v.none;
  ends = v.ends;
}

cut_vacant : (q : QueueFile) (len : ℕ) → Vacant q len → Vacant (cut_state q) len
cut_vacant q len v =
    let l = v.lengths in
    either (λ (s : QueueFile). Vacant s len) (ltb (cleared_length q) q.file_len) _ _
    (λ t.
    let c = ltb-true (cleared_length q) q.file_len t in
    length_vacant q len (cleared_length q) v (le-max_right q.settings.capacity 8192)
    (omega (arith, c, l.real, l.inside)) (omega (arith, c, l.real, l.small)))
    v

pub cleared_vacant : (q : QueueFile) (img : List ℕ) → sound q (length img) ≡ true → q.format.generation + 1 < 2 ^ 63
    → VacantWork (cleared (q, img))
unfolding cleared
cleared_vacant q img e g =
    cut_vacant _ _ (zeroed_vacant _ (committed_vacant (emptied q, img) (emptied_vacant q (length img) e) g))

-- ---- a fresh image

pub fresh_vacant : (n len : ℕ) (settings : Settings) → 8192 ≤ n → n < 2 ^ 63 → n ≤ len → Vacant (fresh_queue n settings) len
unfolding no_ends is_empty_element
fresh_vacant n len settings s m i = record {
  lengths = record { start = s; real = omega arith; inside = i; small = m };
  numbers = record { next_some = omega arith; next_small = omega arith; generation = omega arith; count = omega arith };
  none = refl;
  ends = refl;
}

-- ---- growth of an empty queue, which does not wrap

vacant_straight : (q : QueueFile) → q.elem_cnt ≡ 0 → wrapped q ≡ false
unfolding wrapped
vacant_straight q z = rw (eq-eqb q.elem_cnt 0 z)

pub grown_vacant : (q : QueueFile) (img : List ℕ) (n : ℕ) → Vacant q (length img) → (q.file_len < n → Expands q (length img) n)
    → VacantWork (grown n (q, img))
unfolding grown expanded lengthened
grown_vacant q img n v x =
    either VacantWork (ltb q.file_len n) _ _
    (λ t.
    let y = x (ltb-true q.file_len n t) in
    rw (vacant_straight q v.none)
    (stored_vacant (with_length q n) img q.real_len (replicate (n - q.real_len) 0)
    (length_vacant q (length img) n v (omega (arith, v.lengths.start, y.twice)) y.inside y.small)))
    v
