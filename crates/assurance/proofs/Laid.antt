-- A linked queue, unrolled: its elements as a list that stands in the image, with what the state says of them. Its soundness, its used
-- bytes and the end of its last element are sums over that list. Assumes nothing.
use mathlib.Core.Path.{◌≡◌, sym, ap, ◌∙◌}
use mathlib.Core.Bool.{true}
use mathlib.Core.List.{List, ◌∷◌}
use Prim.Native.Nat.{ℕ, suc, ◌+◌, ◌-◌, ◌%◌, ◌^◌, ◌≤◌, ◌<◌}
use native.Mathlib.Nat.{mod-eq_of_lt, mod-add-mod, add-mod_right}
use native.Mathlib.Decide.{dec_lt}
use native.Mathlib.Omega.{arith}
use lib.ListN.{length}
use borrow.Author.Tests.{lt-ltb, le-leb, ne_eqb}
use Rattle.ring.specs.Ring.{ring_distance}
use Rattle.ring.proofs.Places.{turn_high}
use Rattle.format.specs.Element.{element_span}
use Rattle.format.specs.declared.state.V2Format.{V2Format}
use Rattle.queue.specs.Element.{capacity, header_at}
use Rattle.queue.specs.State.{ends_used, sound_ends, sound}
use Rattle.queue.specs.declared.state.QueueFile.{QueueFile}
use Rattle.queue.proofs.Sound.{Lengths, Numbers, lengths_sound, numbers_sound}
use Rattle.writing.specs.Work.{with_format}
use Rattle.writing.specs.Growth.{end_of_last}
use Rattle.assurance.proofs.Chain.{Elem, header_of, span, total, Chain, Rising, Backs, last_of, last_from, header_there, last_end, last-after, last-holds}
use Rattle.std.specs.Prelude.{Ok}

-- e and es are the elements that the state and the image hold
pub record Laid (img : List ℕ) (q : QueueFile) (e : Elem) (es : List Elem) : Type 0 where
  pub lengths : Lengths q (length img)
  pub numbers : Numbers q
  pub first_low : q.first.pos < capacity q.file_len
  pub last_low : q.last.pos < capacity q.file_len
  pub count : q.elem_cnt ≡ suc (length es)
  pub holds : Chain img (capacity q.file_len) q.first.pos (e ∷ es)
  pub fits : total (e ∷ es) ≤ capacity q.file_len
  pub rising : Rising e es
  pub backs : Backs (capacity q.file_len) q.first.pos e es
  pub seqs : q.format.next_seq ≡ e.seq + suc (length es)
  pub first_len : q.first.len ≡ length e.payload
  pub first-seq : q.first.seq ≡ e.seq
  pub last-place : q.last.pos ≡ last_from q.first.pos e es % capacity q.file_len
  pub last_len : q.last.len ≡ length (last_of e es).payload
  pub last-seq : q.last.seq ≡ (last_of e es).seq

-- they stand in an image that is as long, whatever its generation and its slot
pub laid_with : (img img' : List ℕ) (q : QueueFile) (e : Elem) (es : List Elem) (f : V2Format) → Laid img q e es
    → f.next_seq ≡ q.format.next_seq → f.generation < 2 ^ 63 → length img' ≡ length img
    → Chain img' (capacity q.file_len) q.first.pos (e ∷ es) → Laid img' (with_format q f) e es
laid_with img img' q e es f k s g l c = record {
  lengths = record {
    start = k.lengths.start;
    real = k.lengths.real;
    inside = omega (arith, l, k.lengths.inside);
    small = k.lengths.small;
  };
  numbers = record {
    next_some = omega (arith, s, k.numbers.next_some);
    next_small = omega (arith, s, k.numbers.next_small);
    generation = g;
    count = k.numbers.count;
  };
  first_low = k.first_low;
  last_low = k.last_low;
  count = k.count;
  holds = c;
  fits = k.fits;
  rising = k.rising;
  backs = k.backs;
  seqs = s ∙ k.seqs;
  first_len = k.first_len;
  first-seq = k.first-seq;
  last-place = k.last-place;
  last_len = k.last_len;
  last-seq = k.last-seq;
}

-- ---- used bytes

-- the distance to a place less than a turn further, reduced, is what lies between
pub distance_unrolled : (size p r : ℕ) → p < size → p ≤ r → r < p + size → ring_distance size p (r % size) ≡ r - p
distance_unrolled size p r h a b =
    rw (mod-eq_of_lt {n = p} {m = size} h)
    (mod-add-mod r size (size - p)
    ∙ ap (λ (x : ℕ). x % size) (let t : r + (size - p) ≡ r - p + size = omega arith in t)
    ∙ add-mod_right (r - p) size
    ∙ mod-eq_of_lt {n = r - p} {m = size} (omega arith))

module _ (img : List ℕ) (q : QueueFile) (e : Elem) (es : List Elem) (k : Laid img q e es) where
  abbrev size : ℕ
  size = capacity q.file_len

  abbrev first : ℕ
  first = q.first.pos

  pub used_total : ends_used q ≡ total (e ∷ es) + 8192
  used_total =
      let d : ring_distance size first q.last.pos ≡ last_from first e es - first =
      ap (ring_distance size first) k.last-place
      ∙ distance_unrolled size first (last_from first e es) k.first_low (last-after first e es)
      (omega (arith, last_end first e es, k.fits)) in
      omega (arith, d, k.last_len, last_end first e es, last-after first e es)

  -- ---- its ends' headers

  pub header-first : header_at img q.file_len first ≡ Ok (header_of e)
  header-first = header_there img q.file_len first first e (sym (mod-eq_of_lt {n = first} {m = size} k.first_low)) k.holds.0

  pub header-last : header_at img q.file_len q.last.pos ≡ Ok (header_of (last_of e es))
  header-last =
      header_there img q.file_len (last_from first e es) q.last.pos (last_of e es) k.last-place
      (last-holds es img size first e k.holds)

  -- ---- soundness

  pub laid_some : q.elem_cnt ≡ 0 → ⊥
  laid_some z = omega (arith, k.count)

  ends-sound : sound_ends q ≡ true
  unfolding sound_ends
  ends-sound =
      rw (
        lt-ltb _ _ k.first_low,
        lt-ltb _ _ k.last_low,
        le-leb (element_span q.first.len) size (omega (arith, k.first_len, k.fits)),
        le-leb (element_span q.last.len) size (omega (arith, k.last_len, k.fits, last_end first e es, last-after first e es)),
        le-leb (ends_used q) q.file_len (omega (arith, used_total, k.fits, k.lengths.start)),
      )

  pub laid_sound : sound q (length img) ≡ true
  unfolding sound
  laid_sound = rw (lengths_sound q (length img) k.lengths, numbers_sound q k.numbers, ne_eqb q.elem_cnt 0 laid_some, ends-sound)

  -- ---- the end of last

  pub end-place : end_of_last q ≡ (first + total (e ∷ es)) % size
  end-place =
      rw (k.last-place, k.last_len)
      (mod-add-mod (last_from first e es) size (span (last_of e es)) ∙ ap (λ (x : ℕ). x % size) (last_end first e es))

  -- where it is not behind first the elements turn once; where it is they do not
  pub end_wraps : end_of_last q ≤ first → first + total (e ∷ es) ≡ size + end_of_last q
  end_wraps h = go (dec_lt (first + total (e ∷ es)) size)
    where
      go : Dec (first + total (e ∷ es) < size) → first + total (e ∷ es) ≡ size + end_of_last q
      go (yes y) = absurd (omega (arith, h, end-place, mod-eq_of_lt {n = first + total (e ∷ es)} {m = size} y))
      go (no x) =
          let t : (first + total (e ∷ es)) % size ≡ first + total (e ∷ es) - size =
          turn_high size (first + total (e ∷ es)) (omega (arith, x)) (omega (arith, k.fits, k.first_low)) in
          omega (arith, x, end-place, t)

  pub end-straight : first < end_of_last q → first + total (e ∷ es) < size
  end-straight h = go (dec_lt (first + total (e ∷ es)) size)
    where
      go : Dec (first + total (e ∷ es) < size) → first + total (e ∷ es) < size
      go (yes y) = y
      go (no x) =
          let t : (first + total (e ∷ es)) % size ≡ first + total (e ∷ es) - size =
          turn_high size (first + total (e ∷ es)) (omega (arith, x)) (omega (arith, k.fits, k.first_low)) in
          absurd (omega (arith, h, x, k.fits, end-place, t))
