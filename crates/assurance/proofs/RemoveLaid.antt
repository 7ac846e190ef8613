-- Remove goes on by n elements, and the queue from there on is laid as before: the elements before it are out of the count, and zeroing
-- their bytes touches none that is left. Assumes nothing.
use mathlib.Core.Path.{◌≡◌, refl, sym, ap, ◌∙◌, subst}
use mathlib.Core.List.{List, [], ◌∷◌}
use Prim.Native.Nat.{ℕ, zero, suc, ◌+◌, ◌-◌, ◌%◌, ◌^◌, ◌≤◌, ◌<◌}
use native.Mathlib.Nat.{mod-eq_of_lt, mod-lt, mod-mod, mod-add-mod, add-zero, add_assoc, sub-zero}
use native.Mathlib.Omega.{arith}
use lib.ListN.{take, drop, replicate, length-replicate, take-append-drop}
use Rattle.ring.specs.Ring.{ring_distance, ring_erase}
use Rattle.ring.proofs.Writing.{length_write}
use Rattle.refusal.specs.Answer.{on_ok}
use Rattle.queue.specs.Element.{element_here, capacity, header_at}
use Rattle.queue.specs.declared.element.Element.{Element}
use Rattle.queue.specs.declared.state.QueueFile.{QueueFile}
use Rattle.writing.specs.Work.{Work, with_elements}
use Rattle.writing.specs.Commit.{committed}
use Rattle.writing.specs.Growth.{behind}
use Rattle.writing.specs.Removal.{skip_from, dropped, removed_zeroed}
use Rattle.writing.proofs.Choices.{either}
use Rattle.assurance.proofs.Chain.{Elem, span, total, header_of, header_there, chain_frame, agree_behind}
use Rattle.assurance.proofs.ChainLists.{total-append, chain_same, backs_same, last_same}
use Rattle.assurance.proofs.Laid.{Laid, laid_with, distance_unrolled}
use Rattle.assurance.proofs.CommitLaid.{committed_laid}
use Rattle.assurance.proofs.AppendLaid.{LaidWork}
use Rattle.std.specs.Prelude.{Result, Ok, Err}
use Rattle.refusal.specs.declared.Refusal.{Refusal}
use Rattle.format.specs.declared.element.V2ElementHeader.{V2ElementHeader}

-- ---- one element on

module _ (img : List ℕ) (q : QueueFile) (e f : Elem) (es : List Elem) (k : Laid img q e (f ∷ es)) where
  abbrev size : ℕ
  size = capacity q.file_len

  -- the element behind first
  abbrev second : Element
  second = element_here (behind q.file_len q.first) (header_of f)

  second-place : second.pos ≡ (q.first.pos + span e) % size
  second-place = rw k.first_len

  second-header : header_at img q.file_len second.pos ≡ Ok (header_of f)
  second-header = header_there img q.file_len (q.first.pos + span e) second.pos f second-place k.holds.1.0

  skip_on : (n : ℕ) → skip_from img q.file_len (suc n) q.first ≡ skip_from img q.file_len n second
  unfolding skip_from
  skip_on n =
      ap (λ (h : Result V2ElementHeader Refusal). on_ok Err h (λ x. skip_from img q.file_len n (element_here second.pos x)))
      second-header

  dropped_laid : Laid img (dropped q 1 second) f es
  dropped_laid =
      let s : (q.first.pos + span e) % size ≡ second.pos % size =
      sym (mod-mod (q.first.pos + span e) size) ∙ ap (λ (x : ℕ). x % size) (sym second-place) in
      record {
        lengths = record { start = k.lengths.start; real = k.lengths.real; inside = k.lengths.inside; small = k.lengths.small };
        numbers = record {
          next_some = k.numbers.next_some;
          next_small = k.numbers.next_small;
          generation = k.numbers.generation;
          count = omega (arith, k.numbers.count);
        };
        first_low = mod-lt _ (omega (arith, k.first_low));
        last_low = k.last_low;
        count = omega (arith, k.count);
        holds = chain_same (f ∷ es) img size (q.first.pos + span e) second.pos s k.holds.1;
        fits = omega (arith, k.fits);
        rising = k.rising.1;
        backs = backs_same size (q.first.pos + span e) second.pos f es s k.backs.1;
        seqs = k.seqs ∙ omega (arith, k.rising.0);
        first_len = refl;
        first-seq = refl;
        last-place = k.last-place ∙ last_same size (q.first.pos + span e) second.pos f es s;
        last_len = k.last_len;
        last-seq = k.last-seq;
      }

-- ---- n elements on

-- the walk's answer, which is the first of those that are left
pub record Skip (img : List ℕ) (q : QueueFile) (e : Elem) (es : List Elem) (n : ℕ) : Type 0 where
  pub to : Element
  pub f : Elem
  pub fs : List Elem
  pub walked : skip_from img q.file_len n q.first ≡ Ok to
  pub rest : drop n (e ∷ es) ≡ f ∷ fs
  pub place : to.pos ≡ (q.first.pos + total (take n (e ∷ es))) % capacity q.file_len
  pub laid : Laid img (dropped q n to) f fs

pub skip_laid : (n : ℕ) (img : List ℕ) (q : QueueFile) (e : Elem) (es : List Elem) → Laid img q e es → n < q.elem_cnt → Skip img q e es n
unfolding skip_from
skip_laid zero img q e es k h = record {
  to = q.first;
  f = e;
  fs = es;
  walked = refl;
  rest = refl;
  place = sym (rw (add-zero q.first.pos) (mod-eq_of_lt {n = q.first.pos} {m = capacity q.file_len} k.first_low));
  laid = subst (λ (c : ℕ). Laid img (with_elements q c q.first q.last) e es) (sym (sub-zero q.elem_cnt)) k;
}
skip_laid (suc n) img q e [] k h = absurd (omega (arith, k.count))
skip_laid (suc n) img q e (f ∷ es) k h =
    let r = skip_laid n img (dropped q 1 (second img q e f es k)) f es (dropped_laid img q e f es k) (omega arith) in
    let past = total (take n (f ∷ es)) in
    record {
      to = r.to;
      f = r.f;
      fs = r.fs;
      walked = skip_on img q e f es k n ∙ r.walked;
      rest = r.rest;
      place =
          r.place
          ∙ ap (λ (x : ℕ). (x + past) % capacity q.file_len) (second-place img q e f es k)
          ∙ mod-add-mod (q.first.pos + span e) (capacity q.file_len) past
          ∙ ap (λ (x : ℕ). x % capacity q.file_len) (add_assoc q.first.pos (span e) past);
      laid =
          subst (λ (c : ℕ). Laid img (with_elements q c r.to q.last) r.f r.fs)
          (let t : q.elem_cnt - 1 - n ≡ q.elem_cnt - suc n = omega arith in t) r.laid;
    }

-- ---- their bytes become zero

-- the d bytes before first, which are none of the elements'
module _ (img : List ℕ) (q : QueueFile) (e : Elem) (es : List Elem) (from d : ℕ) (k : Laid img q e es)
    (there : (from + d) % capacity q.file_len ≡ q.first.pos) (room : d + total (e ∷ es) ≤ capacity q.file_len) where
  abbrev ring : ℕ
  ring = capacity q.file_len

  abbrev zeroed : List ℕ
  zeroed = ring_erase 8192 ring img from d

  same : (from + d) % ring ≡ q.first.pos % ring
  same = there ∙ sym (mod-eq_of_lt {n = q.first.pos} {m = ring} k.first_low)

  erased_laid : Laid zeroed q e es
  erased_laid =
      let l = length-replicate {A = ℕ} d 0 in
      laid_with img zeroed q e es q.format k refl k.numbers.generation (length_write 8192 ring img from (replicate d 0))
      (chain_same (e ∷ es) zeroed ring (from + d) q.first.pos same
      (chain_frame (e ∷ es) img zeroed ring ring (from + d) (omega arith)
      (agree_behind img ring from (replicate d 0) (from + d) (total (e ∷ es)) (omega (arith, l)) (omega (arith, room)))
      (chain_same (e ∷ es) img ring q.first.pos (from + d) (sym same) k.holds)))

-- the state stays
pub zeroed_state : (from to : ℕ) (w : Work) → (removed_zeroed from to w).0 ≡ w.0
unfolding removed_zeroed
zeroed_state from to w = either (λ (v : Work). v.0 ≡ w.0) w.0.settings.overwrite_on_remove _ _ (λ _. refl) refl

-- ---- both, with the commit between

module _ (img : List ℕ) (q : QueueFile) (e : Elem) (es : List Elem) (n : ℕ) (k : Laid img q e es) (r : Skip img q e es n)
    (g : q.format.generation + 1 < 2 ^ 63) where
  abbrev past : ℕ
  past = total (take n (e ∷ es))

  past_rest : past + total (r.f ∷ r.fs) ≡ total (e ∷ es)
  past_rest =
      ap (λ (l : List Elem). past + total l) (sym r.rest)
      ∙ sym (total-append (take n (e ∷ es)) (drop n (e ∷ es)))
      ∙ ap total (take-append-drop n (e ∷ es))

  next_laid : LaidWork (committed (dropped q n r.to, img)) r.f r.fs
  next_laid = committed_laid img (dropped q n r.to) r.f r.fs r.laid g

  pub removed_laid : LaidWork (removed_zeroed q.first.pos r.to.pos (committed (dropped q n r.to, img))) r.f r.fs
  unfolding removed_zeroed committed
  removed_laid =
      let size = capacity q.file_len in
      let d : ring_distance size q.first.pos r.to.pos ≡ past =
      ap (ring_distance size q.first.pos) r.place
      ∙ distance_unrolled size q.first.pos (q.first.pos + past) k.first_low (omega arith) (omega (arith, past_rest, k.fits))
      ∙ omega arith in
      either (λ (w : Work). LaidWork w r.f r.fs) q.settings.overwrite_on_remove _ _
      (λ _. erased_laid _ _ r.f r.fs q.first.pos (ring_distance size q.first.pos r.to.pos) next_laid
      (rw d (sym r.place))
      (omega (arith, d, past_rest, k.fits)))
      next_laid
