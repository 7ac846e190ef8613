-- Growth keeps what a queue holds: a state and an image with the elements e and es have, once grown, the same ones, on the straight line
-- that they were on, with the backlinks that `grown_link` tells. Assumes nothing.
use mathlib.Core.Path.{◌≡◌, refl, sym, ap, ◌∙◌, subst}
use mathlib.Core.Bool.{Bool, true, false, cond}
use mathlib.Core.List.{List, ◌∷◌}
use Prim.Native.Nat.{ℕ, suc, ◌+◌, ◌-◌, ◌%◌, ◌^◌, ◌≤◌, ◌<◌}
use native.Mathlib.Nat.{mod-eq_of_lt}
use native.Mathlib.Decide.{dec_lt}
use native.Mathlib.Omega.{arith}
use lib.ListN.{length, replicate, length-replicate}
use lib.Seq.{length-sets}
use lib.Dec.{ltb}
use borrow.Author.Tests.{lt-ltb, le-ltb, leb-false, ne_eqb, ltb-true}
use Rattle.wire.specs.Wire.{put_at}
use Rattle.ring.specs.Ring.{ring_write, relocated}
use Rattle.ring.proofs.Places.{turn_high}
use Rattle.ring.proofs.Writing.{write_straight}
use Rattle.ring.proofs.Relocating.{length-relocated}
use Rattle.format.specs.declared.state.V2Format.{V2Format}
use Rattle.queue.specs.Element.{element, capacity}
use Rattle.queue.specs.declared.state.QueueFile.{QueueFile}
use Rattle.writing.specs.Work.{Work, with_length}
use Rattle.writing.specs.Commit.{slot_stored, next_format, next_state, committed}
use Rattle.writing.specs.Growth.{end_of_last, wrapped}
use Rattle.writing.specs.Expansion.{lengthened, relink_from, last_placed, start_zeroed, laid_straight, expanded, grown, Expands}
use Rattle.writing.proofs.Choices.{either}
use Rattle.writing.proofs.StateLaws.{wrapped-end}
use Rattle.assurance.specs.Growth.{moves, grown_place}
use Rattle.assurance.proofs.Chain.{Elem, total, last_from, Backs, Chain, Agree, chain_frame, agree_behind, agree_past, last_end, last-after}
use Rattle.assurance.proofs.Laid.{Laid, laid_some, end_wraps, end-straight}
use Rattle.assurance.proofs.CommitLaid.{agree_stored}
use Rattle.assurance.proofs.GrownState.{commits_at, grown_state_lem, length-grown}
use Rattle.assurance.proofs.Relinking.{grown_elem, grown_elems, grown-length, grown-total, grown_rising, grown-last, grown-from, grown_same, rising_small, agree_straight, agree_moved, straight_backs, backs_move, walk_chain}

-- ---- steps that leave a chain

-- a commit stores before the ring
committed_chain : (w : Work) (size p : ℕ) (es : List Elem) → Chain w.1 size p es → Chain (committed w).1 size p es
unfolding committed
committed_chain w size p es c =
    chain_frame es w.1 (slot_stored (next_state w.0) w.1) size size p (omega arith) (agree_stored (next_state w.0) w.1 size p (total es)) c

placed_chain : (old : ℕ) (w : Work) (size p : ℕ) (es : List Elem) → Chain w.1 size p es → Chain (last_placed old w).1 size p es
unfolding last_placed
placed_chain old w size p es c =
    let Here : Work → Type 0 = λ v. Chain v.1 size p es in
    either Here (ltb w.0.last.pos w.0.first.pos) _ _
    (λ _. either Here w.0.settings.overwrite_on_remove _ _ (λ _. committed_chain _ size p es c) c)
    c

-- zeros before a chain that ends within the ring
zeroed_chain : (end : ℕ) (w : Work) (size p : ℕ) (es : List Elem) → end ≤ p → p < size → p + total es ≤ size
    → Chain w.1 size p es → Chain (start_zeroed end w).1 size p es
unfolding start_zeroed
zeroed_chain end w size p es h f l c =
    let z : List ℕ = replicate end 0 in
    let r : length z ≡ end = length-replicate {A = ℕ} end 0 in
    either (λ (v : Work). Chain v.1 size p es) w.0.settings.overwrite_on_remove _ _
    (λ _. subst (λ (i : List ℕ). Chain i size p es) (write_straight 8192 size w.1 0 z (omega (arith, r, h, f)))
    (chain_frame es w.1 (ring_write 8192 size w.1 0 z) size size p (omega arith)
    (agree_behind w.1 size 0 z p (total es) (omega (arith, r, h)) (omega (arith, l))) c))
    c

-- ---- a file that gets longer

-- where elements do not wrap, and there are some, the end of last is behind first
pub not_wrapped : (img : List ℕ) (q : QueueFile) (e : Elem) (es : List Elem) → Laid img q e es → wrapped q ≡ false → q.first.pos < end_of_last q
unfolding wrapped
not_wrapped img q e es k w = leb-false (end_of_last q) q.first.pos (rw (ne_eqb q.elem_cnt 0 (laid_some img q e es k)) at w)

module _ (img : List ℕ) (q : QueueFile) (e : Elem) (es : List Elem) (n : ℕ) (k : Laid img q e es) (h : q.file_len < n)
    (x : Expands q (length img) n) (room : commits_at q n ≡ true → q.format.generation + 1 < 2 ^ 63) where
  abbrev old : ℕ
  old = q.file_len

  abbrev size : ℕ
  size = capacity old

  abbrev new : ℕ
  new = capacity n

  abbrev first : ℕ
  first = q.first.pos

  abbrev at : ℕ
  at = last_from first e es

  is_longer : ltb old n ≡ true
  is_longer = lt-ltb old n h

  larger : size + size + 8192 ≤ new
  larger = omega (arith, x.twice, k.lengths.start)

  -- the state, once its last stands at its unrolled place
  abbrev after : V2Format → QueueFile
  after f =
      record {
        file_len = n;
        real_len = n;
        format = f;
        elem_cnt = q.elem_cnt;
        first = q.first;
        last = element at q.last.len q.last.seq;
        settings = q.settings;
      }

  abbrev format : V2Format
  format = cond (commits_at q n) (next_format q.format) q.format

  is_after : grown_place q n q.last.pos ≡ at → (grown n (q, img)).0 ≡ after format
  is_after p = grown_state_lem q img n ∙ rw (p, is_longer)

  next_same : format.next_seq ≡ q.format.next_seq
  next_same = either (λ (f : V2Format). f.next_seq ≡ q.format.next_seq) (commits_at q n) _ _ (λ _. refl) refl

  generation-small : format.generation < 2 ^ 63
  generation-small =
      either (λ (f : V2Format). f.generation < 2 ^ 63) (commits_at q n) (next_format q.format) q.format room k.numbers.generation

  -- with a chain of the elements that ends within the longer ring, and their backlinks
  after_laid : (i : List ℕ) → length i ≡ length img → first + total (e ∷ es) ≤ new → Chain i new first (grown_elems q n (e ∷ es))
      → Backs new first (grown_elem q n e) (grown_elems q n es) → Laid i (after format) (grown_elem q n e) (grown_elems q n es)
  after_laid i l f c b = record {
    lengths = record { start = omega (arith, h, k.lengths.start); real = omega arith; inside = omega (arith, l, x.inside); small = x.small };
    numbers =
        record {
          next_some = omega (arith, next_same, k.numbers.next_some);
          next_small = omega (arith, next_same, k.numbers.next_small);
          generation = generation-small;
          count = k.numbers.count;
        };
    first_low = omega (arith, k.first_low, larger);
    last_low = omega (arith, last_end first e es, f);
    count = k.count ∙ ap suc (sym (grown-length q n es));
    holds = c;
    fits = omega (arith, grown-total q n es, f);
    rising = grown_rising q n e es k.rising;
    backs = b;
    seqs = next_same ∙ k.seqs ∙ ap (λ (m : ℕ). e.seq + suc m) (sym (grown-length q n es));
    first_len = k.first_len;
    first-seq = k.first-seq;
    last-place =
        sym (mod-eq_of_lt {n = at} {m = new} (omega (arith, last_end first e es, f)))
        ∙ ap (λ (m : ℕ). m % new) (sym (grown-from q n first e es));
    last_len = k.last_len ∙ ap (λ (d : Elem). length d.payload) (sym (grown-last q n e es));
    last-seq = k.last-seq ∙ ap (λ (d : Elem). d.seq) (sym (grown-last q n e es));
  }

  -- and so for what growth leaves
  grown-after : grown_place q n q.last.pos ≡ at → first + total (e ∷ es) ≤ new → Chain (grown n (q, img)).1 new first (grown_elems q n (e ∷ es))
      → Backs new first (grown_elem q n e) (grown_elems q n es)
      → Laid (grown n (q, img)).1 (grown n (q, img)).0 (grown_elem q n e) (grown_elems q n es)
  grown-after p f c b =
      subst (λ (s : QueueFile). Laid (grown n (q, img)).1 s (grown_elem q n e) (grown_elems q n es)) (sym (is_after p))
      (after_laid (grown n (q, img)).1 (length-grown q img n) f c b)

  -- ---- the zeros behind the file

  abbrev longer : List ℕ
  longer = put_at img q.real_len (replicate (n - q.real_len) 0)

  longer-length : length longer ≡ length img
  longer-length = length-sets img q.real_len (replicate (n - q.real_len) 0)

  longer_chain : Chain longer size first (e ∷ es)
  longer_chain =
      chain_frame (e ∷ es) img longer size size first (omega arith)
      (agree_past img size q.real_len (replicate (n - q.real_len) 0) first (total (e ∷ es)) (omega (arith, k.first_low))
      (omega (arith, k.lengths.start, k.lengths.real)))
      k.holds

  -- ---- elements that do not wrap

  module _ (w : wrapped q ≡ false) where
    stay : moves q n ≡ false
    stay = rw (is_longer, w)

    ends : first + total (e ∷ es) < size
    ends = end-straight img q e es k (not_wrapped img q e es k w)

    straight-image : (grown n (q, img)).1 ≡ longer
    unfolding grown expanded lengthened
    straight-image = rw (is_longer, w)

    straight-place : grown_place q n q.last.pos ≡ at
    straight-place = rw (stay) (k.last-place ∙ mod-eq_of_lt {n = at} {m = size} (omega (arith, ends, last_end first e es)))

    straight_laid : Laid (grown n (q, img)).1 (grown n (q, img)).0 (grown_elem q n e) (grown_elems q n es)
    straight_laid =
        grown-after straight-place (omega (arith, ends, larger))
        (subst (λ (i : List ℕ). Chain i new first (grown_elems q n (e ∷ es))) (sym straight-image)
        (subst (Chain longer new first) (sym (grown_same q n (e ∷ es) stay))
        (chain_frame (e ∷ es) longer longer size new first (omega (arith, larger))
        (agree_straight longer size new first (total (e ∷ es)) (omega (arith, larger)) (omega (arith, ends))) longer_chain)))
        (rw (grown_same q n es stay, stay) (straight_backs size new first e es (omega (arith, ends)) (omega (arith, larger)) k.backs))

  -- ---- elements that wrap

  module _ (w : wrapped q ≡ true) where
    abbrev end : ℕ
    end = end_of_last q

    move : moves q n ≡ true
    move = rw (is_longer, w)

    end_low : end ≤ first
    end_low = wrapped-end q w

    sum : first + total (e ∷ es) ≡ size + end
    sum = end_wraps img q e es k end_low

    abbrev copied : List ℕ
    copied = relocated 8192 longer old end

    copied_chain : Chain copied new first (e ∷ es)
    copied_chain =
        let o : 8192 + size ≡ old = omega (arith, k.lengths.start) in
        chain_frame (e ∷ es) longer copied size new first (omega (arith, larger))
        (subst (λ (b : ℕ). Agree longer size (relocated 8192 longer b end) new first (total (e ∷ es))) o
        (agree_moved longer size end new first (total (e ∷ es)) (omega (arith, end_low, k.first_low)) (omega (arith, end_low, k.first_low, larger))
        (omega (arith, longer-length, end_low, k.first_low, larger, x.inside)) (omega (arith, sum))))
        longer_chain

    abbrev relinked : List ℕ
    relinked = relink_from n old end q.elem_cnt copied first

    relinked_chain : Chain relinked new first (grown_elems q n (e ∷ es))
    relinked_chain =
        subst (λ (p : ℕ). Chain (relink_from n old end q.elem_cnt copied p) new first (grown_elems q n (e ∷ es)))
        (mod-eq_of_lt {n = first} {m = new} (omega (arith, k.first_low, larger)))
        (subst (λ (c : ℕ). Chain (relink_from n old end c copied (first % new)) new first (grown_elems q n (e ∷ es))) (sym k.count)
        (walk_chain q n move (omega (arith, end_low, k.first_low, k.lengths.real, k.lengths.small)) (e ∷ es) copied first
        (omega (arith, sum, end_low, k.first_low, larger))
        (omega (arith, length-relocated 8192 longer old end, longer-length, x.inside, larger))
        (rising_small e es k.rising (omega (arith, k.seqs, k.numbers.next_small)))
        copied_chain))

    wrapped-image : (grown n (q, img)).1 ≡ (start_zeroed end (last_placed old (with_length q n, relinked))).1
    unfolding grown expanded lengthened laid_straight
    wrapped-image = rw (is_longer, w)

    wrapped-place : grown_place q n q.last.pos ≡ at
    wrapped-place = rw (move) (go (dec_lt at size))
      where
        go : Dec (at < size) → cond (ltb q.last.pos first) (q.last.pos + size) q.last.pos ≡ at
        go (yes y) =
            let i : q.last.pos ≡ at = k.last-place ∙ mod-eq_of_lt {n = at} {m = size} y in
            rw (le-ltb q.last.pos first (omega (arith, i, last-after first e es))) i
        go (no z) =
            let i : q.last.pos ≡ at - size =
            k.last-place ∙ turn_high size at (omega (arith, z)) (omega (arith, last_end first e es, sum, end_low, k.first_low)) in
            rw (lt-ltb q.last.pos first (omega (arith, i, z, last_end first e es, sum, end_low))) (omega (arith, i, z))

    wrapped_laid : Laid (grown n (q, img)).1 (grown n (q, img)).0 (grown_elem q n e) (grown_elems q n es)
    wrapped_laid =
        grown-after wrapped-place (omega (arith, sum, end_low, k.first_low, larger))
        (subst (λ (i : List ℕ). Chain i new first (grown_elems q n (e ∷ es))) (sym wrapped-image)
        (zeroed_chain end (last_placed old (with_length q n, relinked)) new first (grown_elems q n (e ∷ es)) end_low (omega (arith, k.first_low, larger))
        (omega (arith, grown-total q n es, sum, end_low, k.first_low, larger))
        (placed_chain old (with_length q n, relinked) new first (grown_elems q n (e ∷ es)) relinked_chain)))
        (backs_move q n move first e es end_low (omega (arith, sum)) (omega (arith, end_low, k.first_low))
        (omega (arith, end_low, k.first_low, larger)) k.backs)

-- ---- all cases

module _ (img : List ℕ) (q : QueueFile) (e : Elem) (es : List Elem) (n : ℕ) (k : Laid img q e es)
    (x : q.file_len < n → Expands q (length img) n) (room : commits_at q n ≡ true → q.format.generation + 1 < 2 ^ 63) where
  no_longer : ltb q.file_len n ≡ false → grown n (q, img) ≡ (q, img)
  unfolding grown
  no_longer l = rw (l)

  pub grown_laid : Laid (grown n (q, img)).1 (grown n (q, img)).0 (grown_elem q n e) (grown_elems q n es)
  grown_laid = go (ltb q.file_len n) (wrapped q) refl refl
    where
      go : (longer wraps : Bool) → ltb q.file_len n ≡ longer → wrapped q ≡ wraps
          → Laid (grown n (q, img)).1 (grown n (q, img)).0 (grown_elem q n e) (grown_elems q n es)
      go false b l w =
          let m : moves q n ≡ false = rw (l) in
          rw (no_longer l, grown_same q n es m, m) k
      go true false l w = straight_laid img q e es n k (ltb-true _ _ l) (x (ltb-true _ _ l)) room w
      go true true l w = wrapped_laid img q e es n k (ltb-true _ _ l) (x (ltb-true _ _ l)) room w
