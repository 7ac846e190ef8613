-- An element that is appended stands where it was written, behind all the others, which stay; in an empty queue it stands alone at the
-- place 0. Assumes nothing.
use mathlib.Core.Path.{◌≡◌, refl, sym, ap, ◌∙◌, subst}
use mathlib.Core.Bool.{Bool, true, false, cond}
use mathlib.Core.List.{List, [], ◌∷◌, ◌++◌, append_assoc}
use Prim.Native.Nat.{ℕ, ◌+◌, ◌%◌, ◌^◌, ◌≤◌, ◌<◌}
use native.Mathlib.Nat.{mod-eq_of_lt, mod-lt, add-zero}
use native.Mathlib.Omega.{arith}
use lib.ListN.{length, take, drop, length-append}
use lib.Seq.{take_at, drop_at, take_all}
use lib.Dec.{eqb}
use borrow.Author.Tests.{eq-eqb, ne_eqb}
use Rattle.ring.specs.Ring.{ring_read, ring_write}
use Rattle.ring.proofs.Writing.{length_write, write_mod, read_within}
use Rattle.format.specs.Element.{element_span, stored_header, parse_header, footer_bytes, check_footer}
use Rattle.format.proofs.ElementLaws.{header_stored, header_parse_encode, length_stored_header, length-footer_bytes, footer_check_encode}
use Rattle.queue.specs.Element.{element, capacity}
use Rattle.queue.specs.declared.state.QueueFile.{QueueFile}
use Rattle.writing.specs.Work.{Work, with_format, with_elements}
use Rattle.writing.specs.Commit.{pointer_to}
use Rattle.writing.specs.Growth.{end_of_last}
use Rattle.writing.specs.Adding.{element_bytes, next_sequence, appended}
use Rattle.writing.proofs.CommitLaws.{pointer_none, pointer-some}
use Rattle.assurance.proofs.Chain.{Elem, total, header_in, Holds, Chain, chain_frame, agree_ahead, rising_last}
use Rattle.assurance.proofs.ChainLists.{total-append, chain_append, rising_snoc, backs_snoc, last_snoc, last_of_snoc}
use Rattle.assurance.proofs.Laid.{Laid, laid_some, end-place}
use Rattle.assurance.proofs.Vacant.{Vacant}
use Rattle.std.specs.Prelude.{Result, Ok}
use Rattle.refusal.specs.declared.Refusal.{Refusal}

-- ---- the element that was written

length-element : (seq link : ℕ) (payload : List ℕ) → length (element_bytes seq link payload) ≡ element_span (length payload)
length-element seq link payload =
    length-append (stored_header seq link (length payload)) (payload ++ footer_bytes seq payload)
    ∙ omega (arith, length_stored_header seq link (length payload), length-append payload (footer_bytes seq payload))

module _ (img : List ℕ) (size w seq back : ℕ) (payload : List ℕ) (long : 8192 + size ≤ length img)
    (fits : element_span (length payload) ≤ size) (pos : 0 < seq) (low : seq < 2 ^ 64) (lowb : back < 2 ^ 64) (short : length payload < 2 ^ 31) where
  abbrev s : List ℕ
  s = element_bytes seq back payload

  abbrev hb : List ℕ
  hb = stored_header seq back (length payload)

  abbrev fb : List ℕ
  fb = footer_bytes seq payload

  header_there :
      header_in size (ring_write 8192 size img w s) w
      ≡ Ok (record { payload_len = length payload; seq = seq; prev_pos = back })
  unfolding header_in
  header_there =
      ap (λ (x : ℕ). parse_header (ring_read 8192 size (ring_write 8192 size img w s) x 28) size) (sym (add-zero w))
      ∙ ap (λ (x : List ℕ). parse_header x size)
      (read_within 8192 size img w s 0 28 long
      (omega (arith, length-element seq back payload)) (omega (arith, length-element seq back payload))
      ∙ take_at hb (payload ++ fb) 28 (length_stored_header seq back (length payload))
      ∙ header_stored seq back (length payload) short)
      ∙ header_parse_encode seq back (length payload) size pos low lowb short fits

  payload_there : ring_read 8192 size (ring_write 8192 size img w s) (w + 28) (length payload) ≡ payload
  payload_there =
      read_within 8192 size img w s 28 (length payload) long
      (omega (arith, length-element seq back payload)) (omega (arith, length-element seq back payload))
      ∙ ap (take (length payload)) (drop_at hb (payload ++ fb) 28 (length_stored_header seq back (length payload)))
      ∙ take_at payload fb (length payload) refl

  footer_there : ring_read 8192 size (ring_write 8192 size img w s) (w + 28 + length payload) 16 ≡ fb
  footer_there =
      ap (λ (x : ℕ). ring_read 8192 size (ring_write 8192 size img w s) x 16)
      (let t : w + 28 + length payload ≡ w + (28 + length payload) = omega arith in t)
      ∙ read_within 8192 size img w s (28 + length payload) 16 long
      (omega (arith, length-element seq back payload)) (omega (arith, length-element seq back payload))
      ∙ ap (λ (x : List ℕ). take 16 (drop (28 + length payload) x)) (sym (append_assoc hb payload fb))
      ∙ ap (take 16)
      (drop_at (hb ++ payload) fb (28 + length payload)
      (length-append hb payload ∙ ap (λ (n : ℕ). n + length payload) (length_stored_header seq back (length payload))))
      ∙ take_all 16 fb (omega (arith, length-footer_bytes seq payload))

  written_holds : Holds (ring_write 8192 size img w s) size w (record { seq = seq; back = back; payload = payload })
  written_holds = record {
    header = header_there;
    payload = payload_there;
    footer = ap (λ (x : List ℕ). check_footer x seq payload) footer_there ∙ footer_check_encode seq payload low;
  }

-- ---- the state that holds it

-- the elements stand in a work's image as its state says
abbrev pub LaidWork : Work → Elem → List Elem → Type 0
LaidWork w e es = Laid w.1 w.0 e es

-- the element that an append adds
abbrev pub new_elem : QueueFile → List ℕ → Elem
new_elem q payload = record { seq = q.format.next_seq; back = pointer_to q.elem_cnt q.last; payload = payload }

-- what an append leaves, where it is told whether the queue was empty
abbrev appended_to : QueueFile → List ℕ → List ℕ → Bool → Work
appended_to q img payload none = (
  with_elements (with_format q (next_sequence q.format)) (q.elem_cnt + 1)
      (cond none (element (cond none 0 (end_of_last q)) (length payload) q.format.next_seq) q.first)
      (element (cond none 0 (end_of_last q)) (length payload) q.format.next_seq),
  ring_write 8192 (capacity q.file_len) img (cond none 0 (end_of_last q))
      (element_bytes q.format.next_seq (pointer_to q.elem_cnt q.last) payload),
)

appended_by : (q : QueueFile) (img payload : List ℕ) (none : Bool) → eqb q.elem_cnt 0 ≡ none
    → appended payload (q, img) ≡ appended_to q img payload none
unfolding appended
appended_by q img payload none e = ap (appended_to q img payload) e

-- behind the others
module _ (img : List ℕ) (q : QueueFile) (e : Elem) (es : List Elem) (payload : List ℕ) (k : Laid img q e es)
    (room : total (e ∷ es) + element_span (length payload) ≤ capacity q.file_len) (short : length payload < 2 ^ 31)
    (count : q.elem_cnt + 1 < 2 ^ 31) (next : q.format.next_seq + 1 < 2 ^ 63) where
  abbrev size : ℕ
  size = capacity q.file_len

  abbrev end : ℕ
  end = q.first.pos + total (e ∷ es)

  abbrev f : Elem
  f = new_elem q payload

  abbrev bytes : List ℕ
  bytes = element_bytes q.format.next_seq (pointer_to q.elem_cnt q.last) payload

  -- it names last
  names_last : pointer_to q.elem_cnt q.last ≡ 8192 + q.last.pos
  names_last = pointer-some q.elem_cnt q.last (laid_some img q e es k)

  abbrev after : Work
  after = (
    with_elements (with_format q (next_sequence q.format)) (q.elem_cnt + 1) q.first
        (element (end_of_last q) (length payload) q.format.next_seq),
    ring_write 8192 size img end bytes,
  )

  appended_there : appended payload (q, img) ≡ after
  appended_there =
      appended_by q img payload false (ne_eqb q.elem_cnt 0 (laid_some img q e es k))
      ∙ ap (λ (i : List ℕ). (after.0, i))
      (ap (λ (x : ℕ). ring_write 8192 size img x bytes) (end-place img q e es k) ∙ write_mod 8192 size img end bytes)

  chain_there : Chain (ring_write 8192 size img end bytes) size q.first.pos (e ∷ (es ++ (f ∷ [])))
  chain_there =
      let l = length-element q.format.next_seq (pointer_to q.elem_cnt q.last) payload in
      chain_append (e ∷ es) (f ∷ []) (ring_write 8192 size img end bytes) size q.first.pos
      (chain_frame (e ∷ es) img (ring_write 8192 size img end bytes) size size q.first.pos (omega arith)
      (agree_ahead img size end bytes q.first.pos (total (e ∷ es)) (omega arith) (omega (arith, l, room))) k.holds) (
        written_holds img size end q.format.next_seq (pointer_to q.elem_cnt q.last) payload
            (omega (arith, k.lengths.start, k.lengths.real, k.lengths.inside))
            (omega (arith, room))
            k.numbers.next_some
            (omega (arith, next))
            (omega (arith, names_last, k.last_low, k.lengths.real, k.lengths.small))
            short,
        tt,
      )

  after_laid : LaidWork after e (es ++ (f ∷ []))
  after_laid =
      let n : length (es ++ (f ∷ [])) ≡ length es + 1 = length-append es (f ∷ []) in
      record {
        lengths = record {
          start = k.lengths.start;
          real = k.lengths.real;
          inside = omega (arith, k.lengths.inside, length_write 8192 size img end bytes);
          small = k.lengths.small;
        };
        numbers = record { next_some = omega arith; next_small = next; generation = k.numbers.generation; count = count };
        first_low = k.first_low;
        last_low = mod-lt _ (omega (arith, k.first_low));
        count = omega (arith, n, k.count);
        holds = chain_there;
        fits = omega (arith, total-append es (f ∷ []), room);
        rising = rising_snoc e es f k.rising (k.seqs ∙ omega (arith, rising_last e es k.rising));
        backs = backs_snoc size q.first.pos e es f k.backs (names_last ∙ ap (λ (x : ℕ). 8192 + x) k.last-place);
        seqs = omega (arith, n, k.seqs);
        first_len = k.first_len;
        first-seq = k.first-seq;
        last-place = end-place img q e es k ∙ ap (λ (x : ℕ). x % size) (sym (last_snoc q.first.pos e es f));
        last_len = ap (λ (x : Elem). length x.payload) (sym (last_of_snoc e es f));
        last-seq = ap (λ (x : Elem). x.seq) (sym (last_of_snoc e es f));
      }

  pub appended_laid : LaidWork (appended payload (q, img)) e (es ++ (f ∷ []))
  appended_laid = subst (λ (w : Work). LaidWork w e (es ++ (f ∷ []))) (sym appended_there) after_laid

-- alone
module _ (img : List ℕ) (q : QueueFile) (payload : List ℕ) (v : Vacant q (length img))
    (room : element_span (length payload) ≤ capacity q.file_len) (short : length payload < 2 ^ 31)
    (next : q.format.next_seq + 1 < 2 ^ 63) where
  abbrev ring : ℕ
  ring = capacity q.file_len

  abbrev new : Elem
  new = new_elem q payload

  abbrev stored : List ℕ
  stored = element_bytes q.format.next_seq (pointer_to q.elem_cnt q.last) payload

  -- it names nothing
  names_nothing : pointer_to q.elem_cnt q.last ≡ 0
  names_nothing = pointer_none q.elem_cnt q.last v.none

  alone_laid : LaidWork (appended_to q img payload true) new []
  alone_laid = record {
    lengths = record {
      start = v.lengths.start;
      real = v.lengths.real;
      inside = omega (arith, v.lengths.inside, length_write 8192 ring img 0 stored);
      small = v.lengths.small;
    };
    numbers = record {
      next_some = omega arith;
      next_small = next;
      generation = v.numbers.generation;
      count = omega (arith, v.none);
    };
    first_low = omega (arith, room);
    last_low = omega (arith, room);
    count = omega (arith, v.none);
    holds = (
      written_holds img ring 0 q.format.next_seq (pointer_to q.elem_cnt q.last) payload
          (omega (arith, v.lengths.start, v.lengths.real, v.lengths.inside))
          room
          v.numbers.next_some
          (omega (arith, next))
          (omega (arith, names_nothing))
          short,
      tt,
    );
    fits = omega (arith, room);
    rising = tt;
    backs = tt;
    seqs = omega arith;
    first_len = refl;
    first-seq = refl;
    last-place = sym (mod-eq_of_lt {n = 0} {m = ring} (omega (arith, room)));
    last_len = refl;
    last-seq = refl;
  }

  pub started_laid : LaidWork (appended payload (q, img)) new []
  started_laid =
      subst (λ (w : Work). LaidWork w new []) (sym (appended_by q img payload true (eq-eqb q.elem_cnt 0 v.none))) alone_laid
