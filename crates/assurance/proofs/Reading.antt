-- Peek and iteration read the elements where they stand. Assumes nothing.
use mathlib.Core.Path.{◌≡◌, refl, sym, ap, subst, ◌∙◌}
use mathlib.Core.Bool.{Bool}
use mathlib.Core.List.{List, [], ◌∷◌}
use Prim.Native.Nat.{ℕ, zero, suc, ◌+◌, ◌-◌, ◌%◌, ◌≤◌, ◌<◌}
use native.Mathlib.Nat.{mod-eq_of_lt, mod-lt, mod-add-mod}
use native.Mathlib.Omega.{arith}
use lib.ListN.{length}
use lib.Seq.{length-sets}
use denote.Ref.{Bor}
use borrow.Author.Tests.{le-leb, lt-leb, lt-ltb, ne_eqb}
use Rattle.refusal.proofs.Laws.{pass}
use Rattle.wire.specs.Wire.{bytes_at, put_at}
use Rattle.wire.proofs.Stores.{bytes_at-put_at}
use Rattle.ring.specs.Ring.{ring_read}
use Rattle.ring.proofs.Reading.{length_read}
use Rattle.refusal.specs.Answer.{on_ok, on_verdict}
use Rattle.queue.specs.Element.{capacity, element_here, payload_at, footer_verdict}
use Rattle.queue.specs.State.{sound}
use Rattle.queue.specs.Peek.{fit_peek, check_peek, judge_peek}
use Rattle.queue.specs.Iter.{cursor_at, start_of, step_here, step_on, judge_step, stepped_output, cursor_after}
use Rattle.queue.specs.declared.state.QueueFile.{QueueFile}
use Rattle.queue.specs.declared.iter.Cursor.{Cursor}
use Rattle.queue.specs.declared.iter.Iter.{Iter}
use Rattle.queue.specs.declared.iter.Step.{Step}
use Rattle.queue.proofs.IterLaws.{step_known}
use Rattle.writing.proofs.Choices.{chosen, left_out}
use Rattle.assurance.specs.Held.{sequences_of}
use Rattle.assurance.specs.Reading.{up_from, LinkedIsOneRun, first_payload, PeekGivesFirst, handed_step, handed, IterationGivesAll, read_step, read_by, ReaderGivesAll}
use Rattle.assurance.proofs.Chain.{Elem, header_of, span, total, Holds, Chain, Rising, header_there}
use Rattle.assurance.proofs.Laid.{Laid, laid_sound, laid_some}
use Rattle.assurance.proofs.TrailWalk.{payload_there, footer_there}
use Rattle.assurance.proofs.Bridge.{linked_laid, held_all, laid_elements}
use Rattle.std.specs.Prelude.{Result, Ok, Err, Option, Some, None}
use Rattle.refusal.specs.declared.Refusal.{Refusal}
use Rattle.format.specs.declared.element.V2ElementHeader.{V2ElementHeader}

-- ---- one run

rising_up : (es : List Elem) (size p : ℕ) (e : Elem) → Rising e es → sequences_of (held_all size p (e ∷ es)) ≡ up_from e.seq (suc (length es))
rising_up [] size p e r = refl
rising_up (f ∷ es) size p e r =
    ap (λ (l : List ℕ). e.seq ∷ l) (rising_up es size (p + span e) f r.1 ∙ ap (λ (s : ℕ). up_from s (suc (length es))) r.0)

pub linked_is_one-run : LinkedIsOneRun
linked_is_one-run img q w =
    let u = linked_laid img q w in
    let k = u.laid in
    let s : u.e.seq ≡ q.format.next_seq - q.elem_cnt = omega (arith, k.seqs, k.count) in
    ap sequences_of (laid_elements img q u.e u.es k)
    ∙ rising_up u.es (capacity q.file_len) q.first.pos u.e k.rising
    ∙ ap (λ (x : ℕ). up_from x (suc (length u.es))) s
    ∙ ap (up_from (q.format.next_seq - q.elem_cnt)) (sym k.count)

-- ---- peek

module _ (img : List ℕ) (q : QueueFile) (e : Elem) (es : List Elem) (k : Laid img q e es) where
  first_known : q.first ≡ element_here q.first.pos (header_of e)
  first_known = rw (← k.first_len, ← k.first-seq)

  -- its place is reduced
  first-place : q.first.pos ≡ q.first.pos % capacity q.file_len
  first-place = sym (mod-eq_of_lt {n = q.first.pos} {m = capacity q.file_len} k.first_low)

  peeked : (room : ℕ) → q.first.len ≤ room → judge_peek q img room ≡ Ok (Some q.first.len)
  unfolding judge_peek fit_peek
  peeked room l =
      let fits : fit_peek q (length img) room ≡ Ok (Some q.first.len) =
      pass _ _ _ (laid_sound img q e es k)
      ∙ sym (left_out _ _ _ (ne_eqb q.elem_cnt 0 (laid_some img q e es k)))
      ∙ pass _ _ _ (le-leb q.first.len room l) in
      let foot : footer_verdict img q.file_len q.first ≡ (Ok tt) =
      ap (footer_verdict img q.file_len) first_known
      ∙ footer_there img q.file_len q.first.pos q.first.pos e first-place k.holds.0 in
      ap (check_peek img q) fits ∙ ap (λ (v : Result (Unit {0}) Refusal). on_verdict Err v (Ok (Some q.first.len))) foot

pub peek_gives_first : PeekGivesFirst
peek_gives_first img q room w l =
    let u = linked_laid img q w in
    let k = u.laid in (
      peeked img q u.e u.es k room l,
      ap (payload_at img q.file_len) (first_known img q u.e u.es k)
          ∙ payload_there img q.file_len q.first.pos q.first.pos u.e (first-place img q u.e u.es k) k.holds.0
          ∙ ap first_payload (sym (laid_elements img q u.e u.es k)),
    )

-- ---- iteration

module _ (img : List ℕ) (q : QueueFile) (room : ℕ) (ok : sound q (length img) ≡ Bool.true) (wide : capacity q.file_len ≤ room)
    (ring : 0 < capacity q.file_len) where
  abbrev size : ℕ
  size = capacity q.file_len

  one : (index p : ℕ) (e : Elem) → Holds img size p e → span e ≤ size → index < q.elem_cnt
      → judge_step q img (cursor_at index (p % size)) room ≡ Ok (Some (step_here q.file_len (cursor_at index (p % size)) (header_of e)))
  unfolding judge_step
  one index p e h l i =
      let low : p % size < size = mod-lt p ring in
      pass _ _ _ ok
      ∙ sym (left_out _ _ _ (lt-leb q.elem_cnt index i))
      ∙ pass _ _ _ (lt-ltb (p % size) size low)
      ∙ ap (λ (d : Result V2ElementHeader Refusal). on_ok Err d (step_on img q.file_len (cursor_at index (p % size)) room))
      (header_there img q.file_len p (p % size) e refl h)
      ∙ pass _ _ _ (le-leb (length e.payload) room (omega arith))
      ∙ ap (λ (v : Result (Unit {0}) Refusal). on_verdict Err v (Ok (Some (step_here q.file_len (cursor_at index (p % size)) (header_of e)))))
      (footer_there img q.file_len p (p % size) e refl h)

  ended : (index p : ℕ) → q.elem_cnt ≤ index → judge_step q img (cursor_at index p) room ≡ Ok None
  unfolding judge_step
  ended index p l = pass _ _ _ ok ∙ sym (chosen _ _ _ (le-leb q.elem_cnt index l))

  all : (es : List Elem) (index p steps : ℕ) → Chain img size p es → total es ≤ size → index + length es ≡ q.elem_cnt → length es ≤ steps
      → handed q img room steps (cursor_at index (p % size)) ≡ held_all size p es
  unfolding handed
  all [] index p zero c l i s = refl
  all [] index p (suc steps) c l i s =
      ap (λ (a : Result (Option Step) Refusal). handed_step img q.file_len a (handed q img room steps)) (ended index (p % size) (omega arith))
  all (e ∷ es) index p zero c l i s = absurd (omega arith)
  all (e ∷ es) index p (suc steps) c l i s =
      ap (λ (a : Result (Option Step) Refusal). handed_step img q.file_len a (handed q img room steps)) (one index p e c.0 (omega arith) (omega arith))
      ∙ rw (
        payload_there img q.file_len p (p % size) e refl c.0,
        mod-add-mod p size (span e),
        all es (index + 1) (p + span e) steps c.1 (omega arith) (omega arith) (omega arith),
      )

pub iteration_gives_all : IterationGivesAll
iteration_gives_all img q room steps w wide enough =
    let u = linked_laid img q w in
    let k = u.laid in
    let size : ℕ = capacity q.file_len in
    ap (λ (p : ℕ). handed q img room steps (cursor_at 0 p)) (sym (mod-eq_of_lt {n = q.first.pos} {m = size} k.first_low))
    ∙ all img q room (laid_sound img q u.e u.es k) wide (omega (arith, k.first_low)) (u.e ∷ u.es) 0 q.first.pos steps k.holds
    k.fits (omega (arith, k.count)) (omega (arith, k.count))
    ∙ sym (laid_elements img q u.e u.es k)

-- ---- iteration by a reader

module _ (image : Bor (List ℕ)) (q : QueueFile) where
  abbrev file : ℕ
  file = q.file_len

  abbrev from : Cursor → Iter
  from c = record { image = image; state = q; cursor = c }

  -- what was put at the output's front is read there: there is room for it
  front : (c : Cursor) (out : List ℕ) (s : Step) → judge_step q image.now c (length out) ≡ Ok (Some s)
      → bytes_at s.elem.len (put_at out 0 (payload_at image.now file s.elem)) 0 ≡ payload_at image.now file s.elem
  unfolding payload_at
  front c out s e =
      let p : List ℕ = ring_read 8192 (capacity file) image.now (s.elem.pos + 28) s.elem.len in
      let n : length p ≡ s.elem.len = length_read 8192 (capacity file) image.now (s.elem.pos + 28) s.elem.len in
      ap (λ (w : ℕ). bytes_at w (put_at out 0 p) 0) (sym n)
      ∙ bytes_at-put_at out 0 p (omega (arith, n, (step_known q image.now c (length out) s e).1))

  -- a step of the reader is a step from its cursor; ih: so is each after it
  step_read : (c : Cursor) (out : List ℕ) (left : ℕ) (a : Result (Option Step) Refusal) → judge_step q image.now c (length out) ≡ a
      → ((c' : Cursor) (out' : List ℕ) → length out' ≡ length out → read_by (from c') out' left ≡ handed q image.now (length out) left c')
      → read_step a (stepped_output a image.now file out) (read_by (from (cursor_after a c)) (stepped_output a image.now file out) left)
      ≡ handed_step image.now file a (handed q image.now (length out) left)
  step_read c out left (Ok (Some s)) e ih =
      let p : List ℕ = payload_at image.now file s.elem in
      λ i. record { place = s.elem.pos; seq = s.elem.seq; back = s.prev_pos; payload = front c out s e i }
      ∷ ih s.next (put_at out 0 p) (length-sets out 0 p) i
  step_read c out left (Ok None) e ih = refl
  step_read c out left (Err r) e ih = refl

  read_handed : (room steps : ℕ) (c : Cursor) (out : List ℕ) → length out ≡ room → read_by (from c) out steps ≡ handed q image.now room steps c
  unfolding read_by handed
  read_handed room zero c out l = refl
  read_handed room (suc left) c out l =
      subst (λ (r : ℕ). read_by (from c) out (suc left) ≡ handed_step image.now file (judge_step q image.now c r) (handed q image.now r left)) l
      (step_read c out left (judge_step q image.now c (length out)) refl (λ c' out' l'. read_handed (length out) left c' out' l'))

pub reader_gives_all : ReaderGivesAll
reader_gives_all image q out steps w wide enough =
    read_handed image q (length out) steps (start_of q) out refl ∙ iteration_gives_all image.now q (length out) steps w wide enough
