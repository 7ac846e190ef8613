-- Add appends: the file grows as far as was planned, which is far enough; the element is appended; the state is committed.
-- Assumes nothing.
use mathlib.Core.Path.{◌≡◌, sym, ap, ◌∙◌, subst}
use mathlib.Core.Logic.{inl, inr}
use mathlib.Core.Bool.{Bool, true, false, cond}
use mathlib.Core.List.{List, [], ◌∷◌, ◌++◌}
use Prim.Native.Nat.{ℕ, ◌+◌, ◌-◌, ◌%◌, ◌^◌, ◌≤◌, ◌<◌}
use native.Mathlib.Omega.{arith}
use lib.ListN.{length}
use lib.Dec.{eqb}
use borrow.Author.Tests.{eq-eqb, ne_eqb}
use Rattle.format.specs.Element.{element_span}
use Rattle.queue.specs.Element.{capacity}
use Rattle.queue.specs.State.{ends_used, used_bytes, remaining_bytes}
use Rattle.queue.specs.declared.element.Element.{Element}
use Rattle.queue.specs.declared.state.QueueFile.{QueueFile}
use Rattle.writing.specs.Work.{Work}
use Rattle.writing.specs.Commit.{pointer_to, committed}
use Rattle.writing.specs.Growth.{check_growth}
use Rattle.writing.specs.Expansion.{grown, Expands}
use Rattle.writing.specs.Adding.{appended, judge_add, add_of}
use Rattle.writing.proofs.LengthLaws.{length_room}
use Rattle.writing.proofs.PlanLaws.{length_planned, length_expands, Adds, add_planned}
use Rattle.assurance.specs.Held.{Held, elements_of}
use Rattle.assurance.specs.Linked.{Linked, Empty, LinkedOrEmpty}
use Rattle.assurance.specs.Growth.{grown_place, grown_elements}
use Rattle.assurance.specs.Changes.{Leaves, newest, AddKeepsQueue}
use Rattle.assurance.proofs.Chain.{Elem, total}
use Rattle.assurance.proofs.Laid.{Laid, laid_some, used_total}
use Rattle.assurance.proofs.Bridge.{linked_laid, laid_linked, held_at, held_all, laid_elements, empty_elements}
use Rattle.assurance.proofs.Answered.{count_work}
use Rattle.assurance.proofs.CommitLaid.{committed_laid}
use Rattle.assurance.proofs.GrownState.{commits_at, grown_state_lem, grown-file, grown-count, grown-first, grown_next, grown-generation, planned_file, planned_numbers}
use Rattle.assurance.proofs.Relinking.{grown_elem, grown_elems, grown-total}
use Rattle.assurance.proofs.GrownLaid.{grown_laid}
use Rattle.assurance.proofs.GrownHeld.{grown_held}
use Rattle.assurance.proofs.ChainLists.{last_snoc}
use Rattle.assurance.proofs.AppendLaid.{LaidWork, new_elem, appended_laid, started_laid}
use Rattle.assurance.proofs.Vacant.{empty_vacant}
use Rattle.assurance.proofs.Clearing.{grown_vacant}
use Rattle.assurance.proofs.Leaving.{laid_leaves, held_append}

used_by : (q : QueueFile) (none : Bool) → eqb q.elem_cnt 0 ≡ none → used_bytes q ≡ cond none 8192 (ends_used q)
unfolding used_bytes
used_by q none e = ap (λ (t : Bool). cond t 8192 (ends_used q)) e

abbrev held_of : ℕ → ℕ → ℕ → List ℕ → Held
held_of place seq back payload = record { place = place; seq = seq; back = back; payload = payload }

-- ---- the steps of an add

module _ (img payload : List ℕ) (q : QueueFile) (n : ℕ) (a : Adds q (length img) (length payload) n) where
  -- grown, appended to, committed
  abbrev longer : Work
  longer = grown n (q, img)

  abbrev with_new : Work
  with_new = appended payload longer

  abbrev after : Work
  after = committed with_new

  least : q.file_len ≤ n
  least = planned_file q (length img) (element_span (length payload)) 1 1 n a.sound a.planned

  expands : q.file_len < n → Expands q (length img) n
  expands = length_expands q (length img) (element_span (length payload)) 1 1 n a.sound a.planned

  numbers : (q.format.generation + (1 + cond (commits_at q n) 1 0) < 2 ^ 63) × (q.format.next_seq + 1 < 2 ^ 63)
  numbers = planned_numbers q (length img) (element_span (length payload)) 1 1 n a.sound a.planned

  next : longer.0.format.next_seq + 1 < 2 ^ 63
  next = omega (arith, grown_next q img n, numbers.1)

  room : element_span (length payload) ≤ remaining_bytes q + (n - q.file_len)
  room =
      length_room q.file_len (remaining_bytes q) (element_span (length payload)) n
      (length_planned q (length img) (element_span (length payload)) 1 1 n a.planned).0

  -- the state that is left
  after-generation : with_new.0.format.generation + 1 < 2 ^ 63
  unfolding appended
  after-generation = omega (arith, grown-generation q img n, numbers.0)

  after-file : after.0.file_len ≡ n
  unfolding committed appended
  after-file = grown-file q img n least

  abbrev f : Elem
  f = new_elem longer.0 payload

  -- the new element, wherever last is
  new_held : (p : ℕ) → after.0.last.pos ≡ p % capacity after.0.file_len
      → held_at (capacity after.0.file_len) p f ≡ newest q after.0 payload
  new_held p e =
      let s : f.seq ≡ q.format.next_seq = grown_next q img n in
      let b : f.back ≡ (newest q after.0 payload).back =
      ap (λ (x : QueueFile). pointer_to x.elem_cnt x.last) (grown_state_lem q img n)
      ∙ ap (λ (x : ℕ). cond (eqb q.elem_cnt 0) 0 (8192 + grown_place q x q.last.pos)) (sym after-file) in
      ap (λ (x : ℕ). held_of x f.seq f.back payload) (sym e)
      ∙ ap (λ (x : ℕ). held_of after.0.last.pos x f.back payload) s
      ∙ ap (λ (x : ℕ). held_of after.0.last.pos q.format.next_seq x payload) b

  -- what is to be shown
  abbrev Added : Work → Type 0
  Added w =
      Linked w.1 w.0
      × Leaves w.1 w.0 (grown_elements q w.0.file_len (elements_of q img) ++ (newest q w.0 payload ∷ []))

  -- first stays where there is one
  after_first : (q.elem_cnt ≡ 0 → ⊥) → after.0.first ≡ q.first
  unfolding committed appended
  after_first some =
      ap (λ (t : Bool). cond t after.0.last longer.0.first)
      (ne_eqb longer.0.elem_cnt 0 (λ z. some (sym (grown-count q img n) ∙ z)))
      ∙ grown-first q img n

  -- behind others
  module _ (e : Elem) (es : List Elem) (k : Laid img q e es) where
    abbrev e' : Elem
    e' = grown_elem q n e

    abbrev es' : List Elem
    es' = grown_elems q n es

    longer_laid : Laid longer.1 longer.0 e' es'
    longer_laid = grown_laid img q e es n k expands (λ c. omega (arith, numbers.0))

    longer_room : total (e' ∷ es') + element_span (length payload) ≤ capacity longer.0.file_len
    longer_room =
        omega (
          arith,
          room,
          used_by q false (ne_eqb q.elem_cnt 0 (laid_some img q e es k)),
          used_total img q e es k,
          grown-total q n (e ∷ es),
          grown-file q img n least,
          least,
          k.fits,
          k.lengths.start,
        )

    after_laid : LaidWork after e' (es' ++ (f ∷ []))
    after_laid =
        committed_laid with_new.1 with_new.0 e' (es' ++ (f ∷ []))
        (appended_laid longer.1 longer.0 e' es' payload longer_laid longer_room a.short
        (omega (arith, grown-count q img n, a.count)) next)
        after-generation

    after_held :
        held_all (capacity after.0.file_len) after.0.first.pos (e' ∷ (es' ++ (f ∷ [])))
        ≡ grown_elements q after.0.file_len (elements_of q img) ++ (newest q after.0 payload ∷ [])
    after_held =
        let file = after.0.file_len in
        let first = after.0.first.pos in
        let old : held_all (capacity file) first (e' ∷ es') ≡ grown_elements q file (elements_of q img) =
        ap (λ (x : ℕ). held_all (capacity x) first (e' ∷ es')) after-file
        ∙ ap (λ (x : Element). held_all (capacity n) x.pos (e' ∷ es')) (after_first (laid_some img q e es k))
        ∙ grown_held img q e es n k least expands
        ∙ ap (grown_elements q n) (sym (laid_elements img q e es k))
        ∙ ap (λ (x : ℕ). grown_elements q x (elements_of q img)) (sym after-file) in
        let new =
        new_held (first + total (e' ∷ es')) (after_laid.last-place ∙ ap (λ (x : ℕ). x % capacity file) (last_snoc first e' es' f)) in
        held_append (capacity file) first (e' ∷ es') (f ∷ [])
        ∙ ap (λ (l : List Held). l ++ held_all (capacity file) (first + total (e' ∷ es')) (f ∷ [])) old
        ∙ ap (λ (h : Held). grown_elements q file (elements_of q img) ++ (h ∷ [])) new

    behind_others : Added after
    behind_others = (
      laid_linked after.1 after.0 e' (es' ++ (f ∷ [])) after_laid,
      subst (λ (l : List Held). Leaves after.1 after.0 l) after_held
          (laid_leaves after.1 after.0 e' (es' ++ (f ∷ [])) after_laid),
    )

  -- alone
  module _ (m : Empty img q) where
    alone_laid : LaidWork after f []
    alone_laid =
        let v = empty_vacant img q m in
        committed_laid with_new.1 with_new.0 f []
        (started_laid longer.1 longer.0 payload (grown_vacant q img n v expands)
        (omega (
          arith,
          room,
          used_by q true (eq-eqb q.elem_cnt 0 m.none),
          grown-file q img n least,
          least,
          v.lengths.start,
        ))
        a.short next)
        after-generation

    alone_held :
        held_all (capacity after.0.file_len) after.0.first.pos (f ∷ [])
        ≡ grown_elements q after.0.file_len (elements_of q img) ++ (newest q after.0 payload ∷ [])
    alone_held =
        ap (λ (h : Held). h ∷ []) (new_held after.0.first.pos alone_laid.last-place)
        ∙ ap (λ (l : List Held). grown_elements q after.0.file_len l ++ (newest q after.0 payload ∷ []))
        (sym (empty_elements img q m.none))

    alone : Added after
    alone = (
      laid_linked after.1 after.0 f [] alone_laid,
      subst (λ (l : List Held). Leaves after.1 after.0 l) alone_held (laid_leaves after.1 after.0 f [] alone_laid),
    )

  added : LinkedOrEmpty img q → Added after
  added (inl w) = let u = linked_laid img q w in behind_others u.e u.es u.laid
  added (inr m) = alone m

pub add_keeps_queue : AddKeepsQueue
unfolding add_of
add_keeps_queue img img' payload q q' w h =
    let c = judge_add q (length img) (length payload) in
    let t = count_work img q' img' c (check_growth q img) (λ n. committed (appended payload (grown n (q, img)))) h in
    let n = t.bytes in
    let a = add_planned q (length img) (length payload) n t.count in
    subst (Added img payload q n a) t.work (added img payload q n a w)
