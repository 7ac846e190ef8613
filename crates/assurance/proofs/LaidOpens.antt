-- What is stored opens: where the elected slot holds a state, and its elements stand in the image or there are none, opening gives back
-- the state itself. Assumes nothing.
use mathlib.Core.Path.{◌≡◌, sym, ap, ◌∙◌}
use mathlib.Core.Bool.{Bool, true, cond, ◌&&◌, and-eq-true_iff}
use mathlib.Core.List.{List}
use Prim.Native.Nat.{ℕ, ◌+◌, ◌-◌}
use native.Mathlib.Omega.{arith}
use lib.ListN.{length}
use lib.Dec.{eqb}
use borrow.Author.Tests.{le-leb, eq-eqb, ne_eqb, eqb-true}
use Rattle.refusal.proofs.Laws.{pass}
use Rattle.queue.specs.Element.{element, is_empty_element, in_sequence, header_in_sequence}
use Rattle.queue.specs.Places.{to_logical}
use Rattle.queue.specs.State.{no_ends}
use Rattle.queue.specs.Recover.{recover_head}
use Rattle.queue.specs.Opening.{with_ends, or_recovered, first_element, open_ends, opened_from, from_state, open_queue}
use Rattle.queue.specs.declared.element.Element.{Element}
use Rattle.queue.specs.declared.state.QueueFile.{QueueFile}
use Rattle.queue.proofs.Sound.{sound_empty}
use Rattle.writing.specs.Commit.{pointer_to, slot_of}
use Rattle.writing.proofs.CommitLaws.{pointer-some}
use Rattle.assurance.specs.Linked.{Empty}
use Rattle.assurance.specs.Reopening.{Stored, Reopens}
use Rattle.assurance.proofs.Chain.{Elem, header_of, last_of, rising_last}
use Rattle.assurance.proofs.Laid.{Laid, header-first, header-last, laid_some}
use Rattle.std.specs.Prelude.{Result, Ok}
use Rattle.refusal.specs.declared.Refusal.{Refusal}
use Rattle.format.specs.declared.element.V2ElementHeader.{V2ElementHeader}

-- ---- pointers

-- a pointer names its element's place
pointer_back : (n : ℕ) (e : Element) → (n ≡ 0 → ⊥) → to_logical (pointer_to n e) ≡ Ok e.pos
pointer_back n e m =
    let z : 8192 + e.pos - 8192 ≡ e.pos = omega arith in
    ap to_logical (pointer-some n e m) ∙ pass _ _ _ (le-leb 8192 (8192 + e.pos) (omega arith)) ∙ rw z

-- ---- what the elected slot tells of

-- the state with both ends all 0
abbrev bare : QueueFile → QueueFile
bare q = with_ends q (element 0 0 0) (element 0 0 0)

stored-from : (img : List ℕ) (q : QueueFile) → Stored img q →
    open_queue img q.real_len q.settings ≡ opened_from img (bare q) (slot_of q)
unfolding open_queue
stored-from img q e = ap (from_state img q.real_len q.settings) e

-- ---- a queue with elements

module _ (img : List ℕ) (q : QueueFile) (e : Elem) (es : List Elem) (k : Laid img q e es) where
  -- last has the sequence before the next one
  last-sequence : header_in_sequence img q.file_len q.last.pos (q.format.next_seq - 1) ≡ Ok (header_of (last_of e es))
  last-sequence =
      ap (in_sequence (q.format.next_seq - 1)) (header-last img q e es k)
      ∙ pass _ _ _ (eq-eqb (last_of e es).seq (q.format.next_seq - 1) (omega (arith, k.seqs, rising_last e es k.rising)))

  -- first's header is valid, so it is taken
  first_taken : (last : Element) → first_element img q.file_len q.first.pos last q.elem_cnt ≡ Ok q.first
  unfolding first_element
  first_taken last =
      ap
      (λ (d : Result V2ElementHeader Refusal). or_recovered d q.first.pos (recover_head img q.file_len last.pos last.seq q.elem_cnt))
      (header-first img q e es k)
      ∙ rw (← k.first_len, ← k.first-seq)

  ends_open : open_ends img (bare q) (slot_of q) ≡ Ok q
  unfolding open_ends
  ends_open =
      let some = laid_some img q e es k in
      rw (
        pointer_back q.elem_cnt q.first some,
        pointer_back q.elem_cnt q.last some,
        last-sequence,
        first_taken _,
        ← k.last_len,
        ← k.last-seq,
      )

  pub laid_opens : Stored img q → Reopens img q
  laid_opens s =
      stored-from img q s
      ∙ ap (λ (t : Bool). cond t (Ok (bare q)) (open_ends img (bare q) (slot_of q))) (ne_eqb q.elem_cnt 0 (laid_some img q e es k))
      ∙ ends_open

-- ---- an empty queue

empty-element : (e : Element) → is_empty_element e ≡ true → e ≡ element 0 0 0
unfolding is_empty_element
empty-element e h =
    let a = (and-eq-true_iff (eqb e.pos 0) (eqb e.len 0 && eqb e.seq 0)).0 h in
    let b = (and-eq-true_iff (eqb e.len 0) (eqb e.seq 0)).0 a.1 in
    let p : e.pos ≡ 0 = eqb-true _ _ a.0 in
    let n : e.len ≡ 0 = eqb-true _ _ b.0 in
    let s : e.seq ≡ 0 = eqb-true _ _ b.1 in
    ap (λ (x : ℕ). element x e.len e.seq) p ∙ ap (λ (x : ℕ). element 0 x e.seq) n ∙ ap (element 0 0) s

no_ends_lem : (q : QueueFile) → no_ends q ≡ true → bare q ≡ q
unfolding no_ends
no_ends_lem q h =
    let a = (and-eq-true_iff (is_empty_element q.first) (is_empty_element q.last)).0 h in
    sym
    (ap (λ (e : Element). with_ends q e q.last) (empty-element q.first a.0)
    ∙ ap (with_ends q (element 0 0 0)) (empty-element q.last a.1))

empty-bare : (img : List ℕ) (q : QueueFile) → Empty img q → bare q ≡ q
empty-bare img q m = no_ends_lem q (sound_empty q (length img) m.sound m.none)

pub empty_opens : (img : List ℕ) (q : QueueFile) → Empty img q → Stored img q → Reopens img q
empty_opens img q m s =
    stored-from img q s
    ∙ ap (λ (t : Bool). cond t (Ok (bare q)) (open_ends img (bare q) (slot_of q))) (eq-eqb q.elem_cnt 0 m.none)
    ∙ ap Ok (empty-bare img q m)
