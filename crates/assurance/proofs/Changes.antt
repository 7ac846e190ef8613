-- Commit, clear, remove and a fresh image leave the list that they say. Assumes nothing.
use mathlib.Core.Path.{◌≡◌, refl, sym, ap, ◌∙◌, subst}
use mathlib.Core.Logic.{inl, inr}
use mathlib.Core.Bool.{Bool, true, false, cond}
use mathlib.Core.List.{List, [], ◌∷◌}
use Prim.Native.Nat.{ℕ, ◌+◌, ◌%◌, ◌^◌, ◌≤◌, ◌<◌}
use native.Mathlib.Nat.{mod-mod}
use native.Mathlib.Omega.{arith}
use lib.ListN.{length, take, drop, replicate, drop_of_length-le}
use lib.Seq.{drop-nil}
use lib.Dec.{leb, eqb}
use borrow.Author.Tests.{ltb-true, leb-true, eqb-true, eqb-false, leb-false}
use Rattle.refusal.proofs.Laws.{granted, refused}
use Rattle.wire.specs.Wire.{put_at}
use Rattle.queue.specs.Element.{capacity}
use Rattle.queue.specs.declared.state.QueueFile.{QueueFile}
use Rattle.writing.specs.Work.{Work, done, kept}
use Rattle.writing.specs.Commit.{slot_stored, committed, judge_numbers, judge_commit, commit_of}
use Rattle.writing.specs.Removal.{dropped, removed_zeroed, remove_to, remove_some, remove_of}
use Rattle.writing.specs.Clearing.{cleared, clear_of}
use Rattle.writing.specs.Fresh.{fresh_queue, fresh_of}
use Rattle.writing.proofs.CommitLaws.{commit_sound, numbers_granted}
use Rattle.assurance.specs.Held.{Held, elements_of}
use Rattle.assurance.specs.Linked.{Linked, Empty, LinkedOrEmpty}
use Rattle.assurance.specs.Changes.{Leaves, RemoveKeepsQueue, ClearEmpties, CommitKeepsQueue, FreshIsEmpty}
use Rattle.assurance.proofs.Chain.{Elem, total}
use Rattle.assurance.proofs.Laid.{Laid}
use Rattle.assurance.proofs.Bridge.{linked_laid, held_all, laid_elements, empty_elements}
use Rattle.assurance.proofs.Answered.{not_kept, done_work, verdict_work}
use Rattle.assurance.proofs.Vacant.{empty_vacant}
use Rattle.assurance.proofs.CommitLaid.{length-slot_stored, committed_state, committed_laid}
use Rattle.assurance.proofs.Clearing.{committed_vacant, cleared_vacant, fresh_vacant, stored_vacant}
use Rattle.assurance.proofs.RemoveLaid.{Skip, skip_laid, zeroed_state, removed_laid}
use Rattle.assurance.proofs.Leaving.{laid_leaves, vacant_leaves, held_same, held_drop, length_held}
use Rattle.refusal.specs.Answer.{on_ok}
use Rattle.std.specs.Prelude.{Result, Ok}
use Rattle.queue.specs.declared.element.Element.{Element}
use Rattle.refusal.specs.declared.Refusal.{Refusal}

-- what a work leaves
abbrev LeavesWork : Work → List Held → Type 0
LeavesWork w es = Leaves w.1 w.0 es

-- a call's commit is granted for a sound state whose generation has room
commit_generation : (q : QueueFile) (len : ℕ) → judge_commit q len ≡ Ok tt → q.format.generation + 1 < 2 ^ 63
unfolding judge_commit
commit_generation q len e = (numbers_granted q 1 0 (granted _ _ _ _ refused e).1).0

-- ---- commit

commit_leaves : (img : List ℕ) (q : QueueFile) → LinkedOrEmpty img q → q.format.generation + 1 < 2 ^ 63
    → LeavesWork (committed (q, img)) (elements_of q img)
unfolding committed
commit_leaves img q (inl w) g =
    let u = linked_laid img q w in
    rw (laid_elements img q u.e u.es u.laid)
    (laid_leaves _ _ u.e u.es (committed_laid img q u.e u.es u.laid g))
commit_leaves img q (inr m) g =
    rw (empty_elements img q m.none)
    (vacant_leaves _ _ (committed_vacant (q, img) (empty_vacant img q m) g)).1

pub commit_keeps_queue : CommitKeepsQueue
unfolding commit_of
commit_keeps_queue img img' q q' w h =
    let a = verdict_work img q' img' (judge_commit q (length img)) (committed (q, img)) h in
    subst (λ (x : Work). LeavesWork x (elements_of q img)) a.1
    (commit_leaves img q w (commit_generation q (length img) a.0))

-- ---- clear, and a fresh image

pub clear_empties : ClearEmpties
unfolding clear_of
clear_empties img img' q q' h =
    let a = verdict_work img q' img' (judge_commit q (length img)) (cleared (q, img)) h in
    subst (λ (x : Work). Empty x.1 x.0 × LeavesWork x []) a.1
    (vacant_leaves _ _ (cleared_vacant q img (commit_sound q (length img) a.0) (commit_generation q (length img) a.0)))

pub fresh_is_empty : FreshIsEmpty
unfolding fresh_of
fresh_is_empty img img' n settings q' h =
    let a = granted _ _ _ _ (not_kept img q' img' _) h in
    let b = granted _ _ _ _ (not_kept img q' img' _) a.1 in
    let d = granted _ _ _ _ (not_kept img q' img' _) b.1 in
    let zeros = put_at img 0 (replicate n 0) in
    subst (λ (x : Work). Empty x.1 x.0 × LeavesWork x [])
    (done_work img q' img' (fresh_queue n settings, slot_stored (fresh_queue n settings) zeros) d.1)
    (vacant_leaves _ _
    (rw (length-slot_stored (fresh_queue n settings) zeros)
    (stored_vacant (fresh_queue n settings) img 0 (replicate n 0)
    (fresh_vacant n (length img) settings (leb-true _ _ a.0) (ltb-true _ _ b.0) (leb-true _ _ d.0)))))

-- ---- remove

-- n elements, of more
module _ (img img' : List ℕ) (q q' : QueueFile) (n : ℕ) (w : Linked img q) (more : n < q.elem_cnt) where
  abbrev e : Elem
  e = (linked_laid img q w).e

  abbrev es : List Elem
  es = (linked_laid img q w).es

  laid : Laid img q e es
  laid = (linked_laid img q w).laid

  skip : Skip img q e es n
  skip = skip_laid n img q e es laid more

  -- those that are left, from where the walk ended
  rest_held : drop n (elements_of q img) ≡ held_all (capacity q.file_len) skip.to.pos (skip.f ∷ skip.fs)
  rest_held =
      let size = capacity q.file_len in
      let past = q.first.pos + total (take n (e ∷ es)) in
      ap (drop n) (laid_elements img q e es laid)
      ∙ held_drop n size q.first.pos (e ∷ es)
      ∙ ap (held_all size past) skip.rest
      ∙ held_same size past skip.to.pos (skip.f ∷ skip.fs) (sym (mod-mod past size) ∙ ap (λ (x : ℕ). x % size) (sym skip.place))

  abbrev after : Work
  after = removed_zeroed q.first.pos skip.to.pos (committed (dropped q n skip.to, img))

  after_held :
      held_all (capacity after.0.file_len) after.0.first.pos (skip.f ∷ skip.fs)
      ≡ held_all (capacity q.file_len) skip.to.pos (skip.f ∷ skip.fs)
  after_held =
      ap (λ (s : QueueFile). held_all (capacity s.file_len) s.first.pos (skip.f ∷ skip.fs))
      (zeroed_state q.first.pos skip.to.pos (committed (dropped q n skip.to, img))
      ∙ committed_state (dropped q n skip.to, img))

  some_leaves : remove_some q n img ≡ (Ok q', img') → Leaves img' q' (drop n (elements_of q img))
  unfolding remove_some remove_to
  some_leaves h =
      let t : remove_to q n img skip.to ≡ (Ok q', img') =
      ap (λ (x : Result Element Refusal). on_ok (kept img) x (remove_to q n img)) (sym skip.walked) ∙ h in
      let a = verdict_work img q' img' (judge_numbers q 1 0) after t in
      subst (λ (x : Work). LeavesWork x (drop n (elements_of q img))) a.1
      (subst (λ (l : List Held). LeavesWork after l) (after_held ∙ sym rest_held)
      (laid_leaves _ _ skip.f skip.fs (removed_laid img q e es n laid skip (numbers_granted q 1 0 a.0).0)))

-- of an empty queue there is nothing to drop, and of one with no more than n elements nothing is left
none_left : (img : List ℕ) (q : QueueFile) (n : ℕ) → LinkedOrEmpty img q → q.elem_cnt ≤ n → drop n (elements_of q img) ≡ []
none_left img q n (inl w) h =
    let u = linked_laid img q w in
    let l = laid_elements img q u.e u.es u.laid in
    drop_of_length-le (elements_of q img) {i = n}
    (omega (arith, ap length l ∙ length_held (capacity q.file_len) q.first.pos (u.e ∷ u.es), u.laid.count, h))
none_left img q n (inr m) h = ap (drop n) (empty_elements img q m.none) ∙ drop-nil n

-- a choice whose answer is known
branch : {A P : Type 0} (b : Bool) (x y r : A) → (b ≡ true → x ≡ r → P) → (b ≡ false → y ≡ r → P) → cond b x y ≡ r → P
branch true x y r f g h = f refl h
branch false x y r f g h = g refl h

module _ (img img' : List ℕ) (q q' : QueueFile) (n : ℕ) (w : LinkedOrEmpty img q) where
  abbrev Left : Type 0
  Left = Leaves img' q' (drop n (elements_of q img))

  -- nothing is done, and that is right
  same_left : drop n (elements_of q img) ≡ elements_of q img → done (q, img) ≡ (Ok q', img') → Left
  same_left d h =
      subst (λ (x : Work). LeavesWork x (drop n (elements_of q img))) (done_work img q' img' (q, img) h) (record { whole = w; holds = sym d })

  all_left : leb q.elem_cnt n ≡ true → clear_of q img ≡ (Ok q', img') → Left
  all_left t h = rw (none_left img q n w (leb-true _ _ t)) (clear_empties img img' q q' h).1

  some_left : LinkedOrEmpty img q → eqb q.elem_cnt 0 ≡ false → leb q.elem_cnt n ≡ false
      → remove_some q n img ≡ (Ok q', img') → Left
  some_left (inl k) z t h = some_leaves img img' q q' n k (omega (arith, leb-false q.elem_cnt n t)) h
  some_left (inr m) z t h = absurd (eqb-false _ _ z m.none)

  removed_left : remove_of q n img ≡ (Ok q', img') → Left
  unfolding remove_of
  removed_left h =
      branch (eqb n 0) _ _ _
      (λ t. same_left (ap (λ (x : ℕ). drop x (elements_of q img)) (eqb-true n 0 t)))
      (λ t. branch (eqb q.elem_cnt 0) _ _ _
      (λ z. same_left (none_left img q n w (omega (arith, eqb-true q.elem_cnt 0 z)) ∙ sym (empty_elements img q (eqb-true _ _ z))))
      (λ z. branch (leb q.elem_cnt n) _ _ _ all_left (some_left w z)))
      (granted _ _ _ _ (not_kept img q' img' _) h).1

pub remove_keeps_queue : RemoveKeepsQueue
remove_keeps_queue img img' q q' n w h = removed_left img img' q q' n w h
