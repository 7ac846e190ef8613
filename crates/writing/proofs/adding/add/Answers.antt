-- `writing::adding::add` meets its contract: a length that is planned and checked is one that the file can grow to, the state that has
-- grown has a ring to go on in behind its last, and with the element in it it can be stored. Assumes nothing.
use Rattle.std.proofs.lemmas.Result.{err_from_is_err_and}
use mathlib.Core.Path.{◌≡◌, sym, ap, ◌∙◌}
use mathlib.Core.List.{List}
use Prim.Native.Nat.{ℕ}
use lib.ListN.{length}
use Rattle.queue.proofs.SoundQueueLaws.{judged}
use Rattle.queue.specs.declared.state.QueueFile.{QueueFile}
use Rattle.writing.specs.Work.{Work, done}
use Rattle.writing.specs.Commit.{committed, Storable}
use Rattle.writing.specs.Expansion.{grown}
use Rattle.writing.specs.Adding.{appended, add_of, Extends}
use Rattle.writing.proofs.PlanLaws.{length_expands, Adds, add_planned}
use Rattle.writing.proofs.AppendLaws.{append_storable}
use Rattle.writing.proofs.ExtendLaws.{grown_extends}
use Rattle.writing.proofs.adding.add.Goals as goal
use Rattle.writing.proofs.adding.add.Goals.{In_ok-new_len}

-- ---- what is known once the length is

-- of the state that has grown, in an image as long as before
extends : (q : QueueFile) (img : List ℕ) (payload n : ℕ) (r : QueueFile) (l : List ℕ) → Adds q (length img) payload n
    → (r, l) ≡ grown n (q, img) → length l ≡ length img → Extends (length l) r
extends q img payload n r l a e s =
    let same : r ≡ (grown n (q, img)).0 = ap (λ (w : Work). w.0) e in
    rw (s, same) (grown_extends q img (length img) payload n a)

-- and of that state with the element
storable : (payload : List ℕ) (w : Work) (len : ℕ) (r : QueueFile) (l : List ℕ) → Extends len w.0 → (r, l) ≡ appended payload w → Storable r
storable payload w len r l x e =
    let same : r ≡ (appended payload w).0 = ap (λ (v : Work). v.0) e in
    rw same (append_storable payload w len x)

-- the length was planned for an add
planned : (c : In_ok-new_len) →
    let a = c.args in
    Adds a.q (length a.image.now) (length a.payload.now) c.in_ok-new_len.new_len
planned c =
    let j = judged c.sound.ensures c.in_ok-q.was in
    let e = rw (j.state, j.image_len) at c.judge_element.ensures in
    add_planned _ _ _ _ (sym e ∙ c.in_ok-new_len.was)

pub returns-in_err-new_len : goal.returns-in_err-new_len
unfolding add_of
returns-in_err-new_len c =
    let j = judged c.sound.ensures c.in_ok-q.was in
    let e = rw (j.state, j.image_len) at c.judge_element.ensures in
    let p = err_from_is_err_and c.from_residual-in_err-new_len.result c.from_residual-in_err-new_len.ensures.1 in
    rw (p.1, p.2, sym e ∙ c.in_err-new_len.was)

pub check_growth-requires : goal.check_growth-requires
check_growth-requires c = (judged c.sound.ensures c.in_ok-q.was).image_len

pub returns-in_err-check_growth : goal.returns-in_err-check_growth
unfolding add_of
returns-in_err-check_growth c =
    let j = judged c.sound.ensures c.in_ok-q.was in
    let e = rw (j.state, j.image_len) at c.judge_element.ensures in
    let g = rw j.state at c.check_growth.ensures in
    let p = err_from_is_err_and c.from_residual-in_err-check_growth.result c.from_residual-in_err-check_growth.ensures.1 in
    rw (p.1, p.2, sym e ∙ c.in_ok-new_len.was, sym g ∙ c.in_err-check_growth.was)

pub grow_to-longer-requires : goal.grow_to-longer-requires
grow_to-longer-requires c =
    let a = planned (goal.at.grow_to-longer-requires c).In_ok-new_len in
    rw (judged c.sound.ensures c.in_ok-q.was).state (length_expands _ _ _ 1 1 _ a.sound a.planned)

pub append-added-requires : goal.append-added-requires
append-added-requires c =
    let a = planned (goal.at.append-added-requires c).In_ok-new_len in
    let l = rw (judged c.sound.ensures c.in_ok-q.was).state at c.grow_to-longer.ensures in
    record {
      extends = extends _ _ _ _ _ _ a l c.grow_to-longer.auto.image;
      payload_len_bound = a.short;
    }

pub sync_header-requires : goal.sync_header-requires
sync_header-requires c =
    let a = planned (goal.at.sync_header-requires c).In_ok-new_len in
    let l = rw (judged c.sound.ensures c.in_ok-q.was).state at c.grow_to-longer.ensures in
    storable _ _ _ _ _ (extends _ _ _ _ _ _ a l c.grow_to-longer.auto.image) c.append-added.ensures

pub returns : goal.returns
unfolding add_of
returns c =
    let j = judged c.sound.ensures c.in_ok-q.was in
    let e = rw (j.state, j.image_len) at c.judge_element.ensures in
    let g = rw j.state at c.check_growth.ensures in
    let l = rw j.state at c.grow_to-longer.ensures in
    rw (sym e ∙ c.in_ok-new_len.was, sym g ∙ c.in_ok-check_growth.was)
    (ap done (c.sync_header.ensures ∙ ap committed (c.append-added.ensures ∙ ap (appended _) l)))
