-- Opening gives back the state that was committed, after each call: the slot is stored last, or what is stored behind it lies behind the
-- slots. Assumes nothing.
use mathlib.Core.Path.{◌≡◌, refl, sym, ap, subst, ◌∙◌}
use mathlib.Core.Logic.{inl, inr}
use mathlib.Core.Bool.{true}
use mathlib.Core.List.{List}
use Prim.Native.Nat.{ℕ, ◌≤◌, ◌<◌}
use native.Mathlib.Omega.{arith}
use lib.ListN.{length, get_or, replicate, length-replicate, get_or-replicate}
use lib.Dec.{leb, eqb}
use borrow.Author.Tests.{leb-true, lt-leb, ne_eqb}
use Rattle.refusal.specs.declared.Refusal.{Refusal}
use Rattle.refusal.proofs.Laws.{granted}
use Rattle.wire.specs.Wire.{put_at}
use Rattle.wire.proofs.Stores.{put_at-within}
use Rattle.queue.specs.State.{sound}
use Rattle.queue.specs.declared.element.Element.{Element}
use Rattle.queue.specs.declared.state.QueueFile.{QueueFile}
use Rattle.queue.proofs.Sound.{sound_lengths_lem}
use Rattle.writing.specs.Work.{Work, kept}
use Rattle.writing.specs.Commit.{slot_stored, next_state, committed, judge_numbers, judge_commit, commit_of}
use Rattle.writing.specs.Growth.{check_growth}
use Rattle.writing.specs.Expansion.{grown, judge_expansion, expand_of}
use Rattle.writing.specs.Adding.{appended, judge_add, add_of}
use Rattle.writing.specs.Removal.{skip_from, dropped, removed_zeroed, remove_to, remove_some, remove_of}
use Rattle.writing.specs.Clearing.{emptied, ring_zeroed, cut, cut_state, cleared, clear_of}
use Rattle.writing.specs.Fresh.{fresh_queue, fresh_of}
use Rattle.writing.proofs.Choices.{left_out}
use Rattle.writing.proofs.CommitLaws.{commit_sound}
use Rattle.writing.proofs.PlanLaws.{expansion_sound, add_planned}
use Rattle.assurance.specs.Linked.{LinkedOrEmpty}
use Rattle.assurance.specs.Reopening.{Stored, Current, StoredReopens, Committed, FreshIsCommitted, CommitIsCommitted, AddIsCommitted, RemoveIsCommitted, ClearIsCommitted, ClearStaysCurrent, GrowthStaysCurrent}
use Rattle.assurance.proofs.Bridge.{linked_laid}
use Rattle.assurance.proofs.LaidOpens.{laid_opens, empty_opens}
use Rattle.assurance.proofs.CommitLaid.{length-slot_stored}
use Rattle.assurance.proofs.Fronts.{Fronts, front_all, upto_kept, state_kept}
use Rattle.assurance.proofs.Slots.{stored-current, zero_none, stored_elected, committed-stored}
use Rattle.assurance.proofs.Answered.{not_kept, done_work, verdict_work, count_work, skip_work}
use Rattle.assurance.proofs.Changes.{commit_keeps_queue, remove_keeps_queue, clear_empties, fresh_is_empty}
use Rattle.assurance.proofs.Adding.{add_keeps_queue}
use Rattle.assurance.proofs.Keeping.{UpToDate, Behind, Long, grown-current, appended-current, removed_behind, zeroed-behind, cut-format, not_cut}
use Rattle.std.specs.Prelude.{Result, Ok}

-- ---- what is stored is given back

pub stored-reopens : StoredReopens
stored-reopens img q (inl k) s = let u = linked_laid img q k in laid_opens img q u.e u.es u.laid s
stored-reopens img q (inr m) s = empty_opens img q m s

-- ---- a commit, and stores behind the slots after it

whole-sound : (img : List ℕ) (q : QueueFile) → LinkedOrEmpty img q → sound q (length img) ≡ true
whole-sound img q (inl k) = k.sound
whole-sound img q (inr m) = m.sound

sound-long : (q : QueueFile) (len : ℕ) → sound q len ≡ true → Long q len
sound-long q len s =
    let l = sound_lengths_lem q len s in
    record { file = l.start; real = omega (arith, l.start, l.real); image = omega (arith, l.start, l.real, l.inside) }

-- a state whose slot was stored, with what follows
module _ (q : QueueFile) (img img' : List ℕ) (f : Fronts (slot_stored q img) img') (whole : LinkedOrEmpty img' q) where
  still_sound : sound q (length img) ≡ true
  still_sound = subst (λ (n : ℕ). sound q n ≡ true) (f.long ∙ length-slot_stored q img) (whole-sound img' q whole)

  still_current : Current img' q
  still_current =
      upto_kept (slot_stored q img) img' q.format.active_slot q.format.generation f
      (stored-current q img (sound-long q (length img) still_sound).image)

  then-committed : (sound q (length img) ≡ true → Stored (slot_stored q img) q) → Committed img' q
  then-committed k =
      let s : Stored img' q = state_kept (slot_stored q img) img' f q.real_len ∙ k still_sound in
      record { stored = s; reopens = stored-reopens img' q whole s; current = still_current }

-- where the slot that was active before is up to the state before
after_commit : (w v : Work) → Behind (committed w) v → LinkedOrEmpty v.1 v.0 → UpToDate w → Committed v.1 v.0
unfolding committed
after_commit w v b whole c =
    let e : v.0 ≡ next_state w.0 = b.0 in
    subst (Committed v.1) (sym e)
    (then-committed (next_state w.0) w.1 v.1 b.1 (subst (LinkedOrEmpty v.1) e whole)
    (λ s. committed-stored w.0 w.1 s c))

-- ---- commit

at_once : (w : Work) → Behind w w
at_once w = (refl, front_all w.1)

pub commit_is_committed : CommitIsCommitted
unfolding commit_of
commit_is_committed img img' q q' l c e =
    let d = (verdict_work img q' img' (judge_commit q (length img)) (committed (q, img)) e).1 in
    after_commit (q, img) (q', img') (subst (Behind (committed (q, img))) d (at_once _)) (commit_keeps_queue img img' q q' l e).whole c

-- ---- growth

pub growth_stays_current : GrowthStaysCurrent
unfolding expand_of
growth_stays_current img img' q q' span c e =
    let j = judge_expansion q (length img) span in
    let d = count_work img q' img' j (check_growth q img) (λ n. grown n (q, img)) e in
    let s = expansion_sound q (length img) span d.bytes d.count in
    subst UpToDate d.work (grown-current d.bytes (q, img) (sound-long q (length img) s) c)

-- ---- add

pub add_is_committed : AddIsCommitted
unfolding add_of
add_is_committed img img' payload q q' l c e =
    let j = judge_add q (length img) (length payload) in
    let step : ℕ → Work = λ n. appended payload (grown n (q, img)) in
    let d = count_work img q' img' j (check_growth q img) (λ n. committed (step n)) e in
    let s = (add_planned q (length img) (length payload) d.bytes d.count).sound in
    after_commit (step d.bytes) (q', img') (subst (Behind (committed (step d.bytes))) d.work (at_once _))
    (inl (add_keeps_queue img img' payload q q' l e).0)
    (appended-current payload (grown d.bytes (q, img)) (grown-current d.bytes (q, img) (sound-long q (length img) s) c))

-- ---- remove

removed_to : (q : QueueFile) (n : ℕ) (img : List ℕ) (e : Element) (q' : QueueFile) (img' : List ℕ) → remove_to q n img e ≡ (Ok q', img') →
    Behind (committed (dropped q n e, img)) (q', img')
unfolding remove_to
removed_to q n img e q' img' h =
    let w = committed (dropped q n e, img) in
    subst (Behind w) (verdict_work img q' img' (judge_numbers q 1 0) (removed_zeroed q.first.pos e.pos w) h).1
    (removed_behind q.first.pos e.pos w)

-- some are removed, and some are left
removed_some : (q : QueueFile) (n : ℕ) (img : List ℕ) (a : Result QueueFile Refusal × List ℕ) → 1 ≤ n → n < q.elem_cnt →
    ((r : Refusal) → kept img r ≡ a → ⊥) → remove_of q n img ≡ a → remove_some q n img ≡ a
unfolding remove_of
removed_some q n img a h l k e =
    let g = (granted (sound q (length img)) _ _ a (k _) e).1 in
    left_out (leb q.elem_cnt n) _ _ (lt-leb q.elem_cnt n l)
    ∙ left_out (eqb q.elem_cnt 0) _ _ (ne_eqb q.elem_cnt 0 (λ z. omega (arith, l, z)))
    ∙ left_out (eqb n 0) _ _ (ne_eqb n 0 (λ z. omega (arith, h, z)))
    ∙ g

pub remove_is_committed : RemoveIsCommitted
unfolding remove_some
remove_is_committed img img' q q' n l c h k e =
    let some = removed_some q n img (Ok q', img') h k (not_kept img q' img') e in
    let d = skip_work img q' img' (skip_from img q.file_len n q.first) (remove_to q n img) some in
    after_commit (dropped q n d.element, img) (q', img') (removed_to q n img d.element q' img' d.answer)
    (remove_keeps_queue img img' q q' n l e).whole c

-- ---- clear

pub clear_stays_current : ClearStaysCurrent
unfolding clear_of cleared committed
clear_stays_current img img' q q' e =
    let w : Work = (next_state (emptied q), slot_stored (next_state (emptied q)) img) in
    let d = verdict_work img q' img' (judge_commit q (length img)) (cut (ring_zeroed w)) e in
    let l = sound-long q (length img) (commit_sound q (length img) d.0) in
    let b = zeroed-behind w in
    let f : (ring_zeroed w).0.format ≡ w.0.format = ap (λ (r : QueueFile). r.format) b.0 in
    subst UpToDate d.1
    (rw (cut-format (ring_zeroed w).0, f)
    (upto_kept w.1 (ring_zeroed w).1 w.0.format.active_slot w.0.format.generation b.1
    (stored-current w.0 img l.image)))

pub clear_is_committed : ClearIsCommitted
unfolding clear_of cleared committed
clear_is_committed img img' q q' c h e =
    let w = committed (emptied q, img) in
    let d = verdict_work img q' img' (judge_commit q (length img)) (cut (ring_zeroed w)) e in
    let b = zeroed-behind w in
    after_commit (emptied q, img) (q', img')
    (subst (Behind w) d.1 (ap cut_state b.0 ∙ not_cut (next_state (emptied q)) h, b.1))
    (clear_empties img img' q q' e).1.whole c

-- ---- a fresh image

pub fresh_is_committed : FreshIsCommitted
unfolding fresh_of
fresh_is_committed img img' n settings q' e =
    let a = granted _ _ _ (Ok q', img') (not_kept img q' img' _) e in
    let b = granted _ _ _ (Ok q', img') (not_kept img q' img' _) a.1 in
    let g = granted _ _ _ (Ok q', img') (not_kept img q' img' _) b.1 in
    let low : 8192 ≤ n = leb-true _ _ a.0 in
    let room : n ≤ length img = leb-true _ _ g.0 in
    let zeros : List ℕ = put_at img 0 (replicate n 0) in
    let d = done_work img q' img' (fresh_queue n settings, slot_stored (fresh_queue n settings) zeros) g.1 in
    let first : get_or zeros 4096 0 ≡ 0 =
    put_at-within img 0 (replicate n 0) 4096 (omega (arith, low, length-replicate {A = ℕ} n 0)) (omega (arith, low, room))
    ∙ get_or-replicate n 4096 0 0 (omega (arith, low)) in
    let whole = subst (λ (w : Work). LinkedOrEmpty w.1 w.0) (sym d) (inr (fresh_is_empty img img' n settings q' e).0) in
    subst (λ (w : Work). Committed w.1 w.0) d
    (then-committed (fresh_queue n settings) zeros _ (front_all _) whole
    (λ s. stored_elected (fresh_queue n settings) zeros s (zero_none zeros 1 first)))
