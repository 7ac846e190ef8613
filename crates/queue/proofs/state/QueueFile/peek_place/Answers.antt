-- `queue::state::QueueFile::peek_place` meets its contract: its tests are those of the definition, and the first element of a queue that
-- has one lies in the ring. Assumes nothing.
use Prim.Native.Nat.{◌+◌, ◌-◌, ◌%◌, ◌<◌}
use native.Mathlib.Nat.{mod-lt}
use native.Mathlib.Omega.{arith}
use Rattle.std.proofs.lemmas.Result.{err_from_is_err_and}
use mathlib.Core.Path.{◌≡◌, refl, sym}
use borrow.Author.Tests.{ne_eqb, lt-leb, le-leb}
use Rattle.refusal.proofs.Laws.{met, unmet}
use Rattle.refusal.specs.Demand.{demand}
use Rattle.refusal.specs.Answer.{on_verdict}
use Rattle.queue.specs.Peek.{judge_peek_place}
use Rattle.queue.proofs.Sound.{first_lies}
use Rattle.queue.proofs.SoundQueueLaws.{judged}
use Rattle.queue.proofs.state.QueueFile.peek_place.Goals as goal
use Rattle.queue.proofs.state.QueueFile.peek_place.Goals.{After-validate_footer}
use Rattle.std.specs.Prelude.{Ok, Err, Some}

-- past the ring's end the footer decides
footer_decides : (c : After-validate_footer) →
    let a = c.args in
    on_verdict Err c.validate_footer.result
    (Ok (Some (record { offset = 8192 + c.add-start.result; len = a.self.first.len })))
    ≡ judge_peek_place a.self a.image.now
unfolding judge_peek_place demand
footer_decides c =
    let fits = rw c.add-start.ensures at c.if-start-first.false in
    rw (
      c.add-start.ensures,
      (judged c.sound.ensures c.in_ok-sound.was).sound,
      ne_eqb _ _ c.if-self-eq0.false,
      le-leb _ _ fits,
      sym c.validate_footer.ensures,
    )

pub add-start-requires : goal.add-start-requires
add-start-requires c =
    let l = first_lies _ _ (judged c.sound.ensures c.in_ok-sound.was).sound c.if-self-eq0.false in
    (l.some, l.inside, omega (arith, l.place, l.small))

pub overflow_add-start : goal.overflow_add-start
overflow_add-start c =
    let q = c.args.self in
    let l = first_lies _ _ (judged c.sound.ensures c.in_ok-sound.was).sound c.if-self-eq0.false in
    let b : (q.first.pos + 28) % (q.file_len - 8192) < q.file_len - 8192 = mod-lt (q.first.pos + 28) (omega (arith, l.some)) in
    rw c.add-start.ensures (omega (arith, b, l.small, l.span))

pub overflow_sub-self : goal.overflow_sub-self
overflow_sub-self c =
    let l = first_lies _ _ (judged c.sound.ensures c.in_ok-sound.was).sound c.if-self-eq0.false in
    omega (arith, l.some)

pub returns-then-start-first : goal.returns-then-start-first
unfolding judge_peek_place
returns-then-start-first c =
    let crosses = rw c.add-start.ensures at c.if-start-first.true in
    met _ _ _ (judged c.sound.ensures c.in_ok-sound.was).sound
    (rw (ne_eqb _ _ c.if-self-eq0.false)
    (unmet _ _ _ (lt-leb _ _ crosses) refl))

pub validate_footer-requires : goal.validate_footer-requires
validate_footer-requires c =
    first_lies _ _ (judged c.sound.ensures c.in_ok-sound.was).sound c.if-self-eq0.false

pub returns-in_err-validate_footer : goal.returns-in_err-validate_footer
returns-in_err-validate_footer c =
    let p = err_from_is_err_and c.from_residual-in_err-validate_footer.result c.from_residual-in_err-validate_footer.ensures.1 in
    rw (p.1, p.2, sym (footer_decides (goal.at.returns-in_err-validate_footer c).After-validate_footer), c.in_err-validate_footer.was)

pub returns : goal.returns
returns c = rw (sym (footer_decides (goal.at.returns c).After-validate_footer), c.in_ok-validate_footer.was)
