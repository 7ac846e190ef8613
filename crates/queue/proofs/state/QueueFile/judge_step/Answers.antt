-- `queue::state::QueueFile::judge_step` meets its contract: its tests are those of the definition, and an element whose header is valid
-- lies in the ring. Assumes nothing.
use native.Mathlib.Omega.{arith}
use Rattle.std.proofs.lemmas.Result.{err_from_is_err_and}
use mathlib.Core.Path.{◌≡◌, refl, sym, ◌∙◌}
use lib.ListN.{length}
use borrow.Author.Tests.{le-leb, lt-leb, lt-ltb}
use Rattle.refusal.proofs.Laws.{decide, met, unmet}
use Rattle.refusal.specs.Demand.{demand}
use Rattle.refusal.specs.Answer.{on_verdict}
use Rattle.queue.specs.Element.{Lies}
use Rattle.queue.specs.Iter.{step_here, judge_step}
use Rattle.queue.proofs.Sound.{sound_lengths_lem}
use Rattle.queue.proofs.SoundQueueLaws.{judged}
use Rattle.queue.proofs.IterLaws.{header_lies}
use Rattle.queue.proofs.state.QueueFile.judge_step.Goals as goal
use Rattle.queue.proofs.state.QueueFile.judge_step.Goals.{After-here-elem, After-validate_footer}
use Rattle.std.specs.Prelude.{Ok, Err, Some}

-- an element whose header is valid lies in the ring
lies : (c : After-here-elem) →
    let a = c.args in
    Lies (length a.image.now) a.self.file_len c.here-elem.result
lies c =
    rw c.here-elem.ensures
    (header_lies _ _ _ _
    (judged c.sound.ensures c.in_ok-sound.was).sound
    c.if-cursor-self-2.false
    (sym c.header_at.ensures ∙ c.in_ok-header.was))

-- past the output's room the footer decides
footer_decides : (c : After-validate_footer) →
    let a = c.args in
    on_verdict Err c.validate_footer.result (Ok (Some (step_here a.self.file_len a.cursor c.in_ok-header.header)))
    ≡ judge_step a.self a.image.now a.cursor a.room
unfolding judge_step demand
footer_decides c =
    rw (
      (judged c.sound.ensures c.in_ok-sound.was).sound,
      lt-leb _ _ c.if-cursor-self.false,
      lt-ltb _ _ c.if-cursor-self-2.false,
      sym c.header_at.ensures ∙ c.in_ok-header.was,
      le-leb _ _ c.if-header-room.false,
      sym c.here-elem.ensures,
      sym c.validate_footer.ensures,
    )

pub overflow_sub-self : goal.overflow_sub-self
overflow_sub-self c =
    (sound_lengths_lem _ _ (judged c.sound.ensures c.in_ok-sound.was).sound).start

pub returns-then-cursor-self-2 : goal.returns-then-cursor-self-2
unfolding judge_step
returns-then-cursor-self-2 c = met _ _ _ (judged c.sound.ensures c.in_ok-sound.was).sound (rw (lt-leb _ _ c.if-cursor-self.false) (search decide))

pub header_at-requires : goal.header_at-requires
header_at-requires c =
    let l = sound_lengths_lem _ _ (judged c.sound.ensures c.in_ok-sound.was).sound in
    (omega (arith, c.if-cursor-self-2.false), omega (arith, l.real, l.inside))

pub returns-in_err-header : goal.returns-in_err-header
unfolding judge_step
returns-in_err-header c =
    let p = err_from_is_err_and c.from_residual-in_err-header.result c.from_residual-in_err-header.ensures.1 in
    rw (p.1, p.2)
    (met _ _ _ (judged c.sound.ensures c.in_ok-sound.was).sound
    (rw (lt-leb _ _ c.if-cursor-self.false)
    (met _ _ _ (lt-ltb _ _ c.if-cursor-self-2.false)
    (rw (sym c.header_at.ensures ∙ c.in_err-header.was)))))

pub returns-then-header-room : goal.returns-then-header-room
unfolding judge_step
returns-then-header-room c =
    met _ _ _ (judged c.sound.ensures c.in_ok-sound.was).sound
    (rw (lt-leb _ _ c.if-cursor-self.false)
    (met _ _ _ (lt-ltb _ _ c.if-cursor-self-2.false)
    (rw (sym c.header_at.ensures ∙ c.in_ok-header.was)
    (unmet _ _ _ (lt-leb _ _ c.if-header-room.true) refl))))

pub validate_footer-requires : goal.validate_footer-requires
validate_footer-requires c = lies (goal.at.validate_footer-requires c).After-here-elem

pub returns-in_err-validate_footer : goal.returns-in_err-validate_footer
returns-in_err-validate_footer c =
    let p = err_from_is_err_and c.from_residual-in_err-validate_footer.result c.from_residual-in_err-validate_footer.ensures.1 in
    rw (p.1, p.2, sym (footer_decides (goal.at.returns-in_err-validate_footer c).After-validate_footer), c.in_err-validate_footer.was)

pub overflow_add-span : goal.overflow_add-span
overflow_add-span c =
    let l = lies (goal.at.overflow_add-span c).After-here-elem in
    omega (arith, l.span, l.small)

pub add-requires : goal.add-requires
add-requires c =
    let l = lies (goal.at.add-requires c).After-here-elem in
    (l.some, l.inside, omega (arith, l.place, l.span, l.small))

pub returns : goal.returns
returns c =
    rw (sym (footer_decides (goal.at.returns c).After-validate_footer), c.in_ok-validate_footer.was, c.add.ensures, c.here-elem.ensures)
