-- `writing::expansion::expand_if_necessary` meets its contract: what was planned and checked is what it grows to, and what is refused
-- leaves the image as it was. Assumes nothing.
use mathlib.Core.Path.{◌≡◌, sym, ap, ◌∙◌}
use lib.ListN.{length}
use Rattle.std.proofs.lemmas.Result.{err_from_is_err_and}
use Rattle.refusal.proofs.Laws.{met}
use Rattle.queue.proofs.SoundQueueLaws.{judged}
use Rattle.writing.specs.Work.{done}
use Rattle.writing.specs.Expansion.{judge_expansion, expand_of}
use Rattle.writing.proofs.PlanLaws.{expansion_expands}
use Rattle.writing.proofs.expansion.expand_if_necessary.Goals as goal
use Rattle.writing.proofs.expansion.expand_if_necessary.Goals.{After-judge_length}

-- the length is what the definition judges
planned : (c : After-judge_length) →
    let a = c.args in
    c.judge_length.result ≡ judge_expansion a.q (length a.image.now) a.data_len
unfolding judge_expansion
planned c =
    let j = judged c.sound.ensures c.in_ok-q.was in
    let e = rw (j.state, j.image_len) at c.judge_length.ensures in
    met _ _ _ j.sound e

pub returns-in_err-new_len : goal.returns-in_err-new_len
unfolding expand_of
returns-in_err-new_len c =
    let p = err_from_is_err_and c.from_residual-in_err-new_len.result c.from_residual-in_err-new_len.ensures.1 in
    rw (p.1, p.2, sym (planned (goal.at.returns-in_err-new_len c).After-judge_length) ∙ c.in_err-new_len.was)

pub check_growth-requires : goal.check_growth-requires
check_growth-requires c = (judged c.sound.ensures c.in_ok-q.was).image_len

pub returns-in_err-check_growth : goal.returns-in_err-check_growth
unfolding expand_of
returns-in_err-check_growth c =
    let g = rw (judged c.sound.ensures c.in_ok-q.was).state at c.check_growth.ensures in
    let p = err_from_is_err_and c.from_residual-in_err-check_growth.result c.from_residual-in_err-check_growth.ensures.1 in
    rw (
      p.1,
      p.2,
      sym (planned (goal.at.returns-in_err-check_growth c).After-judge_length) ∙ c.in_ok-new_len.was,
      sym g ∙ c.in_err-check_growth.was,
    )

pub grow_to-requires : goal.grow_to-requires
grow_to-requires c =
    rw (judged c.sound.ensures c.in_ok-q.was).state
    (expansion_expands _ _ _ _ (sym (planned (goal.at.grow_to-requires c).After-judge_length) ∙ c.in_ok-new_len.was))

pub returns : goal.returns
unfolding expand_of
returns c =
    let j = judged c.sound.ensures c.in_ok-q.was in
    let g = rw j.state at c.check_growth.ensures in
    let l = rw j.state at c.grow_to.ensures in
    rw (sym (planned (goal.at.returns c).After-judge_length) ∙ c.in_ok-new_len.was, sym g ∙ c.in_ok-check_growth.was)
    (ap done l)
