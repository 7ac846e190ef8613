-- `queue::strict::open_strict` meets its contract: a plain opening, then soundness, then the trail, in the definition's order. Assumes
-- nothing.
use mathlib.Core.Path.{sym, ◌∙◌}
use Rattle.std.proofs.lemmas.Result.{err_from_is_err_and}
use Rattle.refusal.specs.Demand.{demand}
use Rattle.queue.proofs.SoundQueueLaws.{judged}
use Rattle.queue.specs.Strict.{open_strictly}
use Rattle.queue.proofs.strict.open_strict.Goals as goal

pub check_trail-requires : goal.check_trail-requires
check_trail-requires c = (judged c.sound.ensures c.in_ok-sound.was).image_len

pub returns-in_err-check_trail : goal.returns-in_err-check_trail
unfolding open_strictly demand
returns-in_err-check_trail c =
    let j = judged c.sound.ensures c.in_ok-sound.was in
    let t = rw j.state at c.check_trail.ensures in
    let p = err_from_is_err_and c.from_residual-in_err-check_trail.result c.from_residual-in_err-check_trail.ensures.1 in
    rw (
      p.1,
      p.2,
      sym c.«open».ensures ∙ c.in_ok-q.was,
      j.sound,
      sym t ∙ c.in_err-check_trail.was,
    )

pub returns : goal.returns
unfolding open_strictly demand
returns c =
    let j = judged c.sound.ensures c.in_ok-sound.was in
    let t = rw j.state at c.check_trail.ensures in
    rw (
      sym c.«open».ensures ∙ c.in_ok-q.was,
      j.sound,
      sym t ∙ c.in_ok-check_trail.was,
    )
