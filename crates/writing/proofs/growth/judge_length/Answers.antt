-- `writing::growth::judge_length` meets its contract: the numbers decide, then the length. Assumes nothing.
use mathlib.Core.Path.{◌≡◌, sym, ap, ◌∙◌}
use Prim.Native.Nat.{ℕ, ◌+◌}
use borrow.Author.Tests.{le-leb, lt-leb}
use Rattle.refusal.specs.Demand.{demand}
use Rattle.std.specs.Prelude.{Result}
use Rattle.refusal.specs.declared.Refusal.{Refusal}
use Rattle.queue.specs.declared.state.QueueFile.{QueueFile}
use Rattle.writing.specs.Commit.{judge_numbers}
use Rattle.writing.specs.Length.{grow_length}
use Rattle.writing.specs.Growth.{growth_commits, within_image, judge_length}
use Rattle.writing.proofs.growth.judge_length.Goals as goal
use Rattle.writing.proofs.growth.judge_length.Goals.{After-compute_expanded_len}

-- what the numbers answer, with the commits as the definition counts them
numbers_said : (q : QueueFile) (span commits elements g : ℕ) (v : Result (Unit {0}) Refusal) → g ≡ growth_commits q span
    → v ≡ judge_numbers q (commits + g) elements → judge_numbers q (commits + growth_commits q span) elements ≡ v
numbers_said q span commits elements g v e h = ap (λ (n : ℕ). judge_numbers q (commits + n) elements) (sym e) ∙ sym h

-- past the numbers the length decides
length_decides : (c : After-compute_expanded_len) →
    let a = c.args in
    judge_length a.q.state a.q.image_len a.data_len a.commits a.elements ≡ within_image a.q.image_len c.compute_expanded_len.result
unfolding judge_length
length_decides c =
    let a = c.args in
    rw (
      numbers_said _ _ _ _ _ _ c.growth_commits.ensures.0 c.judge_numbers.ensures ∙ c.in_ok-judge_numbers.was,
      c.compute_expanded_len.ensures ∙ ap (λ (m : ℕ). grow_length a.q.state.file_len m a.data_len) c.remaining.ensures,
    )

pub returns-then-new_len-q : goal.returns-then-new_len-q
unfolding demand
returns-then-new_len-q c =
    rw (
      length_decides (goal.at.returns-then-new_len-q c).After-compute_expanded_len,
      c.in_ok-new_len.was,
      lt-leb _ _ c.if-new_len-q.true,
    )

pub returns : goal.returns
unfolding demand
returns c =
    rw (
      length_decides (goal.at.returns c).After-compute_expanded_len,
      c.in_ok-new_len.was,
      le-leb _ _ c.if-new_len-q.false,
    )
