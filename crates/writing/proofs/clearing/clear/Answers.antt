-- `writing::clearing::clear` meets its contract: its steps are the definition's, one after the other. Assumes nothing.
use mathlib.Core.Path.{sym, ◌∙◌}
use native.Mathlib.Omega.{arith}
use Rattle.writing.proofs.CommitLaws.{commit_storable}
use Rattle.writing.proofs.clearing.clear.Goals as goal

pub sync_header-committed-requires : goal.sync_header-committed-requires
sync_header-committed-requires c =
    let storable = commit_storable _ _ (sym c.judge_commit.ensures ∙ c.in_ok-judge_commit.was) in
    record { generation = storable.generation; first = omega arith; last = omega arith }
