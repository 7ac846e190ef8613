-- `writing::committing::commit` meets its contract: it commits just what is judged, and a state so judged can be stored. Assumes nothing.
use mathlib.Core.Path.{sym, ◌∙◌}
use Rattle.writing.proofs.CommitLaws.{commit_storable}
use Rattle.writing.proofs.committing.commit.Goals as goal

pub sync_header-requires : goal.sync_header-requires
sync_header-requires c =
    commit_storable _ _ (sym c.judge_commit.ensures ∙ c.in_ok-judge_commit.was)
