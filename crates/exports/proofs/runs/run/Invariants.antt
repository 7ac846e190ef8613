-- `exports::runs::run` meets its contract. The loop's invariant: whatever the calls follow, the whole run is what is left of it.
-- Assumes nothing.
use Rattle.std.proofs.Common.{◌≡◌, ◌-◌}
use Rattle.exports.specs.Runs.{Follows, run_of, run_from}
use Rattle.exports.proofs.runs.run.Given as goal

abbrev pub invariant-loop-done : goal.invariant-loop-done
invariant-loop-done g l = (op : _) → Follows (goal.F-post g l.operation) op →
    run_of op l.n l.real_len l.fn.image ≡ run_from op (l.n - l.done) l.done l.q l.image
