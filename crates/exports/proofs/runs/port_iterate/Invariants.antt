-- `exports::runs::port_iterate` meets its contract. The loop's invariant: the whole run is what is left of it. Assumes nothing.
use Rattle.std.proofs.Common.{◌≡◌, ◌-◌}
use Rattle.exports.specs.Runs.{steps_of, steps_from}
use Rattle.exports.proofs.runs.port_iterate.Given as goal

abbrev pub invariant-loop-done : goal.invariant-loop-done
invariant-loop-done l = steps_of l.image l.real_len l.n l.fn.out ≡ steps_from l.q l.image (l.n - l.done) l.done l.cursor l.out
