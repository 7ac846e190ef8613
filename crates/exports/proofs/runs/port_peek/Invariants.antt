-- `exports::runs::port_peek` meets its contract. The loop's invariant: the whole run is what is left of it. Assumes nothing.
use Rattle.std.proofs.Common.{◌≡◌, ◌-◌}
use Rattle.exports.specs.Runs.{peeks_of, peeks_from}
use Rattle.exports.proofs.runs.port_peek.Given as goal

abbrev pub invariant-loop-done : goal.invariant-loop-done
invariant-loop-done l = peeks_of l.image l.real_len l.n l.fn.out ≡ peeks_from l.q l.image (l.n - l.done) l.done l.out
