-- `write_some` appends what it answers and no try before it: a write that is interrupted leaves the writer as it was. Assumes nothing.
use Rattle.std.specs.Io.KnownBytes.{Keeps}
use Rattle.text.proofs.write_some.Given as goal

abbrev pub invariant-loop : goal.invariant-loop
invariant-loop g l = Keeps (g.W.Write.contents l.initial.out) (g.W.Write.contents l.out)
