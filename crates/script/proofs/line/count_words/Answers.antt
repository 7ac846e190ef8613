-- `script::line::count_words` meets its contract, by the invariant that Invariants.antt tells. Assumes nothing.
use native.Mathlib.Omega.{arith}
use lib.Seq.{take_all}
use Rattle.script.proofs.LineLaws.{words_count}
use Rattle.script.proofs.line.count_words.Goals as goal

pub returns : goal.returns
returns c =
    let s = c.args.line.now in
    let spaces = rw (take_all c.loop-b.b-index s (omega arith)) at c.loop-b.invariant in
    omega (arith, words_count s, spaces)
