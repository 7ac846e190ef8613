-- `script::line::count_words` meets its contract. The invariant: one more than the spaces so far.
-- Assumes nothing.
use mathlib.Core.Path.{◌≡◌}
use Prim.Native.Nat.{◌+◌}
use lib.Dec.{eqb}
use lib.ListN.{take}
use Rattle.std.specs.List.{count_by}
use Rattle.script.proofs.line.count_words.Given as goal

abbrev pub invariant-loop-b : goal.invariant-loop-b
invariant-loop-b l = l.n ≡ 1 + count_by (λ b. eqb b 32) (take l.b-index l.line)
