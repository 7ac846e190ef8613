-- `header::judge_slot` meets its contract: one of seven tests led to the refusal. Assumes nothing.
use native.Mathlib.Omega.{arith}
use Rattle.std.proofs.lemmas.Bool.Decides.{nat_tests}
use Rattle.refusal.proofs.Laws.{pass, stop}
use Rattle.header.proofs.judge_slot.Goals as goal

pub returns-then-data-ge9223372036854775808 : goal.returns-then-data-ge9223372036854775808
returns-then-data-ge9223372036854775808 c = grind (arith, pass, stop, nat_tests)
