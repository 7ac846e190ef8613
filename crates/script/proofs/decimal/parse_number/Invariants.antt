-- `script::decimal::parse_number` meets its contract. The invariant: the digits so far make n, and what n and the rest spell is what the
-- word spells.
-- Assumes nothing.
use mathlib.Core.Path.{◌≡◌}
use Prim.Native.Nat.{◌^◌, ◌<◌}
use lib.ListN.{drop}
use Rattle.script.specs.Decimal.{number_of}
use Rattle.script.proofs.DecimalLaws.{goes_on}
use Rattle.script.proofs.decimal.parse_number.Given as goal

abbrev pub invariant-loop-b : goal.invariant-loop-b
invariant-loop-b l = (l.n < 2 ^ 64) × (goes_on l.n (drop l.b-index l.word) ≡ number_of l.word)
