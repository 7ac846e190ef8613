-- `script::line::line_end` meets its contract: behind the start the first newline is looked for. Assumes nothing.
use native.Mathlib.Omega.{arith}
use Prim.Native.Nat.{ℕ, ◌+◌, ◌-◌}
use mathlib.Core.Path.{◌≡◌, sym, ap, ◌∙◌}
use lib.Dec.{eqb}
use lib.ListN.{length, drop}
use Rattle.std.proofs.lemmas.List.{take_all, length-drop}
use Rattle.std.proofs.Common.{rules, tests}
use Rattle.std.specs.List.{position}
use Rattle.std.proofs.lemmas.Iterator.{YieldsList-from_slice}
use Rattle.std.proofs.lemmas.Iterator.Search.{position_from_yields_List}
use Rattle.script.proofs.LineLaws.{next_from, next_end, first_place}
use Rattle.script.proofs.line.line_end.Goals as goal

pub returns-then-from-text-clause-value : goal.returns-then-from-text-clause-value
returns-then-from-text-clause-value c = sym (next_end 10 c.args.text.now c.args.from (omega arith))

pub returns-clause-value : goal.returns-clause-value
returns-clause-value c =
    let s = c.args.text.now in
    let from = c.args.from in
    let ahead : c.position-newline.result ≡ position (λ b. eqb b 10) (drop from s) =
    position_from_yields_List (λ b. eqb b 10) _ _ c.position-newline.result c.position-newline.ensures.ran (YieldsList-from_slice (drop from s) (c.iter.ensures.rest ∙ take_all (length s - from) (drop from s) (rw length-drop (omega arith)))) (λ x b q k. search (rules, tests)) in
    rw (next_from 10 s from (omega arith), c.unwrap_or.ensures, ahead, take_all (length s - from) (drop from s) (rw length-drop (omega arith)))
    (ap (λ (n : ℕ). from + n) (first_place (λ b. eqb b 10) (drop from s)))
