-- `script::decimal::parse_number` meets its contract, by the invariant that Invariants.antt tells. Assumes nothing.
use native.Mathlib.Omega.{arith}
use native.Mathlib.Numerals.{add-one}
use mathlib.Core.Path.{sym, ◌∙◌}
use lib.ListN.{get_or, drop_of_length-le}
use Rattle.std.proofs.Common.{rules}
use Rattle.script.proofs.DigitLaws.{worth_some, worth_none}
use Rattle.script.proofs.DecimalLaws.{number-empty, number-some, number_turn, number_stops, number_over, number-ends}
use Rattle.script.proofs.decimal.parse_number.Goals as goal

pub returns-then-is_empty : goal.returns-then-is_empty
returns-then-is_empty c = sym (number-empty c.args.word.now (search rules))

pub loop-b-init : goal.loop-b-init
loop-b-init c = (search rules, sym (number-some c.args.word.now (search rules)))

pub returns-in_err-digit : goal.returns-in_err-digit
returns-in_err-digit c =
    let s = c.args.word.now in
    let i = c.loop-b.b-index in
    let none = worth_none (get_or s i 0) (sym c.digit.ensures ∙ c.in_err-digit.was) in
    c.from_residual.ensures ∙ sym (number_stops c.loop-b.n s i (omega arith) (omega (arith, none))) ∙ c.loop-b.invariant.1

pub returns-then-d-gt9 : goal.returns-then-d-gt9
returns-then-d-gt9 c =
    let s = c.args.word.now in
    let i = c.loop-b.b-index in
    let some = worth_some (get_or s i 0) c.in_ok-digit.field-0 (sym c.digit.ensures ∙ c.in_ok-digit.was) in
    sym (number_stops c.loop-b.n s i (omega arith) (omega (arith, some))) ∙ c.loop-b.invariant.1

pub returns-then-n-d : goal.returns-then-n-d
returns-then-n-d c =
    let s = c.args.word.now in
    let d = worth_some (get_or s c.loop-b.b-index 0) c.in_ok-digit.field-0 (sym c.digit.ensures ∙ c.in_ok-digit.was) in
    sym (number_over c.loop-b.n s c.loop-b.b-index (omega arith) c.from-d.result (omega (arith, d)) (omega arith) (omega arith))
    ∙ c.loop-b.invariant.1

pub loop-b-preserved : goal.loop-b-preserved
loop-b-preserved c =
    let s = c.args.word.now in
    let d = worth_some (get_or s c.loop-b.b-index 0) c.in_ok-digit.field-0 (sym c.digit.ensures ∙ c.in_ok-digit.was) in (
      search rules,
      rw add-one
          (sym (number_turn c.loop-b.n s c.loop-b.b-index (omega arith) c.from-d.result (omega (arith, d)) (omega arith))
          ∙ c.loop-b.invariant.1),
    )

pub returns : goal.returns
returns c =
    let s = c.args.word.now in
    sym (number-ends c.loop-b.n c.loop-b.invariant.0) ∙ (rw (drop_of_length-le s c.loop-b-test.false) at c.loop-b.invariant.1)
