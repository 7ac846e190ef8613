-- `script::hex::all_hex_digits` meets its contract: a byte is a digit where it is worth less than 16. Assumes nothing.
use mathlib.Core.Path.{sym, ◌∙◌}
use Rattle.std.proofs.Common.{rules, tests}
use Rattle.std.specs.Option.{is_some}
use Rattle.std.proofs.lemmas.Iterator.{YieldsList-from_slice}
use Rattle.std.proofs.lemmas.Iterator.Search.{all_from_yields_List}
use Rattle.script.specs.Digit.{digit_of}
use Rattle.script.proofs.DigitLaws.{below_all}
use Rattle.script.proofs.hex.all_hex_digits.Goals as goal

pub returns : goal.returns
returns c =
    let s = c.args.word.now in
    all_from_yields_List (λ b. is_some (digit_of b)) _ _ c.all.result c.all.ensures.ran (YieldsList-from_slice s c.iter.ensures.rest) (λ x b q k. search (rules, tests))
    ∙ sym (below_all s)
