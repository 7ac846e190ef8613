-- `script::line::word` meets its contract: the words are the parts between spaces. Assumes nothing.
use mathlib.Core.Path.{◌≡◌, refl}
use mathlib.Core.List.{List, []}
use Prim.Native.Nat.{ℕ}
use denote.Ref.{Bor}
use Rattle.std.proofs.Common.{rules, tests, eqb, Option, Some, None}
use Rattle.std.specs.List.{slice_split}
use Rattle.std.specs.Option.{option_map, unwrap_or}
use Rattle.std.proofs.lemmas.Iterator.Consumers.{nth_from_yields_List}
use Rattle.std.proofs.lemmas.Iterator.Splits.{YieldsList-from_slice_split}
use Rattle.std.proofs.lemmas.Option.{unwrap_or-slice_get}
use Rattle.script.specs.Line.{word_at}
use Rattle.script.proofs.LineLaws.{words_split}
use Rattle.script.proofs.line.word.Goals as goal

seen : (o : Option (Bor (List ℕ))) (d : Bor (List ℕ)) → (unwrap_or o d).now ≡ unwrap_or (option_map (λ (x : Bor (List ℕ)). x.now) o) d.now
seen None d = refl
seen (Some x) d = refl

pub returns : goal.returns
unfolding word_at
returns c =
    let s = c.args.line.now in
    let got =
    nth_from_yields_List c.nth.result c.nth.new.self c.args.i c.nth.ensures.ran (YieldsList-from_slice_split _ (λ b. eqb b 32) s c.split.ensures.rest c.split.ensures.done c.split.ensures.closure (λ x b q k. search (rules, tests))) in
    rw (c.unwrap_or.ensures, seen c.nth.result _, got, words_split s) (unwrap_or-slice_get (slice_split (λ b. eqb b 32) s) c.args.i [])
