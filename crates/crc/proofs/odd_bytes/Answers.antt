-- `crc::odd_bytes` meets its contract: where no byte is left, the register stands; else the bytes are at the top of a word.
-- Assumes nothing.
use mathlib.Core.Path.{sym}
use lib.ListN.{length}
use Rattle.std.proofs.lemmas.Bool.{eqb-true}
use Rattle.crc.proofs.Parts.{few_bytes, none_in}
use Rattle.crc.proofs.odd_bytes.Goals as goal

pub returns-then-is_empty : goal.returns-then-is_empty
returns-then-is_empty c = none_in c.args.rest.now c.args.s (eqb-true (length c.args.rest.now) 0 (sym c.if-is_empty.ensures))

pub returns : goal.returns
returns c =
    few_bytes c.args.rest.now c.args.s c.from-y.result c.rest_of.result c.sink.result (λ j. (c.type_inv.rest j).fits) c.requires c.from-y.ensures c.rest_of.ensures c.sink.ensures
