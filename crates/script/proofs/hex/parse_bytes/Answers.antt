-- `script::hex::parse_bytes` meets its contract: the part that `fill` is lent has a byte for each pair of the word's digits.
-- Assumes nothing.
use native.Mathlib.Omega.{arith}
use mathlib.Core.Path.{sym, ◌∙◌}
use Prim.Native.Nat.{◌/◌}
use lib.ListN.{length}
use lib.Seq.{length-take-le}
use Rattle.script.proofs.HexLaws.{hex_pairs}
use Rattle.script.proofs.hex.parse_bytes.Goals as goal

pub fill-requires : goal.fill-requires
fill-requires c =
    let a = c.args in
    let word = hex_pairs a.word.now (sym c.is_hex.ensures ∙ c.if-not-is_hex.false) in
    record {
      pairs = rw (length-take-le (length a.word.now / 2) a.out.now (omega arith)) (omega arith);
      digits = word.1;
    }
