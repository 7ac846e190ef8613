-- `crc::settle` meets its contract, by the invariant that Invariants.antt tells. Assumes nothing.
use mathlib.Core.Path.{sym, ap, ap₂, ◌∙◌}
use mathlib.Core.List.{List}
use Prim.Native.Nat.{ℕ}
use native.Mathlib.Omega.{arith}
use lib.ListN.{length}
use lib.Bits.{bit_xor}
use Rattle.std.proofs.Common.{rules}
use Rattle.std.proofs.lemmas.Iterator.{empty_from_Zip}
use Rattle.std.specs.Iterator.Adapters.{zip_first, zip_second}
use Rattle.std.specs.Slice.Iter.{iter_rest}
use Rattle.std.specs.List.{concat}
use Rattle.crc.specs.Crc.{bytes_in}
use Rattle.crc.specs.Words.{number}
use Rattle.crc.proofs.Parts.{settle_turn, all_settled}
use Rattle.crc.proofs.settle.Goals as goal

pub loop-waiting-init : goal.loop-waiting-init
loop-waiting-init c = search rules

pub loop-waiting-preserved : goal.loop-waiting-preserved
loop-waiting-preserved c =
    let e = c.in-Some.ensures.steps in
    let ps = iter_rest (zip_first c.next.new.self) in
    let ws = iter_rest (zip_second c.next.new.self) in
    let n = c.loop-waiting.invariant.0 in (
      omega (arith, ap length e.0, ap length e.1, n),
      settle_turn c.in-Some.waiting.now ps c.in-Some.w.now ws c.loop-waiting.s c.meet-s.result c.meet-s.ensures
          ∙ ap₂ (λ (l : List ℕ) (m : List (List ℕ)). bytes_in (bit_xor c.loop-waiting.s (number l)) (concat m)) (sym e.0) (sym e.1)
          ∙ c.loop-waiting.invariant.1,
    )

pub returns : goal.returns
returns c =
    let none = empty_from_Zip _ c.next.new.self _ c.in-None.is c.next.ensures.steps c.loop-waiting.invariant.0 in
    all_settled c.loop-waiting.s
    ∙ ap₂ (λ (l : List ℕ) (m : List (List ℕ)). bytes_in (bit_xor c.loop-waiting.s (number l)) (concat m)) (sym none.0) (sym none.1)
    ∙ c.loop-waiting.invariant.1
