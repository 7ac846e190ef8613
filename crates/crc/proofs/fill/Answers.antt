-- `crc::fill` meets its contract, by the invariant that Invariants.antt tells. Assumes nothing.
use mathlib.Core.Path.{◌≡◌, refl, sym, ap, ◌∙◌}
use mathlib.Core.List.{List}
use Prim.Native.Nat.{ℕ, ◌+◌}
use native.Mathlib.Omega.{arith}
use lib.ListN.{get_or, take, drop, length, length-set}
use lib.Seq.{take-length}
use lib.Bits.{bit_xor, xor_lt}
use Rattle.crc.specs.Crc.{bytes_in}
use Rattle.crc.specs.Words.{spread}
use Rattle.crc.proofs.Far.{fill_turn}
use Rattle.crc.proofs.fill.Goals as goal

pub loop-i-init : goal.loop-i-init
unfolding bytes_in
loop-i-init c = (c.told-far, λ ys m. refl)

pub loop-i-preserved : goal.loop-i-preserved
loop-i-preserved c =
    let far = c.loop-i.far in
    let i = c.loop-i.i in
    let block = c.args.block.now in
    let w = get_or block i 0 in
    let x = bit_xor c.reach_of.result w in (
      length-set far (300 + i) x ∙ c.loop-i.invariant.0,
      fill_turn far block i x (spread (take 300 c.args.far.now)) (omega (arith, c.loop-i.invariant.0, c.loop-i-test.true, c.requires)) c.loop-i-test.true
          (ap (λ (y : ℕ). bit_xor y w) c.reach_of.ensures) (xor_lt 8 c.reach_of.result w (omega arith) (c.type_inv.block i).fits) c.loop-i.invariant.1,
    )

pub returns : goal.returns
returns c ys m =
    let block = c.args.block.now in
    let e : c.loop-i.i ≡ length block = omega (arith, c.loop-i.auto.i-end, c.loop-i-test.false) in
    ap (λ (k : ℕ). bytes_in (spread (take 300 (drop k c.loop-i.far))) ys) (sym e)
    ∙ c.loop-i.invariant.1 ys m
    ∙ ap (λ (z : List ℕ). bytes_in (bytes_in (spread (take 300 c.args.far.now)) z) ys) (ap (λ (k : ℕ). take k block) e ∙ take-length block)
