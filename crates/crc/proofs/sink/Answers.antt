-- `crc::sink` meets its contract, by the invariant that Invariants.antt tells. Assumes nothing.
use mathlib.Core.Path.{◌≡◌, ap, ap₂, ◌∙◌}
use Prim.Native.Nat.{ℕ, suc, ◌+◌, ◌-◌, ◌*◌, ◌/◌, ◌%◌, ◌^◌}
use native.Mathlib.Omega.{arith}
use lib.ListN.{get_or}
use lib.Bits.{and_mask}
use Rattle.crc.specs.Crc.{shifts}
use Rattle.crc.proofs.Rows.{look_up, none_yet}
use Rattle.crc.proofs.sink.Goals as goal

pub loop-j-init : goal.loop-j-init
loop-j-init c = none_yet c.args.x (omega arith)

pub loop-j-preserved : goal.loop-j-preserved
loop-j-preserved c =
    let a = c.args in
    let j = c.loop-j.j in
    let n = 60 - j * 4 in
    let above : 64 - j * 4 ≡ n + 4 = omega arith in
    let below : n ≡ 64 - (j + 1) * 4 = omega arith in
    let next : suc j * 4 ≡ (j + 1) * 4 = omega arith in
    let y = a.x / 2 ^ n in
    look_up j n a.x c.loop-j.r _ (c.loop-j.invariant ∙ ap (λ (k : ℕ). shifts (j * 4) (a.x / 2 ^ k)) above)
    (ap (λ (k : ℕ). get_or c.table-t.result.now (j * 16 + k) 0) (and_mask y 4) ∙ c.table-t.ensures.0 j (y % 16) (omega arith) (omega arith))
    ∙ ap₂ (λ (k m : ℕ). shifts k (a.x / 2 ^ m)) next below
