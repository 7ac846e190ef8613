-- `crc::clear` meets its contract: the library's fill puts zeros in the place of the bytes behind the first 300. Assumes nothing.
use native.Mathlib.Omega.{arith}
use lib.ListN.{drop, length-drop}
use lib.Seq.{length-take-le}
use Rattle.crc.proofs.Far.{cleared}
use Rattle.crc.proofs.clear.Goals as goal

pub returns : goal.returns
returns c =
    let far = c.args.far.now in
    cleared far c.fill.new.self _ _ (omega (arith, c.told-far)) (length-take-le 159 (drop 300 far) (omega (arith, c.told-far, length-drop 300 far))) (c.fill.ensures.after (λ y e. e))
