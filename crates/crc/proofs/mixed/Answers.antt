-- `crc::mixed` meets its contract. Assumes nothing.
use mathlib.Core.Path.{ap₂}
use Prim.Native.Nat.{ℕ}
use native.Mathlib.Omega.{arith}
use lib.ListN.{get_or}
use lib.Bits.{bit_xor}
use Rattle.std.proofs.Common.{rules, refl}
use Rattle.crc.specs.Words.{reach}
use Rattle.crc.proofs.Far.{mixed_done}
use Rattle.crc.proofs.Places.{each_place}
use Rattle.crc.proofs.mixed.Goals as goal

pub returns : goal.returns
returns c =
    let far = c.args.far.now in
    let last = c.args.last.now in
    mixed_done far c.requires.0 c.told-far last c.from_fn.result c.from_fn.ensures.items.long c.requires.1
    (λ (k : ℕ) h. each_place (c.args.far, c.args.last) (λ i. bit_xor (reach far i) (get_or last i 0))
    (λ i r q called. let m = called.met in (search rules, ap₂ (λ a b. (a, b)) (search rules) (search rules)))
    c.from_fn.result (c.args.far, c.args.last) 0 304 k k (omega arith) refl c.from_fn.ensures.items.each h)
