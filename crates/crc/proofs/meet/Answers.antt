-- `crc::meet` meets its contract: the word goes into the sum of the register and what waits for it. Assumes nothing.
use mathlib.Core.Path.{ap₂, ◌∙◌}
use Prim.Native.Nat.{ℕ}
use lib.Bits.{bit_xor}
use Rattle.crc.specs.Crc.{shifts}
use Rattle.crc.proofs.Parts.{all_bytes, meets}
use Rattle.crc.proofs.meet.Goals as goal

pub returns : goal.returns
returns c =
    let a = c.args in
    meets a.w.now a.s a.waiting c.sink.result c.told-w (all_bytes a.w.now c.fits-w)
    (c.sink.ensures ∙ ap₂ (λ (s w : ℕ). shifts 64 (bit_xor (bit_xor s a.waiting) w)) c.from.ensures c.word_of.ensures)
