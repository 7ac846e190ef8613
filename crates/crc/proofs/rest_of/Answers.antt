-- `crc::rest_of` meets its contract: what is read so far leaves room for a byte. Assumes nothing.
use native.Mathlib.Omega.{arith}
use Rattle.crc.proofs.Parts.{byte_read, room_before}
use Rattle.crc.proofs.rest_of.Goals as goal

pub overflow_mul-w : goal.overflow_mul-w
overflow_mul-w c =
    let r = room_before c.args.rest.now _ c.loop-b.invariant.0 c.in-Some.b.now c.loop-b.w (rw c.in-Some.ensures.steps at c.loop-b.invariant.1) c.loop-b.invariant.2 (λ j. (c.type_inv.rest j).fits) c.requires in
    omega arith

pub overflow_add-w : goal.overflow_add-w
overflow_add-w c =
    let r = room_before c.args.rest.now _ c.loop-b.invariant.0 c.in-Some.b.now c.loop-b.w (rw c.in-Some.ensures.steps at c.loop-b.invariant.1) c.loop-b.invariant.2 (λ j. (c.type_inv.rest j).fits) c.requires in
    omega (arith, c.from.ensures)

pub loop-b-preserved : goal.loop-b-preserved
loop-b-preserved c =
    byte_read c.args.rest.now _ c.loop-b.invariant.0 c.in-Some.b.now c.loop-b.w (rw c.in-Some.ensures.steps at c.loop-b.invariant.1) c.loop-b.invariant.2 c.from.result c.from.ensures
