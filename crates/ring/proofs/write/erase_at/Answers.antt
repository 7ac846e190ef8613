-- `ring::write::erase_at` meets its contract: what `erase_ring` does to the ring it does to the image. Assumes nothing.
use mathlib.Core.Path.{◌≡◌}
use Prim.Native.Nat.{ℕ, ◌-◌}
use native.Mathlib.Omega.{arith}
use lib.ListN.{length, replicate}
use borrow.Rule.Slice.PartMut.{mid_of, mid_len}
use Rattle.ring.proofs.Lent.{write_lent}
use Rattle.ring.proofs.write.erase_at.Goals as goal

pub returns-clause-image_after : goal.returns-clause-image_after
returns-clause-image_after c =
    let a = c.args in
    let size : ℕ = a.file_len - 8192 in
    let there = c.in_ok-capacity.ensures.there in
    let long : length (mid_of 8192 size a.image.now) ≡ size = mid_len 8192 a.file_len a.image.now (omega (arith, there)) in
    rw (c.erase_ring.ensures, long) (write_lent 8192 size a.image.now a.logical_pos (replicate a.len 0) (omega (arith, there)))
