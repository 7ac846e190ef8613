-- `ring::read::read_ring` meets its contract, by the invariant that Invariants.antt tells. Assumes nothing.
use mathlib.Core.Path.{◌≡◌, sym, ap, subst, ◌∙◌}
use mathlib.Core.List.{List}
use Prim.Native.Nat.{ℕ, ◌+◌, ◌-◌}
use native.Mathlib.Omega.{arith}
use lib.ListN.{length, take, drop}
use Rattle.wire.proofs.Numbers.{cut_mid}
use Rattle.wire.specs.Wire.{put_at}
use Rattle.ring.proofs.Segments.{Filled, filled_first, filled_next, filled_all}
use Rattle.ring.proofs.read.read_ring.Goals as goal

pub loop-done-init : goal.loop-done-init
loop-done-init c =
    let ring = c.args.ring.now in
    let at = c.reduced-at.result in
    let done = c.min-done.result in
    let part : take (at + done - at) (drop at ring) ≡ take done (drop at ring) = cut_mid at done ring in
    subst (λ (out : List ℕ). Filled ring c.args.logical_pos out done) (sym (c.put.ensures ∙ ap (put_at c.args.buf.now 0) part))
    (filled_first ring c.args.logical_pos at done c.args.buf.now c.requires c.reduced-at.ensures.0 c.min-done.ensures)

pub loop-done-preserved : goal.loop-done-preserved
loop-done-preserved c =
    rw c.put-in-loop-done.ensures
    (filled_next c.args.ring.now c.args.logical_pos c.loop-done.done c.min-turn.result c.loop-done.buf c.loop-done.invariant c.loop-done-test.true c.min-turn.ensures)

pub returns : goal.returns
returns c =
    let long : length c.args.buf.now ≡ length c.loop-done.buf = omega arith in
    rw long (filled_all _ _ _ _ c.loop-done.invariant (omega arith))
