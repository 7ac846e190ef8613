-- `queue::sound_queue::SoundQueue::check_trail` meets its contract, by the invariant that Invariants.antt tells. Assumes nothing.
use Rattle.std.proofs.lemmas.Result.{err_from_is_err_and}
use mathlib.Core.Path.{◌≡◌, sym, ◌∙◌}
use Prim.Native.Nat.{◌-◌}
use native.Mathlib.Nat.{sub-zero, mod-lt}
use native.Mathlib.Omega.{arith}
use borrow.Author.Tests.{le-leb, lt-leb, eq-eqb, ne_eqb}
use Rattle.refusal.specs.Demand.{demand}
use Rattle.queue.specs.Strict.{trail_from, check_trail}
use Rattle.queue.proofs.Sound.{sound_lengths_lem, sound_numbers_lem, sound-ends}
use Rattle.queue.proofs.Trail.{strict_fits, trail_unroll}
use Rattle.queue.proofs.sound_queue.SoundQueue.check_trail.Goals as goal

pub returns-then-q-eq0 : goal.returns-then-q-eq0
unfolding check_trail
returns-then-q-eq0 c = rw (eq-eqb _ _ c.if-q-eq0.true)

pub overflow_sub-capacity : goal.overflow_sub-capacity
overflow_sub-capacity c = (sound_lengths_lem _ _ c.args.self.is_sound).start

pub loop-init : goal.loop-init
unfolding check_trail
loop-init c =
    let m = sound_numbers_lem _ _ c.args.self.is_sound in
    let e = sound-ends _ _ c.args.self.is_sound c.if-q-eq0.false in (
      rw (sym c.requires) (sound_lengths_lem _ _ c.args.self.is_sound),
      e.first-place,
      omega arith,
      rw c.saturating_sub-seq.ensures (omega (arith, m.next_small, m.count)),
      rw (ne_eqb _ _ c.if-q-eq0.false, c.saturating_sub-seq.ensures, sub-zero),
    )

pub returns-in_err-header : goal.returns-in_err-header
returns-in_err-header c =
    let p = err_from_is_err_and c.from_residual.result c.from_residual.ensures.1 in
    rw (
      p.1,
      p.2,
      c.loop.invariant.4,
      trail_unroll _ _ _ _ _ _ _ _ _ c.loop-test.true,
      sym c.strict_element.ensures,
      c.in_err-header.was,
    )

pub overflow_add-span : goal.overflow_add-span
overflow_add-span c =
    let n = c.loop.invariant.0 in
    let f = strict_fits _ _ _ _ _ _ (sym c.strict_element.ensures ∙ c.in_ok-header.was) in
    omega (arith, n.real, n.small, f)

pub overflow_add-spans : goal.overflow_add-spans
overflow_add-spans c =
    let n = c.loop.invariant.0 in
    let f = strict_fits _ _ _ _ _ _ (sym c.strict_element.ensures ∙ c.in_ok-header.was) in
    let h = c.loop.invariant.2 in
    omega (arith, n.real, n.small, f, h)

pub returns-then-spans-capacity : goal.returns-then-spans-capacity
unfolding demand
returns-then-spans-capacity c =
    rw (
      c.loop.invariant.4,
      trail_unroll _ _ _ _ _ _ _ _ _ c.loop-test.true,
      sym c.strict_element.ensures ∙ c.in_ok-header.was,
      lt-leb _ _ c.if-spans-capacity.true,
    )

pub loop-preserved : goal.loop-preserved
unfolding demand
loop-preserved c =
    let h = c.loop.invariant in (
      h.0,
      rw c.add-pos.ensures (mod-lt _ (omega (arith, h.1))),
      c.if-spans-capacity.false,
      omega (arith, c.loop-test.true, h.3),
      rw (
        h.4,
        trail_unroll _ _ _ _ _ _ _ _ _ c.loop-test.true,
        sym c.strict_element.ensures ∙ c.in_ok-header.was,
        le-leb _ _ c.if-spans-capacity.false,
        c.add-pos.ensures,
      ),
    )

pub overflow_add-q : goal.overflow_add-q
overflow_add-q c =
    let n = sound_lengths_lem _ _ c.args.self.is_sound in
    let e = sound-ends _ _ c.args.self.is_sound c.if-q-eq0.false in
    omega (arith, n.real, n.small, e.last-place)

pub returns-then-link-q : goal.returns-then-link-q
unfolding trail_from demand
returns-then-link-q c =
    let z : c.args.self.state.elem_cnt - c.loop.counter ≡ 0 = omega (arith, c.loop-test.false) in
    rw (c.loop.invariant.4, z, ne_eqb _ _ c.if-link-q.true)

pub returns : goal.returns
unfolding trail_from demand
returns c =
    let z : c.args.self.state.elem_cnt - c.loop.counter ≡ 0 = omega (arith, c.loop-test.false) in
    rw (c.loop.invariant.4, z, eq-eqb _ _ c.if-link-q.false)
