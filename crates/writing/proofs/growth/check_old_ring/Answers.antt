-- `writing::growth::check_old_ring` meets its contract, by the invariant that Invariants.antt tells. Assumes nothing.
use Rattle.std.proofs.lemmas.Result.{err_from_is_err_and}
use mathlib.Core.Path.{◌≡◌, sym, ◌∙◌}
use Prim.Native.Nat.{◌-◌}
use native.Mathlib.Nat.{sub-zero, mod-lt}
use native.Mathlib.Omega.{arith}
use borrow.Author.Tests.{le-leb, lt-leb, eq-eqb, ne_eqb}
use Rattle.refusal.specs.Demand.{demand}
use Rattle.queue.proofs.Headers.{header_fits, header_read}
use Rattle.queue.proofs.Sound.{sound_lengths_lem, first_lies}
use Rattle.writing.specs.Growth.{walk_from, walk_old_ring}
use Rattle.writing.proofs.WalkLaws.{walk_unroll}
use Rattle.writing.proofs.growth.check_old_ring.Goals as goal

pub overflow_sub-capacity : goal.overflow_sub-capacity
overflow_sub-capacity c = (sound_lengths_lem _ _ c.args.sound.is_sound).start

pub loop-init : goal.loop-init
unfolding walk_old_ring
loop-init c =
    let l = rw c.requires.0 at (first_lies _ _ c.args.sound.is_sound c.requires.1) in (l.some, l.inside, l.small, l.place, omega arith, rw sub-zero)

pub returns-in_err-header : goal.returns-in_err-header
returns-in_err-header c =
    let p = err_from_is_err_and c.from_residual.result c.from_residual.ensures.1 in
    let h = c.loop.invariant in
    rw (
      p.1,
      p.2,
      h.5,
      walk_unroll _ _ _ _ _ _ _ _ c.loop-test.true,
      sym (header_read c.args.image.now _ _ h.0 h.1) ∙ sym c.validate_v2_element_header.ensures,
      c.in_err-header.was,
    )

pub overflow_add-spans : goal.overflow_add-spans
overflow_add-spans c =
    let h = c.loop.invariant in
    let r = sym (header_read c.args.image.now _ _ h.0 h.1) ∙ sym c.validate_v2_element_header.ensures in
    let f = header_fits _ _ _ _ (r ∙ c.in_ok-header.was) in
    omega (arith, h.2, f)

pub overflow_add-spans-in-loop : goal.overflow_add-spans-in-loop
overflow_add-spans-in-loop c =
    let h = c.loop.invariant in
    let r = sym (header_read c.args.image.now _ _ h.0 h.1) ∙ sym c.validate_v2_element_header.ensures in
    let f = header_fits _ _ _ _ (r ∙ c.in_ok-header.was) in
    omega (arith, h.2, h.4, f)

pub returns-then-spans-capacity : goal.returns-then-spans-capacity
unfolding demand
returns-then-spans-capacity c =
    let h = c.loop.invariant in
    let r = sym (header_read c.args.image.now _ _ h.0 h.1) ∙ sym c.validate_v2_element_header.ensures in
    rw (h.5, walk_unroll _ _ _ _ _ _ _ _ c.loop-test.true, r ∙ c.in_ok-header.was, lt-leb _ _ c.if-spans-capacity.true)

pub loop-preserved : goal.loop-preserved
unfolding demand
loop-preserved c =
    let h = c.loop.invariant in
    let r = sym (header_read c.args.image.now _ _ h.0 h.1) ∙ sym c.validate_v2_element_header.ensures in (
      h.0,
      h.1,
      h.2,
      rw (c.behind-pos.ensures, c.here.ensures) (mod-lt _ (omega (arith, h.0))),
      c.if-spans-capacity.false,
      rw (
        h.5,
        walk_unroll _ _ _ _ _ _ _ _ c.loop-test.true,
        r ∙ c.in_ok-header.was,
        le-leb _ _ c.if-spans-capacity.false,
        c.behind-pos.ensures,
        c.here.ensures,
      ),
    )

pub returns-then-before-q : goal.returns-then-before-q
unfolding walk_from demand
returns-then-before-q c =
    let z : c.args.sound.state.elem_cnt - c.loop.counter ≡ 0 = omega (arith, c.loop-test.false) in
    rw (c.loop.invariant.5, z, ne_eqb _ _ c.if-before-q.true)

pub returns : goal.returns
unfolding walk_from demand
returns c =
    let z : c.args.sound.state.elem_cnt - c.loop.counter ≡ 0 = omega (arith, c.loop-test.false) in
    rw (c.loop.invariant.5, z, eq-eqb _ _ c.if-before-q.false)
