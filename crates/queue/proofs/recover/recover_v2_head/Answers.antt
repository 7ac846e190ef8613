-- `queue::recover::recover_v2_head` meets its contract, by the invariant that Invariants.antt tells. Assumes nothing.
use Rattle.std.proofs.lemmas.Result.{err_from_is_err_and}
use mathlib.Core.Path.{◌≡◌, ap, sym, ◌∙◌}
use Prim.Native.Nat.{◌-◌}
use native.Mathlib.Omega.{arith}
use borrow.Author.Rules.{rules}
use borrow.Author.Tests.{le-leb, lt-leb}
use Rattle.refusal.specs.Demand.{demand}
use Rattle.refusal.proofs.Laws.{eq_neb, ne_neb}
use Rattle.ring.proofs.Places.{ring_known}
use Rattle.queue.specs.Recover.{recover_from, recover_head}
use Rattle.queue.proofs.RecoverLaws.{recover_opens, recover_unroll, recover_here, none_left, some_left}
use Rattle.queue.proofs.recover.recover_v2_head.Goals as goal
use Rattle.std.specs.Prelude.{Ok}

pub returns-then-not-has_ring : goal.returns-then-not-has_ring
unfolding recover_head demand
returns-then-not-has_ring c = rw (sym c.has_ring.ensures ∙ c.if-not-has_ring.true)

pub returns-then-last_seq-step : goal.returns-then-last_seq-step
unfolding demand
returns-then-last_seq-step c =
    rw (recover_here _ _ _ _ _ _ _ (sym c.has_ring.ensures ∙ c.if-not-has_ring.false) c.loop-step-test.true c.loop-step.invariant.1, lt-leb _ _ c.if-last_seq-step.true)

pub header_in_sequence-parsed-requires : goal.header_in_sequence-parsed-requires
header_in_sequence-parsed-requires c =
    ring_known _ _ _ _ c.has_ring.ensures c.if-not-has_ring.false

pub returns-in_default : goal.returns-in_default
unfolding demand
returns-in_default c =
    rw (recover_here _ _ _ _ _ _ _ (sym c.has_ring.ensures ∙ c.if-not-has_ring.false) c.loop-step-test.true c.loop-step.invariant.1, le-leb _ _ c.if-last_seq-step.false, sym c.header_in_sequence-parsed.ensures ∙ c.unwrap_err.ensures)

pub returns-then-step-elem_cnt : goal.returns-then-step-elem_cnt
unfolding demand
returns-then-step-elem_cnt c =
    rw (recover_here _ _ _ _ _ _ _ (sym c.has_ring.ensures ∙ c.if-not-has_ring.false) c.loop-step-test.true c.loop-step.invariant.1, le-leb _ _ c.if-last_seq-step.false, sym c.header_in_sequence-parsed.ensures ∙ c.in-Ok.is, none_left _ _ c.if-step-elem_cnt.true)
    (ap Ok c.here.ensures)

pub returns-then-header-eq0 : goal.returns-then-header-eq0
unfolding demand
returns-then-header-eq0 c =
    rw (recover_here _ _ _ _ _ _ _ (sym c.has_ring.ensures ∙ c.if-not-has_ring.false) c.loop-step-test.true c.loop-step.invariant.1, le-leb _ _ c.if-last_seq-step.false, sym c.header_in_sequence-parsed.ensures ∙ c.in-Ok.is, some_left _ _ c.loop-step-test.true c.if-step-elem_cnt.false, eq_neb _ _ c.if-header-eq0.true)

pub returns-in_err-pos : goal.returns-in_err-pos
unfolding demand
returns-in_err-pos c =
    let p = err_from_is_err_and c.from_residual.result c.from_residual.ensures.1 in
    rw (p.1, p.2, recover_here _ _ _ _ _ _ _ (sym c.has_ring.ensures ∙ c.if-not-has_ring.false) c.loop-step-test.true c.loop-step.invariant.1, le-leb _ _ c.if-last_seq-step.false, sym c.header_in_sequence-parsed.ensures ∙ c.in-Ok.is, some_left _ _ c.loop-step-test.true c.if-step-elem_cnt.false, ne_neb _ _ c.if-header-eq0.false, sym c.to_logical.ensures ∙ c.in_err-pos.was)

pub loop-step-preserved : goal.loop-step-preserved
unfolding demand
loop-step-preserved c = (
  search rules,
  rw (c.loop-step.invariant.1, recover_unroll _ _ _ _ _ _ c.loop-step-test.true, le-leb _ _ c.if-last_seq-step.false, sym c.header_in_sequence-parsed.ensures ∙ c.in-Ok.is, some_left _ _ c.loop-step-test.true c.if-step-elem_cnt.false, ne_neb _ _ c.if-header-eq0.false, sym c.to_logical.ensures ∙ c.in_ok-pos.was),
)

pub returns : goal.returns
unfolding recover_from
returns c =
    let z : c.args.elem_cnt - c.loop-step.step ≡ 0 = omega arith in
    rw (recover_opens _ _ _ _ _ (sym c.has_ring.ensures ∙ c.if-not-has_ring.false), c.loop-step.invariant.1, z)
