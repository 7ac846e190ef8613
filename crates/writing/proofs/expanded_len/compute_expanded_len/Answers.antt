-- `writing::expanded_len::compute_expanded_len` meets its contract, by the invariant that Invariants.antt tells. Assumes nothing.
use mathlib.Core.Path.{◌≡◌, refl, sym, ap, ◌∙◌}
use Prim.Native.Nat.{ℕ, ◌+◌, ◌-◌, ◌*◌}
use native.Mathlib.Omega.{arith}
use Rattle.writing.specs.Length.{least_from, grow_length}
use Rattle.writing.proofs.LengthLaws.{length_none, length_next, missing_none, missing_next, none_missing, some_missing, too_long, short-enough, least_here, least_there, least_overflow}
use Rattle.writing.proofs.expanded_len.compute_expanded_len.Goals as goal

pub loop-init : goal.loop-init
unfolding grow_length
loop-init c =
    let a = c.args in (
      length_none a.current_len,
      c.saturating_sub-missing.ensures ∙ missing_none a.current_len a.remaining_bytes a.data_len,
      refl,
    )

pub returns-then-new_len-ge9223372036854775808 : goal.returns-then-new_len-ge9223372036854775808
returns-then-new_len-ge9223372036854775808 c =
    let i = c.loop.invariant in
    sym
    (i.2
    ∙ least_here 63 c.loop.counter _ _ _ c.loop-test.true (none_missing _ _ _ i.1 c.if-missing-eq0.true)
    ∙ too_long _ _ _ i.0 c.if-new_len-ge9223372036854775808.true)

pub returns-then-missing-eq0 : goal.returns-then-missing-eq0
returns-then-missing-eq0 c =
    let i = c.loop.invariant in
    sym
    (i.2
    ∙ least_here 63 c.loop.counter _ _ _ c.loop-test.true (none_missing _ _ _ i.1 c.if-missing-eq0.true)
    ∙ short-enough _ _ _ i.0 c.if-new_len-ge9223372036854775808.false)

pub returns-then-new_len-ge4611686018427387904 : goal.returns-then-new_len-ge4611686018427387904
returns-then-new_len-ge4611686018427387904 c =
    let i = c.loop.invariant in
    let a = c.args in
    let n = length_next a.current_len c.loop.counter in
    sym
    (i.2
    ∙ least_there 63 c.loop.counter _ _ _ c.loop-test.true (some_missing _ _ _ i.1 c.if-missing-eq0.false)
    ∙ least_overflow _ a.current_len _ _ (c.loop.counter + 1) (rw (n, ← i.0) (omega (arith, c.if-new_len-ge4611686018427387904.true))))

pub loop-preserved : goal.loop-preserved
loop-preserved c =
    let i = c.loop.invariant in
    let a = c.args in (
      ap (λ (x : ℕ). x * 2) i.0 ∙ sym (length_next a.current_len c.loop.counter),
      c.saturating_sub-missing-in-loop.ensures
          ∙ missing_next a.current_len a.remaining_bytes a.data_len c.loop.counter c.loop.new_len c.loop.missing i.0 i.1,
      i.2 ∙ least_there 63 c.loop.counter _ _ _ c.loop-test.true (some_missing _ _ _ i.1 c.if-missing-eq0.false),
    )

pub returns : goal.returns
unfolding least_from
returns c =
    let z : 63 - c.loop.counter ≡ 0 = omega (arith, c.loop-test.false) in
    rw (c.loop.invariant.2, z)
