-- `writing::removal::skip_elements_from` meets its contract, by the invariant that Invariants.antt tells. Assumes nothing.
use mathlib.Core.Path.{sym, ◌∙◌}
use native.Mathlib.Nat.{mod-lt}
use native.Mathlib.Omega.{arith}
use Rattle.queue.proofs.Headers.{header_fits, header_read}
use Rattle.writing.specs.Removal.{skip_from}
use Rattle.writing.proofs.SkipLaws.{skip_unroll}
use Rattle.writing.proofs.removal.skip_elements_from.Goals as goal

pub loop-left-preserved : goal.loop-left-preserved
loop-left-preserved c =
    let h = c.loop-left.invariant.0 in
    let r = sym (header_read c.args.image.now _ _ h.some h.inside) ∙ sym c.validate_v2_element_header-parsed.ensures ∙ c.in-Ok.is in (
      rw c.here-elem.ensures
          record {
            some = h.some;
            inside = h.inside;
            small = h.small;
            place = rw c.behind-pos.ensures (mod-lt _ (omega (arith, h.some)));
            span = header_fits _ _ _ _ r;
          },
      rw (c.loop-left.invariant.1, skip_unroll _ _ _ _ c.if-left-eq0.false, ← c.behind-pos.ensures, r, c.here-elem.ensures),
    )

pub returns-then-left-eq0 : goal.returns-then-left-eq0
unfolding skip_from
returns-then-left-eq0 c =
    rw (c.loop-left.invariant.1, c.if-left-eq0.true)

pub returns-in_default : goal.returns-in_default
returns-in_default c =
    let h = c.loop-left.invariant.0 in
    rw (
      c.loop-left.invariant.1,
      skip_unroll _ _ _ _ c.if-left-eq0.false,
      ← c.behind-pos.ensures,
      sym (header_read c.args.image.now _ _ h.some h.inside) ∙ sym c.validate_v2_element_header-parsed.ensures ∙ c.unwrap_err.ensures,
    )
