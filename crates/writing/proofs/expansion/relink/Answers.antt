-- `writing::expansion::relink` meets its contract, by the invariant that Invariants.antt tells. Assumes nothing.
use mathlib.Core.Path.{◌≡◌, ◌∙◌}
use Prim.Native.Nat.{◌-◌}
use native.Mathlib.Nat.{mod-lt}
use native.Mathlib.Omega.{arith}
use Rattle.queue.proofs.Headers.{header_fits}
use Rattle.writing.specs.Expansion.{relink_from}
use Rattle.writing.proofs.RelinkLaws.{header_there, relink_unroll, length-relinked}
use Rattle.writing.proofs.expansion.relink.Goals as goal

pub returns-in_default : goal.returns-in_default
returns-in_default c =
    let i = c.loop.invariant in
    rw (
      i.2,
      relink_unroll _ _ _ _ _ _ _ c.loop-test.true,
      header_there _ _ _ _ _ _ c.requires.0 c.requires.1 i.0 c.validate_v2_element_header.ensures c.in_default.is,
    )

pub behind-pos-requires : goal.behind-pos-requires
behind-pos-requires c =
    let i = c.loop.invariant in
    rw c.here.ensures
    record {
      some = c.requires.0;
      inside = omega arith;
      small = c.requires.2;
      place = i.1;
      span =
          header_fits c.loop.image _ c.loop.pos _
          (header_there _ _ _ _ _ _ c.requires.0 c.requires.1 i.0 c.validate_v2_element_header.ensures c.in-Ok.is);
    }

pub loop-preserved : goal.loop-preserved
loop-preserved c =
    let i = c.loop.invariant in (
      rw c.relink_header.ensures (length-relinked _ _ _ _ _ _ ∙ i.0),
      rw (c.behind-pos.ensures, c.here.ensures) (mod-lt _ (omega (arith, i.1))),
      rw (
        i.2,
        relink_unroll _ _ _ _ _ _ _ c.loop-test.true,
        header_there _ _ _ _ _ _ c.requires.0 c.requires.1 i.0 c.validate_v2_element_header.ensures c.in-Ok.is,
        c.relink_header.ensures,
        c.behind-pos.ensures,
        c.here.ensures,
      ),
    )

pub returns : goal.returns
unfolding relink_from
returns c =
    let z : c.args.elem_cnt - c.loop.counter ≡ 0 = omega (arith, c.loop-test.false) in
    rw (c.loop.invariant.2, z)
