-- `queue::element::validate_footer` meets its contract: the two parts of the payload joined are the payload. Assumes nothing.
use mathlib.Core.Path.{◌∙◌}
use Prim.Native.Nat.{◌+◌}
use native.Mathlib.Omega.{arith}
use Rattle.ring.proofs.Calls.{on_ring, ring_ok}
use Rattle.queue.specs.Element.{payload_at, footer_verdict}
use Rattle.queue.proofs.ElementLaws.{parts_joined}
use Rattle.queue.proofs.element.validate_footer.Goals as goal

pub unwrap-requires : goal.unwrap-requires
unwrap-requires c = ring_ok _ _ _ _ c.read_at.ensures.value c.requires.some c.requires.inside

pub returns : goal.returns
unfolding footer_verdict payload_at
returns c =
    let l = c.requires in
    let e = c.args.elem in
    c.validate_v2_footer.ensures
    ∙ rw (
      on_ring _ _ _ _ _ _ _ c.read_at.ensures.value c.read_at.ensures.buf_after l.some l.inside,
      c.front_part.ensures,
      c.wrapped_part.ensures,
      parts_joined c.args.image.now c.args.file_len (e.pos + 28) e.len l.some l.inside (omega (arith, l.span)),
    )
