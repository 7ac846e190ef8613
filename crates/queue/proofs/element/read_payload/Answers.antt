-- `queue::element::read_payload` meets its contract: the part of the output that is lent comes back with the payload. Assumes nothing.
use mathlib.Core.Path.{◌≡◌}
use mathlib.Core.List.{List}
use Prim.Native.Nat.{ℕ, ◌+◌, ◌-◌}
use lib.ListN.{length, take}
use lib.Seq.{length-take-le}
use Rattle.ring.specs.Ring.{ring_read}
use Rattle.ring.proofs.Calls.{on_ring, ring_ok}
use Rattle.ring.proofs.Reading.{length_read}
use Rattle.queue.specs.Element.{payload_at}
use Rattle.queue.proofs.ElementLaws.{put_front}
use Rattle.queue.proofs.element.read_payload.Goals as goal

pub unwrap-requires : goal.unwrap-requires
unwrap-requires c = ring_ok _ _ _ _ c.read_at.ensures.value c.requires.lies.some c.requires.lies.inside

pub returns : goal.returns
unfolding payload_at
returns c =
    let l = c.requires.lies in
    let e = c.args.elem in
    let out : List ℕ = c.args.out.now in
    let n : length (take e.len out) ≡ e.len = length-take-le e.len out c.requires.len_in_bounds in
    let payload : List ℕ = ring_read 8192 (c.args.file_len - 8192) c.args.image.now (e.pos + 28) e.len in
    rw (on_ring _ _ _ _ _ _ _ c.read_at.ensures.value c.read_at.ensures.buf_after l.some l.inside, n)
    (put_front out payload e.len (length_read 8192 (c.args.file_len - 8192) c.args.image.now (e.pos + 28) e.len) c.requires.len_in_bounds)
