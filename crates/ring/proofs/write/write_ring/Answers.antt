-- `ring::write::write_ring` meets its contract, by the invariant that Invariants.antt tells. Assumes nothing.
use Rattle.std.proofs.Common.{◌≡◌, List, [], ◌∷◌, ℕ, length, drop, sym, ◌∙◌, arith}
use Rattle.std.specs.Slice.Iter.{chunks_rest}
use Rattle.ring.specs.Ring.{ring_write}
use Rattle.ring.proofs.Writing.{write_none}
use Rattle.ring.proofs.Segments.{alone_first, alone_next}
use Rattle.ring.proofs.write.write_ring.Goals as goal

-- where nothing is left to write, the ring is as it is
ended : (size : ℕ) (ring s : List ℕ) → length s ≡ 0 → ring ≡ ring_write 0 size ring 0 s
ended size ring [] e = sym (write_none 0 size ring 0)
ended size ring (b ∷ s) e = absurd (omega arith)

pub loop-part-init : goal.loop-part-init
loop-part-init c =
    let a = c.args in
    let k = c.chunks-part-items.ensures in
    record {
      size = rw (c.into_iter-part-iterator.ensures.into_iter_gives, k.size);
      ring =
          let back : chunks_rest c.chunks-part-items.result ≡ drop c.min.result a.buf.now = k.rest ∙ c.split_at.ensures.back in
          rw (c.into_iter-part-iterator.ensures.into_iter_gives, back, c.put.ensures, c.split_at.ensures.front, c.min.ensures)
          (alone_first a.ring.now a.logical_pos c.reduced-at.result a.buf.now c.requires c.reduced-at.ensures.0);
    }

pub loop-part-preserved : goal.loop-part-preserved
loop-part-preserved c =
    let i = c.loop-part.invariant in
    let s = c.in-Some.ensures.steps in
    record {
      size = s.0 ∙ i.size;
      ring =
          rw c.copy_into.ensures
          (alone_next _ c.loop-part.ring c.in-Some.part.now (chunks_rest c.next.new.self) (chunks_rest c.loop-part.part-iterator) s.1.0 (rw i.size at s.1.1)
          ∙ i.ring);
    }

pub returns : goal.returns
returns c = ended _ _ _ c.in-None.ensures.steps.1.0 ∙ c.loop-part.invariant.ring
