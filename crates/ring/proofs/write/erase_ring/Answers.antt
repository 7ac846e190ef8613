-- `ring::write::erase_ring` meets its contract: once round is enough, and once round is two parts of the ring. Assumes nothing.
use mathlib.Core.Path.{◌∙◌}
use Rattle.ring.proofs.Segments.{alone_erased}
use Rattle.ring.proofs.write.erase_ring.Goals as goal

pub returns : goal.returns
returns c =
    let a = c.args in
    c.fill_at-2.ensures
    ∙ rw (c.fill_at.ensures, c.min-front_len.ensures, c.min-once.ensures)
    (alone_erased a.ring.now a.logical_pos c.reduced-at.result a.len c.requires c.reduced-at.ensures.0)
