-- `queue::places::add` meets its contract: the ring's call does not refuse what is known here. Assumes nothing.
use Rattle.queue.proofs.PlaceLaws.{add_known, same_place, place_ok}
use Rattle.queue.proofs.places.add.Goals as goal

pub unwrap-requires : goal.unwrap-requires
unwrap-requires c =
    let l = c.requires in
    place_ok c.add.ensures (add_known _ _ _ _ l.0 l.1 l.2)

pub returns : goal.returns
returns c =
    let l = c.requires in
    same_place c.add.ensures (add_known _ _ _ _ l.0 l.1 l.2) c.unwrap.ensures
