-- `queue::places::distance` meets its contract: the ring's call does not refuse what is known here. Assumes nothing.
use Rattle.queue.proofs.PlaceLaws.{distance_known, same_place, place_ok}
use Rattle.queue.proofs.places.distance.Goals as goal

pub unwrap-requires : goal.unwrap-requires
unwrap-requires c =
    let l = c.requires in
    place_ok c.distance.ensures (distance_known _ _ _ _ l.0 l.1 l.2 l.3)

pub returns : goal.returns
returns c =
    let l = c.requires in
    same_place c.distance.ensures (distance_known _ _ _ _ l.0 l.1 l.2 l.3) c.unwrap.ensures
