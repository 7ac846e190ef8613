-- `queue::opening::open` meets its contract: it builds the state of the slot that holds, and gives it its ends where it has elements.
-- That slot's check says what the ends need. Assumes nothing.
use mathlib.Core.Path.{sym, ◌∙◌}
use native.Mathlib.Nat.{le_trans}
use Rattle.queue.proofs.OpenLaws.{state_known}
use Rattle.queue.proofs.opening.open.Goals as goal

pub initialize_v2_endpoints-requires : goal.initialize_v2_endpoints-requires
initialize_v2_endpoints-requires c =
    let some = rw c.build_v2_queue_file-q.ensures at c.if-q-eq0.false in
    let k = state_known _ _ _ (sym c.read_v2_open_state.ensures ∙ c.in_ok-open_state.was) in
    rw c.build_v2_queue_file-q.ensures
    (record { bound = (k.slot.ring some, le_trans k.slot.inside k.inside); next_sequence_number_nonzero = k.slot.next })
