-- `writing::expanded_len::compute_expanded_len` meets its contract. The loop's invariant: the whole search is what is left of it, with
-- the length after so many doublings and what is missing then. Assumes nothing.
use mathlib.Core.Path.{◌≡◌}
use Prim.Native.Nat.{◌+◌, ◌-◌, ◌*◌, ◌^◌}
use Rattle.writing.specs.Length.{least_from, grow_length}
use Rattle.writing.proofs.expanded_len.compute_expanded_len.Given as goal

abbrev pub invariant-loop : goal.invariant-loop
invariant-loop l = (l.new_len ≡ l.current_len * 2 ^ l.counter)
    × (l.missing ≡ l.data_len - (l.remaining_bytes + l.current_len * (2 ^ l.counter - 1)))
    × (grow_length l.current_len l.remaining_bytes l.data_len ≡ least_from (63 - l.counter) l.current_len l.remaining_bytes l.data_len l.counter)

abbrev pub decreases-loop : goal.decreases-loop
decreases-loop l = 63 - l.counter
