-- `queue::recover::recover_v2_head` meets its contract. The loop's invariant: the whole walk is what is left of it. Assumes nothing.
use mathlib.Core.Path.{◌≡◌}
use Prim.Native.Nat.{◌-◌, ◌≤◌}
use Rattle.queue.specs.Recover.{recover_from}
use Rattle.queue.proofs.recover.recover_v2_head.Given as goal

abbrev pub invariant-loop-step : goal.invariant-loop-step
invariant-loop-step l = (l.step ≤ l.elem_cnt)
    × (recover_from l.image l.file_len l.last_seq l.elem_cnt 0 l.last_logical_pos ≡ recover_from l.image l.file_len l.last_seq (l.elem_cnt - l.step) l.step l.pos)
