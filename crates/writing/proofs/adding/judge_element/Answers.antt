-- `writing::adding::judge_element` meets its contract: a sound state has a count that can be one more. Assumes nothing.
use native.Mathlib.Omega.{arith}
use Rattle.queue.proofs.Sound.{sound_numbers_lem}
use Rattle.writing.proofs.adding.judge_element.Goals as goal

pub overflow_add-q : goal.overflow_add-q
overflow_add-q c = omega (arith, (sound_numbers_lem _ _ c.args.q.is_sound).count)
