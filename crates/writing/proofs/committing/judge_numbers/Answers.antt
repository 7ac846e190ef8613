-- `writing::committing::judge_numbers` meets its contract: the two limits are tested in the definition's order, and those of a
-- sound state are so small that the sums fit. Assumes nothing.
use native.Mathlib.Omega.{arith}
use Rattle.queue.proofs.Sound.{sound_numbers_lem}
use Rattle.writing.proofs.committing.judge_numbers.Goals as goal

pub overflow_add-format : goal.overflow_add-format
overflow_add-format c = omega (arith, c.requires.0, (sound_numbers_lem _ _ c.args.q.is_sound).generation)

pub overflow_add-format-2 : goal.overflow_add-format-2
overflow_add-format-2 c = omega (arith, c.requires.1, (sound_numbers_lem _ _ c.args.q.is_sound).next_small)
