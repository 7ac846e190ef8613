-- `run_script` ends: each line starts behind the one before it.
use Rattle.std.proofs.Common.{◌-◌, length}
use Rattle.replay.proofs.run.run_script.Given as goal

abbrev pub decreases-loop-start : goal.decreases-loop-start
decreases-loop-start g l = length l.text - l.start
