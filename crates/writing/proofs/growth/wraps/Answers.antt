-- `writing::growth::wraps` meets its contract: an empty queue does not wrap, and of any other the end of last is compared with first.
-- Assumes nothing.
use Rattle.writing.proofs.StateLaws.{last_stands}
use Rattle.writing.proofs.growth.wraps.Goals as goal

pub end_of_last-requires : goal.end_of_last-requires
end_of_last-requires c = last_stands _ _ c.args.q.is_sound c.if-q-ne0.true
