-- `queue::state::QueueFile::has_sound_ends` meets its contract: its tests are those of the definition. Assumes nothing.
use native.Mathlib.Omega.{arith}
use borrow.Author.Tests.{leb-true}
use Rattle.queue.proofs.Sound.{lengths_known}
use Rattle.queue.proofs.state.QueueFile.has_sound_ends.Goals as goal

pub overflow_sub-capacity : goal.overflow_sub-capacity
overflow_sub-capacity c = (lengths_known _ _ c.requires).start

pub ends_used-requires-clause-lies : goal.ends_used-requires-clause-lies
ends_used-requires-clause-lies c =
    let l = lengths_known _ _ c.requires in
    record {
      some = grind arith;
      inside = omega (arith, l.real, l.inside);
      small = omega (arith, l.real, l.small);
      place = grind arith;
      span = grind (arith, leb-true);
    }
