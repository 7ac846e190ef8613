-- `writing::removal::remove_to` meets its contract: what commits and what zeroes promise, one after the other, where the numbers are
-- granted. Assumes nothing.
use mathlib.Core.Path.{ap}
use native.Mathlib.Omega.{arith}
use Rattle.queue.proofs.Sound.{sound_numbers_lem, first_lies, last_lies}
use Rattle.writing.specs.Work.{Work}
use Rattle.writing.specs.Commit.{committed}
use Rattle.writing.proofs.SkipLaws.{above-none}
use Rattle.writing.proofs.removal.remove_to.Goals as goal

pub sync_header-committed-requires : goal.sync_header-committed-requires
sync_header-committed-requires c =
    let m = sound_numbers_lem _ _ c.args.sound.is_sound in
    let l = last_lies _ _ c.args.sound.is_sound (above-none _ _ c.requires.1) in
    record {
      generation = omega (arith, m.generation);
      first = omega (arith, l.small, c.requires.2);
      last = omega (arith, l.small, l.place);
    }

pub zero_removed-requires : goal.zero_removed-requires
unfolding committed
zero_removed-requires c =
    let l = rw c.requires.0 at (first_lies _ _ c.args.sound.is_sound (above-none _ _ c.requires.1)) in
    let f = ap (λ (w : Work). w.0.file_len) c.sync_header-committed.ensures in
    rw f (l.some, omega (arith, l.inside, c.sync_header-committed.auto.image), l.small, l.place, c.requires.2)
