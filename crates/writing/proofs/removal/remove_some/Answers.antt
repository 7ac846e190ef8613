-- `writing::removal::remove_some` meets its contract: the walk is refused, or comes out at a place of the ring, where the queue goes on.
-- Assumes nothing.
use mathlib.Core.Path.{sym, ◌∙◌}
use Rattle.queue.proofs.Sound.{first_lies}
use Rattle.writing.proofs.SkipLaws.{above-none, skip_place}
use Rattle.writing.proofs.removal.remove_some.Goals as goal

pub skip_elements_from-requires : goal.skip_elements_from-requires
skip_elements_from-requires c =
    rw c.requires.0 at (first_lies _ _ c.args.q.is_sound (above-none _ _ c.requires.1))

pub remove_to-requires : goal.remove_to-requires
remove_to-requires c =
    let l = first_lies _ _ c.args.q.is_sound (above-none _ _ c.requires.1) in (
      c.requires.0,
      c.requires.1,
      skip_place _ _ _ _ _ l.some l.place (sym c.skip_elements_from.ensures ∙ c.in_ok-elem.was),
    )
