-- `writing::expansion::relocate_wrapped_data` meets its contract: its calls are the definition's steps, one after the other, and the move
-- is granted, since what is moved lies before the end of the old file and the image has room behind it. Assumes nothing.
use mathlib.Core.Path.{◌≡◌, refl, sym, ap, subst, ◌∙◌}
use Rattle.std.specs.Prelude.{Ok, IsOk}
use mathlib.Core.List.{List}
use Prim.Native.Nat.{ℕ}
use native.Mathlib.Omega.{arith}
use lib.ListN.{length}
use Rattle.ring.proofs.Calls.{asked, relocation_granted}
use Rattle.writing.specs.Expansion.{relink_from, last_placed, start_zeroed, laid_straight}
use Rattle.writing.proofs.expansion.relocate_wrapped_data.Goals as goal
use Rattle.writing.proofs.expansion.relocate_wrapped_data.Goals.{After-relocate}

-- the move is granted
moved : (c : After-relocate) → c.relocate.result ≡ Ok tt
moved c =
    let a = c.args in
    c.relocate.ensures.value
    ∙ relocation_granted 8192 (length a.image.now) a.moved.old_len a.moved.end a.moved.fits.0 (omega (arith, a.moved.fits.0, c.requires.lens.0, c.requires.lens.1))

pub unwrap-requires : goal.unwrap-requires
unwrap-requires c = subst IsOk (sym (moved (goal.at.unwrap-requires c).After-relocate)) refl

pub returns : goal.returns
unfolding laid_straight
returns c =
    let a = c.args in
    c.zero_start.ensures
    ∙ ap (start_zeroed a.moved.end)
    (c.place_last-placed.ensures
    ∙ ap (λ (l : List ℕ). last_placed a.moved.old_len (a.q, l))
    (c.relink.ensures
    ∙ ap (λ (l : List ℕ). relink_from a.q.file_len a.moved.old_len a.moved.end a.q.elem_cnt l a.q.first.pos)
    (asked _ _ _ _ c.relocate.ensures.image_after (moved (goal.at.returns c).After-relocate))))
