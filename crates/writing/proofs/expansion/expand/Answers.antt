-- `writing::expansion::expand` meets its contract: the file is lengthened, and where the elements wrap, they are laid straight; the end of
-- last is then not behind first, so that what is moved lies in the old ring. Assumes nothing.
use mathlib.Core.Path.{◌≡◌, ap, ◌∙◌, sym}
use mathlib.Core.List.{List}
use Prim.Native.Nat.{ℕ}
use native.Mathlib.Omega.{arith}
use lib.ListN.{length}
use Rattle.queue.specs.declared.state.QueueFile.{QueueFile}
use Rattle.queue.proofs.Sound.{sound_numbers_lem, first_lies}
use Rattle.writing.specs.Work.{Work, with_length}
use Rattle.writing.specs.Expansion.{lengthened}
use Rattle.writing.proofs.StateLaws.{last_stands, wrapped-some, wrapped-end}
use Rattle.writing.proofs.expansion.expand.Goals as goal

-- the state of a file that was lengthened
longer_state : (n : ℕ) (q r : QueueFile) (img img' : List ℕ) → (r, img') ≡ lengthened n (q, img) → r ≡ with_length q n
unfolding lengthened
longer_state n q r img img' e = ap (λ (w : Work). w.0) e

pub end_of_last-requires : goal.end_of_last-requires
end_of_last-requires c =
    last_stands _ _ c.args.q.is_sound (wrapped-some _ (sym c.wraps.ensures ∙ c.if-not-wraps.false))

-- what is moved lies in the old ring
pub invariant_of-moved : goal.invariant_of-moved
invariant_of-moved c =
    let q = c.args.q.state in
    let x = c.requires in
    let y = sym c.wraps.ensures ∙ c.if-not-wraps.false in
    let f = first_lies q (length c.args.image.now) x.sound (wrapped-some q y) in
    let e = wrapped-end q y in
    record { fits = (omega (arith, c.end_of_last.ensures, e, f.some, f.place), omega (arith, x.twice, x.small)) }

pub relocate_wrapped_data-requires : goal.relocate_wrapped_data-requires
relocate_wrapped_data-requires c =
    let q = c.args.q.state in
    let x = c.requires in
    let f = first_lies q (length c.args.image.now) x.sound (wrapped-some q (sym c.wraps.ensures ∙ c.if-not-wraps.false)) in
    let n = sound_numbers_lem q (length c.args.image.now) x.sound in
    rw (longer_state _ _ _ _ _ c.lengthen-longer.ensures) (record {
      lens = (x.twice, omega (arith, x.inside, c.lengthen-longer.auto.image), x.small);
      pos_bound = (f.place, n.generation);
    })
