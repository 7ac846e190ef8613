-- `write_through`, its turn: behind the front that the writer has stands what one write appended, which is where the text goes on.
use Rattle.std.proofs.Common.{ℕ, ◌-◌, ◌≤◌, length, arith, length-take}
use Rattle.std.proofs.Math.Seq.{take-add}
use Rattle.std.proofs.lemmas.List.{take-take}
use Rattle.std.proofs.KnownBytes.{Appends-trans}
use Rattle.text.proofs.write_through.Goals as goal

pub loop-done-preserved : goal.loop-done-preserved
loop-done-preserved g c =
    let fits : c.in-Ok.n ≤ length c.args.text.now - c.loop-done.done = omega (arith, c.in-Ok.ensures.bound, length-take {A = ℕ}) in
    record {
      within = omega arith;
      bytes = rw take-add (Appends-trans _ _ _ _ _ c.loop-done.invariant.bytes (rw take-take at c.in-Ok.ensures.bytes));
    }
