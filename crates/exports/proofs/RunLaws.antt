-- What is known of the queue that a run goes by, and that a peek or a step that hands out nothing ends a run. Assumes nothing.
use mathlib.Core.Path.{◌≡◌, refl}
use mathlib.Core.List.{List}
use Prim.Native.Nat.{ℕ}
use Rattle.refusal.specs.declared.Refusal.{Refusal}
use Rattle.queue.specs.Opening.{open_queue}
use Rattle.queue.specs.declared.state.Settings.{Settings}
use Rattle.queue.specs.declared.state.QueueFile.{QueueFile}
use Rattle.queue.specs.declared.iter.Cursor.{Cursor}
use Rattle.queue.specs.declared.iter.Step.{Step}
use Rattle.exports.specs.Runs.{Run, settings_of, opened, on_peeked, on_stepped}
use Rattle.std.specs.Prelude.{Result, Ok, Err, Option, Some, None}

-- the queue that an image opens to, with the settings that the code made
pub opened_is : (img : List ℕ) (real : ℕ) (s : Settings) (o : Result QueueFile Refusal) → s ≡ settings_of real → o ≡ open_queue img real s → opened img real ≡ o
opened_is img real s o e f = rw (f, e)

-- a peek that hands out nothing ends the run
pub peeks_end : (a : Result (Option ℕ) Refusal) (out : List ℕ) (done : ℕ) (next : List ℕ → Run) → ((n : ℕ) → a ≡ Ok (Some n) → ⊥) →
    on_peeked a out done next ≡ (done, out)
peeks_end (Ok (Some n)) out done next k = absurd (k n refl)
peeks_end (Ok None) out done next k = refl
peeks_end (Err r) out done next k = refl

-- and so does a step
pub steps_end : (a : Result (Option Step) Refusal) (out : List ℕ) (done : ℕ) (next : Cursor → List ℕ → Run) → ((s : Step) → a ≡ Ok (Some s) → ⊥) →
    on_stepped a out done next ≡ (done, out)
steps_end (Ok (Some s)) out done next k = absurd (k s refl)
steps_end (Ok None) out done next k = refl
steps_end (Err r) out done next k = refl
