-- The state that is had where it is sound over an image of len bytes. Assumes nothing.
use Rattle.std.specs.Prelude.{ℕ, ◌≡◌, refl, Bool, true, false, Result, Ok, Err}
use Rattle.refusal.specs.declared.Refusal.TheVariants.{Unsound}
use Rattle.refusal.specs.declared.Refusal.{Refusal}
use Rattle.queue.specs.State.{sound}
use Rattle.queue.specs.declared.state.QueueFile.{QueueFile}
use Rattle.queue.specs.declared.sound_queue.SoundQueue.{SoundQueue}

-- what is made of a test that holds, or 28
abbrev pub known : {A : Type 0} (b : Bool) → (b ≡ true → A) → Result A Refusal
known true made = Ok (made refl)
known false made = Err Unsound

abbrev pub sound_queue : QueueFile → ℕ → Result SoundQueue Refusal
sound_queue q len = known (sound q len) (λ e. record { state = q; image_len = len; is_sound = e })
