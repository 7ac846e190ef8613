-- What is known where a state was asked whether it is sound: where it is, and where it is not. Assumes nothing.
use mathlib.Core.Path.{◌≡◌, refl, sym, ap, ◌∙◌, path_j'}
use mathlib.Core.Bool.{Bool, true, false}
use Prim.Native.Nat.{ℕ}
use Rattle.refusal.specs.declared.Refusal.TheVariants.{Unsound}
use Rattle.refusal.specs.declared.Refusal.{Refusal}
use Rattle.refusal.proofs.Laws.{refused, same_ok, stop, pass}
use Rattle.queue.specs.State.{sound}
use Rattle.queue.specs.SoundQueue.{known, sound_queue}
use Rattle.queue.specs.declared.state.QueueFile.{QueueFile}
use Rattle.queue.specs.declared.sound_queue.SoundQueue.{SoundQueue}
use Rattle.std.specs.Prelude.{Result, Ok, Err}

-- what is made does not lean on how the test was shown
pub known_made : {A : Type 0} (b : Bool) (made : b ≡ true → A) (h : b ≡ true) → Ok (made h) ≡ known b made
known_made {A} b made h =
    path_j' (λ (t : Bool) (e : t ≡ true). (f : t ≡ true → A) → ◌≡◌ {A = Result A Refusal} (Ok (f e)) (known t f)) (λ f. refl) h made

-- what is had then is the state, over that image
pub record Judged (q : QueueFile) (len : ℕ) (s : SoundQueue) : Type 0 where
  pub sound : sound q len ≡ true
  pub state : s.state ≡ q
  pub image_len : s.image_len ≡ len

judged_by : (q : QueueFile) (len : ℕ) (b : Bool) (e : sound q len ≡ b) (made : b ≡ true → SoundQueue) (s : SoundQueue)
    → ((h : b ≡ true) → ((made h).state ≡ q) × ((made h).image_len ≡ len))
    → known b made ≡ Ok s → Judged q len s
judged_by q len true e made s m h =
    let i : made refl ≡ s = same_ok _ _ h in
    record { sound = e; state = ap (λ (t : SoundQueue). t.state) (sym i) ∙ (m refl).0; image_len = ap (λ (t : SoundQueue). t.image_len) (sym i) ∙ (m refl).1 }
judged_by q len false e made s m h = absurd (refused h)

pub judged : {q : QueueFile} {len : ℕ} {r : Result SoundQueue Refusal} {s : SoundQueue} → r ≡ sound_queue q len → r ≡ Ok s → Judged q len s
judged {q} {len} {r} {s} e h = judged_by q len (sound q len) refl _ s (λ _. (refl, refl)) (sym e ∙ h)

-- a state that is refused is not sound, and that is the refusal
unsound_by : {A : Type 0} (b : Bool) (made : b ≡ true → A) (r : Refusal) → known b made ≡ Err r → (b ≡ false) × (r ≡ Unsound)
unsound_by true made r h = absurd (refused (sym h))
unsound_by false made r h = (refl, cc)

pub unsound : (q : QueueFile) (len : ℕ) {a : Result SoundQueue Refusal} {r : Refusal} → a ≡ sound_queue q len → a ≡ Err r
    → (sound q len ≡ false) × (r ≡ Unsound)
unsound q len {a} {r} e h = unsound_by (sound q len) _ r (sym e ∙ h)

-- the ruleset `asked`, by which a function that asks whether a state is sound proves what it answers
pub ruleset asked = (judged, unsound, stop, pass)
