-- Strict opening is exact: what opens strictly is one whole trail, and none of another run. Assumes nothing.
use Rattle.std.specs.Prelude.{ℕ, ◌≡◌, ◌⊎◌, List, Ok}
use Rattle.queue.specs.Opening.{open_queue}
use Rattle.queue.specs.Strict.{open_strictly}
use Rattle.queue.specs.declared.state.Settings.{Settings}
use Rattle.queue.specs.declared.state.QueueFile.{QueueFile}
use Rattle.assurance.specs.Linked.{Linked, Empty}

-- the rule on first's backlink: it names nothing
abbrev pub NamesNothing : ℕ → Type 0
NamesNothing back = back ≡ 0

-- linked, from an element that names nothing before it
pub record WholeTrail (img : List ℕ) (q : QueueFile) : Type 0 where
  pub linked : Linked img q
  pub starts : NamesNothing linked.first_back

-- strict opening answers q exactly when plain opening does and q is empty or such a trail
abbrev pub StrictOpeningIsExact : Type 0
StrictOpeningIsExact =
    (img : List ℕ) (real : ℕ) (settings : Settings) (q : QueueFile) →
    (open_strictly img real settings ≡ Ok q → (open_queue img real settings ≡ Ok q) × (WholeTrail img q ⊎ Empty img q))
    × (open_queue img real settings ≡ Ok q → WholeTrail img q ⊎ Empty img q → open_strictly img real settings ≡ Ok q)
