-- Add, remove, clear and commit keep the queue too: from linked or empty to linked or empty, with the list that each leaves.
-- Assumes nothing.
use Rattle.std.specs.Prelude.{ℕ, ◌+◌, ◌≡◌, cond, List, [], ◌∷◌, ◌++◌, drop, eqb, Ok}
use Rattle.queue.specs.declared.state.Settings.{Settings}
use Rattle.queue.specs.declared.state.QueueFile.{QueueFile}
use Rattle.writing.specs.Commit.{commit_of}
use Rattle.writing.specs.Adding.{add_of}
use Rattle.writing.specs.Removal.{remove_of}
use Rattle.writing.specs.Clearing.{clear_of}
use Rattle.writing.specs.Fresh.{fresh_of}
use Rattle.assurance.specs.Held.{Held, elements_of}
use Rattle.assurance.specs.Linked.{Linked, Empty, LinkedOrEmpty}
use Rattle.assurance.specs.Growth.{grown_place, grown_elements}

-- what a call leaves: a queue that is linked or empty, with these elements
pub record Leaves (img : List ℕ) (q : QueueFile) (es : List Held) : Type 0 where
  pub whole : LinkedOrEmpty img q
  pub holds : elements_of q img ≡ es

-- the element that an add to q appends: it names last where last then stands, or nothing in a queue that was empty
abbrev pub newest : QueueFile → QueueFile → List ℕ → Held
newest q q' payload =
    record {
      place = q'.last.pos;
      seq = q.format.next_seq;
      back = cond (eqb q.elem_cnt 0) 0 (8192 + grown_place q q'.file_len q.last.pos);
      payload = payload;
    }

-- add appends, and leaves a queue that is linked
abbrev pub AddKeepsQueue : Type 0
AddKeepsQueue =
    (img img' payload : List ℕ) (q q' : QueueFile) → LinkedOrEmpty img q → add_of q payload img ≡ (Ok q', img') →
    Linked img' q' × Leaves img' q' (grown_elements q q'.file_len (elements_of q img) ++ (newest q q' payload ∷ []))

-- remove drops n
abbrev pub RemoveKeepsQueue : Type 0
RemoveKeepsQueue =
    (img img' : List ℕ) (q q' : QueueFile) (n : ℕ) → LinkedOrEmpty img q → remove_of q n img ≡ (Ok q', img') →
    Leaves img' q' (drop n (elements_of q img))

-- clear empties, whatever the queue was
abbrev pub ClearEmpties : Type 0
ClearEmpties =
    (img img' : List ℕ) (q q' : QueueFile) → clear_of q img ≡ (Ok q', img') → Empty img' q' × Leaves img' q' []

-- commit keeps all of them
abbrev pub CommitKeepsQueue : Type 0
CommitKeepsQueue =
    (img img' : List ℕ) (q q' : QueueFile) → LinkedOrEmpty img q → commit_of q img ≡ (Ok q', img') →
    Leaves img' q' (elements_of q img)

-- a fresh queue is empty
abbrev pub FreshIsEmpty : Type 0
FreshIsEmpty =
    (img img' : List ℕ) (n : ℕ) (settings : Settings) (q' : QueueFile) → fresh_of n settings img ≡ (Ok q', img') →
    Empty img' q' × Leaves img' q' []
