-- Opening gives back the state that was committed. Assumes nothing.
use Rattle.std.specs.Prelude.{ℕ, ◌≤◌, ◌<◌, ◌≡◌, List, take, drop, Ok}
use Rattle.header.specs.Slot.{slot_offset, parse_slot}
use Rattle.header.specs.declared.SlotData.{SlotData}
use Rattle.queue.specs.Opening.{open_state, open_queue}
use Rattle.queue.specs.declared.state.Settings.{Settings}
use Rattle.queue.specs.declared.state.QueueFile.{QueueFile}
use Rattle.writing.specs.Commit.{slot_of, commit_of}
use Rattle.writing.specs.Expansion.{expand_of}
use Rattle.writing.specs.Adding.{add_of}
use Rattle.writing.specs.Removal.{remove_of}
use Rattle.writing.specs.Clearing.{cleared_length, clear_of}
use Rattle.writing.specs.Fresh.{fresh_of}
use Rattle.assurance.specs.Linked.{LinkedOrEmpty}

-- ---- of a state and its image

-- the slot that opening elects holds the state
abbrev pub Stored : List ℕ → QueueFile → Type 0
Stored img q =
    open_state img q.real_len ≡ Ok (record { active_slot = q.format.active_slot; slot = slot_of q })

-- opening gives back the state
abbrev pub Reopens : List ℕ → QueueFile → Type 0
Reopens img q = open_queue img q.real_len q.settings ≡ Ok q

-- the active slot holds no later generation than the state, if it is valid at all
abbrev pub Current : List ℕ → QueueFile → Type 0
Current img q =
    (d : SlotData) → parse_slot (take 56 (drop (slot_offset q.format.active_slot) img)) ≡ Ok d →
    d.generation ≤ q.format.generation

-- ---- what is stored is given back

abbrev pub StoredReopens : Type 0
StoredReopens = (img : List ℕ) (q : QueueFile) → LinkedOrEmpty img q → Stored img q → Reopens img q

-- ---- what each call leaves

-- the elected slot holds the state, and opening gives it back
pub record Committed (img : List ℕ) (q : QueueFile) : Type 0 where
  pub stored : Stored img q
  pub reopens : Reopens img q
  pub current : Current img q

abbrev pub FreshIsCommitted : Type 0
FreshIsCommitted =
    (img img' : List ℕ) (n : ℕ) (settings : Settings) (q' : QueueFile) → fresh_of n settings img ≡ (Ok q', img') → Committed img' q'

abbrev pub CommitIsCommitted : Type 0
CommitIsCommitted =
    (img img' : List ℕ) (q q' : QueueFile) → LinkedOrEmpty img q → Current img q → commit_of q img ≡ (Ok q', img') → Committed img' q'

abbrev pub AddIsCommitted : Type 0
AddIsCommitted =
    (img img' payload : List ℕ) (q q' : QueueFile) → LinkedOrEmpty img q → Current img q →
    add_of q payload img ≡ (Ok q', img') → Committed img' q'

-- a remove that removes some and leaves some
abbrev pub RemoveIsCommitted : Type 0
RemoveIsCommitted =
    (img img' : List ℕ) (q q' : QueueFile) (n : ℕ) → LinkedOrEmpty img q → Current img q → 1 ≤ n → n < q.elem_cnt →
    remove_of q n img ≡ (Ok q', img') → Committed img' q'

-- a clear that does not cut the file: one that does leaves a slot with the old file length, until the next commit
abbrev pub ClearIsCommitted : Type 0
ClearIsCommitted =
    (img img' : List ℕ) (q q' : QueueFile) → Current img q → q.file_len ≤ cleared_length q → clear_of q img ≡ (Ok q', img') →
    Committed img' q'

-- and after any clear, and any growth, what the next commit needs is there
abbrev pub ClearStaysCurrent : Type 0
ClearStaysCurrent = (img img' : List ℕ) (q q' : QueueFile) → clear_of q img ≡ (Ok q', img') → Current img' q'

abbrev pub GrowthStaysCurrent : Type 0
GrowthStaysCurrent =
    (img img' : List ℕ) (q q' : QueueFile) (span : ℕ) → Current img q → expand_of q span img ≡ (Ok q', img') → Current img' q'
