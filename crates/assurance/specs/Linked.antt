-- Linked: what demand 3 asks of a queue, over its state and its image. Assumes nothing.
use Rattle.std.specs.Prelude.{ℕ, ◌-◌, ◌≤◌, ◌≡◌, ◌⊎◌, true, List, length, Ok}
use Rattle.queue.specs.Element.{header_at}
use Rattle.queue.specs.State.{sound}
use Rattle.queue.specs.Strict.{trail_from}
use Rattle.queue.specs.declared.element.Element.{Element}
use Rattle.queue.specs.declared.state.QueueFile.{QueueFile}

-- the header at an element's place is valid, and has its length, its sequence and that backlink
abbrev pub Stands : List ℕ → ℕ → Element → ℕ → Type 0
Stands img file e back =
    header_at img file e.pos ≡ Ok (record { payload_len = e.len; seq = e.seq; prev_pos = back })

-- linked: sound, with at least one element; the state's first and last hold their headers' lengths and sequences; and every rule of
-- strict opening holds but the one on first's backlink: its own is the one that is asked for
pub record Linked (img : List ℕ) (q : QueueFile) : Type 0 where
  pub sound : sound q (length img) ≡ true
  pub some : 1 ≤ q.elem_cnt
  pub first_back : ℕ
  pub first : Stands img q.file_len q.first first_back
  pub last-back : ℕ
  pub last : Stands img q.file_len q.last last-back
  pub trail :
      trail_from img q.file_len q.last.pos q.elem_cnt q.first.pos (q.format.next_seq - q.elem_cnt) first_back 0
      ≡ Ok tt

-- sound, with no element
pub record Empty (img : List ℕ) (q : QueueFile) : Type 0 where
  pub sound : sound q (length img) ≡ true
  pub none : q.elem_cnt ≡ 0

abbrev pub LinkedOrEmpty : List ℕ → QueueFile → Type 0
LinkedOrEmpty img q = Linked img q ⊎ Empty img q
