-- The elements that a queue holds, as a list: what its headers tell from first on, place by place. Assumes nothing.
use Rattle.std.specs.Prelude.{ℕ, zero, suc, List, [], ◌∷◌, ◌++◌, Result, Ok, Err}
use Rattle.ring.specs.Ring.{ring_add}
use Rattle.format.specs.Element.{element_span}
use Rattle.format.specs.declared.element.V2ElementHeader.{V2ElementHeader}
use Rattle.queue.specs.Element.{capacity, element_here, header_at, payload_at}
use Rattle.queue.specs.declared.state.QueueFile.{QueueFile}
use Rattle.refusal.specs.declared.Refusal.{Refusal}

-- an element: its place in the ring, its sequence, its backlink and its payload
pub record Held : Type 0 where
  pub place : ℕ
  pub seq : ℕ
  pub back : ℕ
  pub payload : List ℕ

-- the one whose header is read at the place p
abbrev pub held_here : List ℕ → ℕ → ℕ → V2ElementHeader → Held
held_here img file p h =
    record { place = p; seq = h.seq; back = h.prev_pos; payload = payload_at img file (element_here p h) }

-- the rest goes on behind it; a header that is not valid ends the list
abbrev pub held_step : List ℕ → ℕ → ℕ → Result V2ElementHeader Refusal → (ℕ → List Held) → List Held
held_step img file p (Err r) rest = []
held_step img file p (Ok h) rest =
    held_here img file p h ∷ rest (ring_add (capacity file) p (element_span h.payload_len))

-- so many elements, from the place p on
unfoldable pub held_from : List ℕ → ℕ → ℕ → ℕ → List Held
held_from img file zero p = []
held_from img file (suc left) p = held_step img file p (header_at img file p) (held_from img file left)

-- as many as the state counts, from first on
unfoldable pub elements_of : QueueFile → List ℕ → List Held
elements_of q img = held_from img q.file_len q.elem_cnt q.first.pos

-- ---- what is asked of such a list

-- their places, the last one's first
abbrev pub places_back : List Held → List ℕ
places_back [] = []
places_back (e ∷ es) = places_back es ++ (e.place ∷ [])

abbrev pub sequences_of : List Held → List ℕ
sequences_of [] = []
sequences_of (e ∷ es) = e.seq ∷ sequences_of es

abbrev pub payloads_of : List Held → List (List ℕ)
payloads_of [] = []
payloads_of (e ∷ es) = e.payload ∷ payloads_of es
