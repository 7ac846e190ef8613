-- Growth keeps the queue. Assumes nothing.
use Rattle.std.specs.Prelude.{ℕ, ◌+◌, ◌≤◌, ◌≡◌, Bool, true, not, cond, ◌&&◌, List, [], ◌∷◌, length, ltb, eqb, Ok}
use Rattle.queue.specs.Element.{capacity}
use Rattle.queue.specs.State.{sound}
use Rattle.queue.specs.Recover.{recover_head}
use Rattle.queue.specs.declared.state.QueueFile.{QueueFile}
use Rattle.writing.specs.Growth.{end_of_last, wrapped, walk_old_ring}
use Rattle.writing.specs.Expansion.{expand_of}
use Rattle.assurance.specs.Held.{Held, elements_of, places_back, sequences_of, payloads_of}
use Rattle.assurance.specs.Linked.{Linked}
use Rattle.assurance.specs.Recovery.{Trail}

-- ---- what growth to n bytes does to an element

-- elements move where the file gets longer and they wrap
abbrev pub moves : QueueFile → ℕ → Bool
moves q n = ltb q.file_len n && wrapped q

-- one that stands before first then stands behind the old capacity
abbrev pub grown_place : QueueFile → ℕ → ℕ → ℕ
grown_place q n p = cond (moves q n && ltb p q.first.pos) (p + capacity q.file_len) p

-- a backlink that is not 0 and below 8192 + E, the end of last, goes with what it names
abbrev pub grown_link : QueueFile → ℕ → ℕ → ℕ
grown_link q n back =
    cond (moves q n && (not (eqb back 0) && ltb back (8192 + end_of_last q))) (back + capacity q.file_len) back

-- sequence and payload stay
abbrev pub grown_element : QueueFile → ℕ → Held → Held
grown_element q n e =
    record { place = grown_place q n e.place; seq = e.seq; back = grown_link q n e.back; payload = e.payload }

abbrev pub grown_elements : QueueFile → ℕ → List Held → List Held
grown_elements q n [] = []
grown_elements q n (e ∷ es) = grown_element q n e ∷ grown_elements q n es

-- ---- the theorem

-- the queue after growth: linked, with the same elements; recovery from its tail goes over all of them and finds first
pub record Grown (img : List ℕ) (q : QueueFile) (img' : List ℕ) (q' : QueueFile) : Type 0 where
  pub linked : Linked img' q'
  pub holds : elements_of q' img' ≡ grown_elements q q'.file_len (elements_of q img)
  pub sequences : sequences_of (elements_of q' img') ≡ sequences_of (elements_of q img)
  pub payloads : payloads_of (elements_of q' img') ≡ payloads_of (elements_of q img)
  pub trail : Trail img' q'.file_len (places_back (elements_of q' img')) q'.last.seq
  pub recovered : recover_head img' q'.file_len q'.last.pos q'.last.seq q'.elem_cnt ≡ Ok q.first

-- demand 3, second half: a linked queue that grows
abbrev pub GrowthKeepsQueue : Type 0
GrowthKeepsQueue =
    (img img' : List ℕ) (q q' : QueueFile) (span : ℕ) → Linked img q → expand_of q span img ≡ (Ok q', img') → Grown img q img' q'

-- to say it by itself: what was linked is linked once grown
abbrev pub GrowthStaysLinked : Type 0
GrowthStaysLinked =
    (img img' : List ℕ) (q q' : QueueFile) (span : ℕ) → Linked img q → expand_of q span img ≡ (Ok q', img') → Linked img' q'

-- and the walk in the old ring refuses no linked queue: its growth fails by its numbers alone
abbrev pub LinkedPassesWalk : Type 0
LinkedPassesWalk = (img : List ℕ) (q : QueueFile) → Linked img q → walk_old_ring q img ≡ Ok tt

-- that it is linked before is needed: a sound state with elements is not enough
abbrev pub LinkedIsNeeded : Type 0
LinkedIsNeeded =
    ((img img' : List ℕ) (q q' : QueueFile) (span : ℕ) → sound q (length img) ≡ true → 1 ≤ q.elem_cnt →
    expand_of q span img ≡ (Ok q', img') → Grown img q img' q') → ⊥
