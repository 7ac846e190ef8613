-- Which of the two header slots holds, and whether what it says can be. Assumes nothing.
use Rattle.std.specs.Prelude.{ℕ, not, cond, ltb, leb, eqb, Result, Ok, Err}
use Rattle.refusal.specs.declared.Refusal.TheVariants.{NoSlot, SlotLength, SlotTruncated, SlotSequence, EmptyPointer, ZeroPointer, PointerBounds}
use Rattle.refusal.specs.Demand.{demand}
use Rattle.refusal.specs.declared.Refusal.{Refusal}
use Rattle.header.specs.declared.HeaderSlot.{HeaderSlot}
use Rattle.header.specs.declared.HeaderSlot.TheVariants.{A, B}
use Rattle.header.specs.declared.SlotData.{SlotData}
use Rattle.format.specs.declared.slots.V2OpenState.{V2OpenState}

-- ---- election

abbrev pub holds : HeaderSlot → SlotData → Result V2OpenState Refusal
holds which d = Ok (record { active_slot = which; slot = d })

-- A is not valid: B holds if it is
abbrev pub elect_b : Result SlotData Refusal → Result V2OpenState Refusal
elect_b (Ok b) = holds B b
elect_b (Err r) = Err NoSlot

-- A is valid: it holds unless B is valid too and of a higher generation
abbrev pub elect_beside : SlotData → Result SlotData Refusal → Result V2OpenState Refusal
elect_beside a (Ok b) = demand (leb b.generation a.generation) (holds B b) (holds A a)
elect_beside a (Err r) = holds A a

abbrev pub elect_slot : Result SlotData Refusal → Result SlotData Refusal → Result V2OpenState Refusal
elect_slot (Ok a) b = elect_beside a b
elect_slot (Err r) b = elect_b b

-- ---- the slot check

-- an empty queue points at nothing
abbrev pub check_empty : ℕ → ℕ → Result (Unit {0}) Refusal
check_empty first last =
    demand (eqb first 0) (Err EmptyPointer)
    (demand (eqb last 0) (Err EmptyPointer)
    (Ok tt))

-- any other points at two places of the ring; neither pointer is 0 before either is held to the bounds
abbrev pub check_pointers : ℕ → ℕ → ℕ → Result (Unit {0}) Refusal
check_pointers first last file_len =
    demand (not (eqb first 0)) (Err ZeroPointer)
    (demand (not (eqb last 0)) (Err ZeroPointer)
    (demand (leb 8192 first) (Err PointerBounds)
    (demand (ltb first file_len) (Err PointerBounds)
    (demand (leb 8192 last) (Err PointerBounds)
    (demand (ltb last file_len) (Err PointerBounds)
    (Ok tt))))))

-- whether a file of that real length can be what the slot says
abbrev pub check_slot : SlotData → ℕ → Result (Unit {0}) Refusal
check_slot d real =
    demand (leb 8192 d.file_length) (Err SlotLength)
    (demand (leb d.file_length real) (Err SlotTruncated)
    (demand (not (eqb d.next_sequence_number 0)) (Err SlotSequence)
    (cond (eqb d.element_count 0)
    (check_empty d.first_position d.last_position)
    (check_pointers d.first_position d.last_position d.file_length))))
