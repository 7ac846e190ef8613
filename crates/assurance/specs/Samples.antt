-- Small images for worked examples: two elements with no payload in a ring of 88 bytes, with their checksums. Assumes nothing.
use Rattle.std.specs.Prelude.{ℕ, true, List, [], ◌++◌, replicate, take, drop}
use Rattle.header.specs.Slot.{slot_data, slot_bytes}
use Rattle.header.specs.declared.HeaderSlot.TheVariants.{A}
use Rattle.queue.specs.Element.{element}
use Rattle.queue.specs.declared.state.Settings.{Settings}
use Rattle.queue.specs.declared.state.QueueFile.{QueueFile}
use Rattle.writing.specs.Adding.{element_bytes}

-- an element's bytes, with no payload
abbrev pub bare : ℕ → ℕ → List ℕ
bare seq link = element_bytes seq link []

-- sequence 1 at place 0, sequence 2 at place 44 with the first one's place as backlink; the slots are zeros
abbrev pub two : List ℕ
two = replicate 8192 0 ++ bare 1 0 ++ bare 2 8192

-- the same two from place 80 on, so that the first one's header crosses the ring's end
abbrev pub turned : List ℕ
turned = replicate 8192 0 ++ drop 8 (bare 1 0 ++ bare 2 8272) ++ take 8 (bare 1 0)

-- the second one's backlink is below 8192
abbrev pub spoilt : List ℕ
spoilt = replicate 8192 0 ++ bare 1 0 ++ bare 2 8191

-- ---- files, with the state in slot A

abbrev pub settings : Settings
settings = record { capacity = 8192; overwrite_on_remove = true }

-- its two elements, and the next sequence 3
abbrev pub slot : List ℕ
slot = slot_bytes (slot_data 8280 2 8192 8236 1 3) ++ replicate 8136 0

-- a whole trail
abbrev pub trail_file : List ℕ
trail_file = slot ++ bare 1 0 ++ bare 2 8192

-- the element at first is of another run
abbrev pub mixed_file : List ℕ
mixed_file = slot ++ bare 7 0 ++ bare 2 8192

-- the element before first was removed, and first still names it
abbrev pub later_file : List ℕ
later_file = slot ++ bare 1 8236 ++ bare 2 8192

-- the state with an element of that sequence at first
abbrev pub two_from : ℕ → QueueFile
two_from seq =
    record {
      file_len = 8280;
      real_len = 8280;
      format = record { active_slot = A; generation = 1; next_seq = 3 };
      elem_cnt = 2;
      first = element 0 0 seq;
      last = element 44 0 2;
      settings = settings;
    }
