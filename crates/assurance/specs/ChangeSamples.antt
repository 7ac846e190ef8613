-- A small run of changes to see the theorems on: a fresh queue of 88 ring bytes, two adds of nothing, a remove of one, and then a commit,
-- or a clear in its place, or one that cuts the file; with overwriting. Assumes nothing.
use Rattle.std.specs.Prelude.{ℕ, true, List, [], ◌++◌, replicate}
use Rattle.header.specs.Slot.{slot_bytes}
use Rattle.header.specs.declared.HeaderSlot.{HeaderSlot}
use Rattle.header.specs.declared.HeaderSlot.TheVariants.{A, B}
use Rattle.queue.specs.Element.{element}
use Rattle.queue.specs.declared.element.Element.{Element}
use Rattle.queue.specs.declared.state.Settings.{Settings}
use Rattle.queue.specs.declared.state.QueueFile.{QueueFile}
use Rattle.writing.specs.Commit.{slot_of}
use Rattle.writing.specs.Adding.{element_bytes}
use Rattle.assurance.specs.Held.{Held}

abbrev pub settings : Settings
settings = record { capacity = 8280; overwrite_on_remove = true }

-- a state of a file with so many bytes
abbrev state_of : ℕ → Settings → HeaderSlot → ℕ → ℕ → ℕ → Element → Element → QueueFile
state_of file settings slot generation next count first last =
    record {
      file_len = file;
      real_len = file;
      format = record { active_slot = slot; generation = generation; next_seq = next };
      elem_cnt = count;
      first = first;
      last = last;
      settings = settings;
    }

-- those of the run, after so many commits
abbrev run : HeaderSlot → ℕ → ℕ → ℕ → Element → Element → QueueFile
run = state_of 8280 settings

abbrev pub none : QueueFile
none = run A 1 1 0 (element 0 0 0) (element 0 0 0)

abbrev pub one : QueueFile
one = run B 2 2 1 (element 0 0 1) (element 0 0 1)

abbrev pub both : QueueFile
both = run A 3 3 2 (element 0 0 1) (element 44 0 2)

abbrev pub other : QueueFile
other = run B 4 3 1 (element 44 0 2) (element 44 0 2)

abbrev pub again : QueueFile
again = run A 5 3 1 (element 44 0 2) (element 44 0 2)

abbrev pub empty : QueueFile
empty = run A 5 3 0 (element 0 0 0) (element 0 0 0)

-- the images that they stand over: slot A, slot B 4096 bytes on, the ring 4096 bytes on
abbrev image_of : List ℕ → List ℕ → List ℕ → List ℕ
image_of a b ring = a ++ (replicate 4040 0 ++ (b ++ (replicate 4040 0 ++ ring)))

abbrev pub none_image : List ℕ
none_image = image_of (slot_bytes (slot_of none)) (replicate 56 0) (replicate 88 0)

abbrev pub one_image : List ℕ
one_image = image_of (slot_bytes (slot_of none)) (slot_bytes (slot_of one)) (element_bytes 1 0 [] ++ replicate 44 0)

abbrev pub both_image : List ℕ
both_image = image_of (slot_bytes (slot_of both)) (slot_bytes (slot_of one)) (element_bytes 1 0 [] ++ element_bytes 2 8192 [])

abbrev pub other_image : List ℕ
other_image = image_of (slot_bytes (slot_of both)) (slot_bytes (slot_of other)) (replicate 44 0 ++ element_bytes 2 8192 [])

abbrev pub again_image : List ℕ
again_image = image_of (slot_bytes (slot_of again)) (slot_bytes (slot_of other)) (replicate 44 0 ++ element_bytes 2 8192 [])

abbrev pub empty_image : List ℕ
empty_image = image_of (slot_bytes (slot_of empty)) (slot_bytes (slot_of other)) (replicate 88 0)

-- the elements
abbrev pub held_first : Held
held_first = record { place = 0; seq = 1; back = 0; payload = [] }

abbrev pub held_second : Held
held_second = record { place = 44; seq = 2; back = 8192; payload = [] }

-- ---- `other` with no set capacity, and what a clear leaves of it: a file of 8192 bytes, whose slot tells of 8280

abbrev pub small : Settings
small = record { capacity = 0; overwrite_on_remove = true }

abbrev pub uncut : QueueFile
uncut = state_of 8280 small B 4 3 1 (element 44 0 2) (element 44 0 2)

abbrev pub cut : QueueFile
cut = state_of 8192 small A 5 3 0 (element 0 0 0) (element 0 0 0)

abbrev pub cut_image : List ℕ
cut_image = image_of (slot_bytes (slot_of empty)) (slot_bytes (slot_of other)) (replicate 44 0 ++ element_bytes 2 8192 [])

-- and once it is committed again
abbrev pub cut_again : QueueFile
cut_again = state_of 8192 small B 6 3 0 (element 0 0 0) (element 0 0 0)

abbrev pub cut_again_image : List ℕ
cut_again_image = image_of (slot_bytes (slot_of empty)) (slot_bytes (slot_of cut_again)) (replicate 44 0 ++ element_bytes 2 8192 [])
