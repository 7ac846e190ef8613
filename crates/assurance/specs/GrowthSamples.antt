-- Two queues to see growth on: one whose elements wrap, and one that is sound and not linked. Assumes nothing.
use Rattle.std.specs.Prelude.{ℕ, true, List, [], ◌∷◌, ◌++◌, take, drop, replicate}
use Rattle.header.specs.declared.HeaderSlot.TheVariants.{A, B}
use Rattle.wire.specs.Wire.{be}
use Rattle.header.specs.Slot.{slot_bytes}
use Rattle.format.specs.Element.{header_fields, footer_fields}
use Rattle.queue.specs.Element.{element}
use Rattle.queue.specs.declared.state.QueueFile.{QueueFile}
use Rattle.writing.specs.Commit.{slot_of}
use Rattle.assurance.specs.Held.{Held}

-- ---- three empty elements in a ring of 140 bytes: the first crosses its end, and the last names the second, which stands at its start

abbrev pub wrapping : QueueFile
wrapping =
    record {
      file_len = 8332;
      real_len = 16664;
      format = record { active_slot = A; generation = 4; next_seq = 4 };
      elem_cnt = 3;
      first = element 100 0 1;
      last = element 48 0 3;
      settings = record { capacity = 4096; overwrite_on_remove = true };
    }

-- an empty element, with its two sums
abbrev pub empty_bytes : ℕ → ℕ → ℕ → ℕ → List ℕ
empty_bytes seq back header_sum footer_sum = header_fields seq back 0 ++ (be 4 header_sum ++ (footer_fields seq ++ be 4 footer_sum))

abbrev pub first : List ℕ
first = empty_bytes 1 0 0x9A52_C2EB 0xD565_B2A3

abbrev pub second : List ℕ
second = empty_bytes 2 8292 0x4C86_7A9E 0x4C6C_E319

abbrev pub third : List ℕ
third = empty_bytes 3 8196 0x0822_D456 0x3B6B_D38F

-- with room for twice the file
unfoldable pub wrapping_image : List ℕ
wrapping_image = replicate 8192 0 ++ (drop 40 first ++ (second ++ (third ++ (replicate 8 0 ++ (take 40 first ++ replicate 8332 0)))))

abbrev empty_at : ℕ → ℕ → ℕ → Held
empty_at place seq back = record { place = place; seq = seq; back = back; payload = [] }

-- what it holds
abbrev pub wrapping_elements : List Held
wrapping_elements = empty_at 100 1 0 ∷ empty_at 4 2 8292 ∷ empty_at 48 3 8196 ∷ []

-- ---- the same once it has grown: on a straight line, and the last still names the second

abbrev pub straight : QueueFile
straight =
    record {
      file_len = 16664;
      real_len = 16664;
      format = record { active_slot = B; generation = 5; next_seq = 4 };
      elem_cnt = 3;
      first = element 100 0 1;
      last = element 188 0 3;
      settings = record { capacity = 4096; overwrite_on_remove = true };
    }

abbrev pub third' : List ℕ
third' = empty_bytes 3 8336 0x2CA4_5586 0x3B6B_D38F

unfoldable pub straight_image : List ℕ
straight_image =
    replicate 4096 0 ++ (slot_bytes (slot_of straight) ++ (replicate 4140 0 ++ (first ++ (second ++ (third' ++ replicate 8240 0)))))

abbrev pub straight_elements : List Held
straight_elements = empty_at 100 1 0 ∷ empty_at 144 2 8292 ∷ empty_at 188 3 8336 ∷ []

-- ---- a state with one element, and zeros where that should be

abbrev pub adrift : QueueFile
adrift =
    record {
      file_len = 8237;
      real_len = 16474;
      format = record { active_slot = A; generation = 1; next_seq = 2 };
      elem_cnt = 1;
      first = element 0 0 1;
      last = element 0 0 1;
      settings = record { capacity = 4096; overwrite_on_remove = true };
    }

unfoldable pub zeros : List ℕ
zeros = replicate 16474 0
