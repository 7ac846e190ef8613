-- What is read from the file of a whole trail: sequences, the first payload and all elements. Assumes nothing.
use Prim.Native.Nat.{ℕ}
use mathlib.Core.Path.{◌≡◌, ◌∙◌}
use mathlib.Core.List.{List, [], ◌∷◌}
use native.Mathlib.Omega.{arith}
use lib.ListN.{replicate}
use denote.Ref.{Bor}
use Rattle.queue.specs.Peek.{judge_peek}
use Rattle.queue.specs.Iter.{start_of, reader_of}
use Rattle.assurance.specs.Held.{elements_of, sequences_of}
use Rattle.assurance.specs.Reading.{handed, read_by}
use Rattle.assurance.specs.Samples.{trail_file, two_from}
use Rattle.assurance.proofs.Reading.{linked_is_one-run, peek_gives_first, iteration_gives_all, reader_gives_all}
use Rattle.assurance.proofs.OpeningSamples.{trail-linked, trail-holds}
use Rattle.std.specs.Prelude.{Ok, Some}

pub trail-sequences : sequences_of (elements_of (two_from 1) trail_file) ≡ 1 ∷ 2 ∷ []
trail-sequences = linked_is_one-run trail_file (two_from 1) trail-linked

pub trail_peek : judge_peek (two_from 1) trail_file 0 ≡ Ok (Some 0)
trail_peek = (peek_gives_first trail_file (two_from 1) 0 trail-linked (omega arith)).0

pub trail_iterates : handed (two_from 1) trail_file 88 2 (start_of (two_from 1))
    ≡ record { place = 0; seq = 1; back = 0; payload = [] } ∷ record { place = 44; seq = 2; back = 8192; payload = [] } ∷ []
trail_iterates = iteration_gives_all trail_file (two_from 1) 88 2 trail-linked (omega arith) (omega arith) ∙ trail-holds

-- the same by a reader of that file, wherever its bytes are, with an output of 88 bytes
abbrev trail : Bor (List ℕ)
trail = record { ref_ptr = (0, 0); now = trail_file }

pub trail_is_read : read_by (reader_of trail (two_from 1)) (replicate 88 0) 2
    ≡ record { place = 0; seq = 1; back = 0; payload = [] } ∷ record { place = 44; seq = 2; back = 8192; payload = [] } ∷ []
trail_is_read = reader_gives_all trail (two_from 1) (replicate 88 0) 2 trail-linked (omega arith) (omega arith) ∙ trail-holds
