-- The table of examples holds, by computation. Assumes nothing.
use mathlib.Core.Path.{refl}
use native.Mathlib.Omega.{arith}
use borrow.Author.Tests.{le-leb, lt-leb}
use Rattle.refusal.specs.Demand.{demand}
use Rattle.refusal.proofs.Laws.{pass, stop}
use Rattle.crc.specs.Crc.{shift, shifts, byte_in, bytes_in, crc_of}
use Rattle.queue.specs.Recover.{recover_from, recover_head}
use Rattle.writing.specs.Length.{least_from, grow_length}
use Rattle.assurance.specs.ProvedTable.{ProvedTable}

pub proved_table : ProvedTable
unfolding demand grow_length least_from recover_head recover_from shift shifts byte_in bytes_in crc_of
proved_table =
    record {
      room_for_44 = refl;
      room_for_8192 = refl;
      room_for_8193 = refl;
      no_length = (refl, refl, refl);
      round_the_end = refl;
      to_itself = refl;
      past_the_end = refl;
      equal_generations = λ a b e. pass _ _ _ (le-leb b.generation a.generation (omega arith));
      one_higher = λ a b e. stop _ _ _ (lt-leb b.generation a.generation (omega arith));
      neither = λ r s. (refl, refl, refl);
      no_elements = λ img file tail tail_seq ring. (pass _ _ _ ring, refl, refl);
      span_fits = refl;
      span_too_long = (refl, refl, refl);
    }
