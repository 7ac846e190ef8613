-- Each call that is told of can be refused: over an image of no bytes, which holds no file; and a word of no bytes spells none.
-- Assumes nothing.
use Rattle.refusal.specs.declared.Refusal.TheVariants.{BufferTooSmall, Unsound}
use Prim.Native.Nat.{ℕ}
use mathlib.Core.Path.{◌≡◌, refl}
use mathlib.Core.List.{List, []}
use denote.Ref.{Bor}
use Rattle.std.proofs.Common.{None}
use Rattle.refusal.specs.Demand.{demand}
use Rattle.ring.specs.Ring.{has_ring, judge_ring, judge_relocation}
use Rattle.queue.specs.State.{sound_lengths, sound}
use Rattle.queue.specs.Opening.{open_state, open_queue}
use Rattle.queue.specs.Peek.{fit_peek, judge_peek}
use Rattle.queue.specs.Iter.{start_of, judge_step, reader_of, next_of}
use Rattle.writing.specs.Commit.{judge_commit, commit_of}
use Rattle.writing.specs.Expansion.{judge_expansion, expand_of}
use Rattle.writing.specs.Adding.{judge_add, add_of}
use Rattle.writing.specs.Removal.{remove_of}
use Rattle.writing.specs.Clearing.{clear_of}
use Rattle.writing.specs.Fresh.{fresh_of}
use Rattle.exports.specs.Runs.{adds_of, removes_of, clears_of, peeks_of, steps_of}
use Rattle.script.specs.Hex.{is_dash, is_hex, unhex, bytes_of}
use Rattle.assurance.specs.ChangeSamples.{settings, none}
use Rattle.assurance.specs.Refusals.{next_refused}
use Rattle.std.specs.Prelude.{Err}

pub fresh_refused : fresh_of 8280 settings [] ≡ (Err BufferTooSmall, [])
unfolding demand fresh_of
fresh_refused = refl

pub commit_refused : commit_of none [] ≡ (Err Unsound, [])
unfolding demand sound_lengths sound judge_commit commit_of
commit_refused = refl

pub add_refused : add_of none [] [] ≡ (Err Unsound, [])
unfolding demand sound_lengths sound judge_add add_of
add_refused = refl

pub remove_refused : remove_of none 1 [] ≡ (Err Unsound, [])
unfolding demand sound_lengths sound remove_of
remove_refused = refl

pub clear_refused : clear_of none [] ≡ (Err Unsound, [])
unfolding demand sound_lengths sound judge_commit clear_of
clear_refused = refl

pub expand_refused : expand_of none 1 [] ≡ (Err Unsound, [])
unfolding demand sound_lengths sound judge_expansion expand_of
expand_refused = refl

pub peek_refused : judge_peek none [] 0 ≡ Err Unsound
unfolding demand sound_lengths sound fit_peek judge_peek
peek_refused = refl

pub step_refused : judge_step none [] (start_of none) 0 ≡ Err Unsound
unfolding demand sound_lengths sound judge_step
step_refused = refl

-- a reader of no bytes, wherever these are
abbrev no_bytes : Bor (List ℕ)
no_bytes = record { ref_ptr = (0, 0); now = [] }

pub next_refused_lem : next_of (reader_of no_bytes none) 0 ≡ next_refused (Unsound, reader_of no_bytes none)
unfolding demand sound_lengths sound judge_step
next_refused_lem = refl

pub ring_refused : judge_ring 8192 0 8280 ≡ Err Unsound
unfolding demand has_ring
ring_refused = refl

pub relocation_refused : judge_relocation 8192 0 8280 44 ≡ Err Unsound
unfolding demand
relocation_refused = refl

pub bytes_refused : bytes_of [] [] ≡ (None, [])
unfolding is_dash is_hex unhex bytes_of
bytes_refused = refl

-- the image does not open
pub runs_refused : (adds_of [] 1 8280 [] ≡ (0, [])) × (removes_of 1 8280 [] ≡ (0, [])) × (clears_of 1 8280 [] ≡ (0, [])) × (peeks_of [] 8280 1 [] ≡ (0, [])) × (steps_of [] 8280 1 [] ≡ (0, []))
unfolding demand open_state open_queue
runs_refused = (refl, refl, refl, refl, refl)
