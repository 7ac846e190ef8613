-- That a queue is linked before it grows is needed: a sound state with one element, over an image of zeros, grows, and there is no header
-- at its first. Assumes nothing.
use mathlib.Core.Path.{◌≡◌, refl, sym, ap, ◌∙◌}
use mathlib.Core.Bool.{true}
use mathlib.Core.List.{List}
use Prim.Native.Nat.{ℕ}
use native.Mathlib.Omega.{arith}
use lib.ListN.{length, get_or, length-replicate, get_or-replicate}
use Rattle.refusal.specs.Demand.{demand}
use Rattle.ring.specs.Ring.{ring_read}
use Rattle.format.proofs.ElementLaws.{parsed}
use Rattle.queue.specs.Element.{header_at}
use Rattle.queue.specs.State.{used_bytes, sound_lengths, sound_numbers, sound_ends, sound}
use Rattle.writing.specs.Work.{with_length}
use Rattle.writing.specs.Commit.{judge_numbers}
use Rattle.writing.specs.Length.{grow_length, least_from}
use Rattle.writing.specs.Growth.{wrapped, commits_growth, judge_length, check_growth}
use Rattle.writing.specs.Expansion.{lengthened, expanded, grown, judge_expansion, expand_of}
use Rattle.assurance.specs.Linked.{Stands}
use Rattle.assurance.specs.Growth.{LinkedIsNeeded}
use Rattle.assurance.specs.GrowthSamples.{adrift, zeros}
use Rattle.std.specs.Prelude.{Ok}

length-zeros : length zeros ≡ 16474
unfolding zeros
length-zeros = length-replicate {A = ℕ} 16474 0

is_sound : sound adrift (length zeros) ≡ true
unfolding sound sound_lengths sound_numbers sound_ends
is_sound = rw (length-zeros)

planned : judge_expansion adrift (length zeros) 2 ≡ Ok 16474
unfolding judge_expansion judge_length judge_numbers grow_length least_from used_bytes commits_growth wrapped demand
planned = rw (is_sound, length-zeros)

checked : check_growth adrift zeros 16474 ≡ Ok tt
unfolding check_growth wrapped
checked = refl

grows : grown 16474 (adrift, zeros) ≡ (with_length adrift 16474, zeros)
unfolding grown expanded lengthened wrapped
grows = refl

answer : expand_of adrift 2 zeros ≡ (Ok (with_length adrift 16474), zeros)
unfolding expand_of
answer = rw (planned, checked, grows)

-- the byte at its first is 0, and not that of a header
zero_there : get_or zeros 8192 0 ≡ 0
unfolding zeros
zero_there = get_or-replicate {A = ℕ} 16474 8192 0 0 (omega arith)

starts_there : (back : ℕ) → Stands zeros 16474 adrift.first back → get_or zeros 8192 0 ≡ 0x49
unfolding header_at ring_read
starts_there back e = ap (λ (s : List ℕ). get_or s 0 0) (parsed (ring_read 8192 8282 zeros 0 28) 8282 _ e).starts

pub linked_is_needed : LinkedIsNeeded
linked_is_needed f =
    let g = f zeros zeros adrift (with_length adrift 16474) 2 is_sound (omega arith) answer in
    omega (arith, sym zero_there ∙ starts_there g.linked.first_back g.linked.first)
