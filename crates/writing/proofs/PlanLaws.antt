-- What is known of a file length that was planned: it is the state's own, or one that the file can grow to. Assumes nothing.
use Rattle.refusal.proofs.Laws.{refused, same_ok, granted, on_granted}
use mathlib.Core.Path.{◌≡◌, ap}
use mathlib.Core.Bool.{true}
use mathlib.Core.Logic.{◌⊎◌, inl, inr}
use Prim.Native.Nat.{ℕ, ◌+◌, ◌-◌, ◌*◌, ◌^◌, ◌≤◌, ◌<◌}
use native.Mathlib.Omega.{arith}
use lib.Dec.{ltb, leb}
use borrow.Author.Tests.{leb-true, ltb-true}
use Rattle.refusal.specs.Answer.{on_verdict, ◌>>=◌}
use Rattle.refusal.specs.declared.Refusal.TheVariants.{BufferTooSmall}
use Rattle.format.specs.Element.{element_span}
use Rattle.queue.specs.State.{remaining_bytes, sound}
use Rattle.queue.specs.declared.state.QueueFile.{QueueFile}
use Rattle.writing.specs.Commit.{judge_numbers}
use Rattle.writing.specs.Length.{grow_length}
use Rattle.writing.specs.Growth.{growth_commits, within_image, judge_length, check_growth}
use Rattle.writing.specs.Expansion.{judge_expansion, Expands}
use Rattle.writing.specs.Adding.{judge_add}
use Rattle.writing.proofs.LengthLaws.{length_doubles}
use Rattle.std.specs.Prelude.{List, Result, Ok, Err}
use Rattle.refusal.specs.declared.Refusal.{Refusal}

-- ---- what was planned

within_same : (len : ℕ) (c : Result ℕ Refusal) (n : ℕ) → within_image len c ≡ Ok n → (c ≡ Ok n) × (n ≤ len)
within_same len (Err r) n e = absurd (refused e)
within_same len (Ok m) n e =
    let g = granted (leb m len) (Err BufferTooSmall) (Ok m) (Ok n) refused e in
    let same : m ≡ n = same_ok m n g.1 in
    (ap Ok same, omega (arith, leb-true m len g.0, same))

pub length_planned : (q : QueueFile) (len span commits elements n : ℕ) → judge_length q len span commits elements ≡ Ok n
    → (grow_length q.file_len (remaining_bytes q) span ≡ Ok n) × (n ≤ len)
unfolding judge_length
length_planned q len span commits elements n e =
    within_same len (grow_length q.file_len (remaining_bytes q) span) n
    (on_granted Err (judge_numbers q (commits + growth_commits q span) elements) _ (Ok n) (λ r. refused) e).1

-- a length above the file's is one that it can grow to
twice : (file n : ℕ) → (n ≡ file) ⊎ (2 * file ≤ n) → file < n → 2 * file ≤ n
twice file n (inl e) h = absurd (omega (arith, e, h))
twice file n (inr d) h = d

pub length_expands : (q : QueueFile) (len span commits elements n : ℕ) → sound q len ≡ true → judge_length q len span commits elements ≡ Ok n
    → q.file_len < n → Expands q len n
length_expands q len span commits elements n s e h =
    let p = length_planned q len span commits elements n e in
    let d = length_doubles q.file_len (remaining_bytes q) span n p.0 in
    record { sound = s; twice = twice q.file_len n d.1 h; inside = p.1; small = d.0 }

pub expansion_expands : (q : QueueFile) (len span n : ℕ) → judge_expansion q len span ≡ Ok n → q.file_len < n → Expands q len n
unfolding judge_expansion
expansion_expands q len span n e h =
    let g = granted (sound q len) _ (judge_length q len span 0 0) (Ok n) refused e in
    length_expands q len span 0 0 n g.0 g.1 h

pub expansion_sound : (q : QueueFile) (len span n : ℕ) → judge_expansion q len span ≡ Ok n → sound q len ≡ true
unfolding judge_expansion
expansion_sound q len span n e = (granted (sound q len) _ (judge_length q len span 0 0) (Ok n) refused e).0

-- the checks leave a planned length as it is
pub checked_planned : (q : QueueFile) (img : List ℕ) (c : Result ℕ Refusal) (n : ℕ)
    → (c >>= (λ m. on_verdict Err (check_growth q img m) (Ok m))) ≡ Ok n → c ≡ Ok n
checked_planned q img (Ok m) n e = ap Ok (same_ok m n (on_granted Err (check_growth q img m) (Ok m) (Ok n) (λ r. refused) e).1)
checked_planned q img (Err r) n e = absurd (refused e)

-- ---- what was planned for an add

pub record Adds (q : QueueFile) (len payload n : ℕ) : Type 0 where
  pub sound : sound q len ≡ true
  pub short : payload < 2 ^ 31
  pub count : q.elem_cnt + 1 < 2 ^ 31 - 1
  pub planned : judge_length q len (element_span payload) 1 1 ≡ Ok n

pub add_planned : (q : QueueFile) (len payload n : ℕ) → judge_add q len payload ≡ Ok n → Adds q len payload n
unfolding judge_add
add_planned q len payload n e =
    let a = granted (sound q len) _ _ (Ok n) refused e in
    let b = granted (ltb payload (2 ^ 31)) _ _ (Ok n) refused a.1 in
    let d = granted (ltb (q.elem_cnt + 1) (2 ^ 31 - 1)) _ (judge_length q len (element_span payload) 1 1) (Ok n) refused b.1 in
    record { sound = a.0; short = ltb-true _ _ b.0; count = ltb-true _ _ d.0; planned = d.1 }
