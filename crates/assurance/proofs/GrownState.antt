-- The state after growth, told without an image, for every state that there is: which of its fields change, and that the image stays as
-- long as it was. And what a planned length leaves room for. Assumes nothing.
use Rattle.refusal.proofs.Laws.{refused, on_granted}
use mathlib.Core.Path.{◌≡◌, refl, sym, ap, ◌∙◌}
use mathlib.Core.Bool.{Bool, true, false, cond, ◌&&◌, and_assoc}
use mathlib.Core.Logic.{◌⊎◌, inl, inr}
use mathlib.Core.List.{List}
use Prim.Native.Nat.{ℕ, ◌+◌, ◌-◌, ◌*◌, ◌^◌, ◌≤◌, ◌<◌}
use native.Mathlib.Decide.{dec_le}
use native.Mathlib.Omega.{arith}
use lib.ListN.{length, replicate}
use lib.Seq.{length-sets}
use lib.Dec.{ltb}
use borrow.Author.Tests.{lt-ltb, le-ltb}
use Rattle.ring.proofs.Relocating.{length-relocated}
use Rattle.queue.specs.Element.{element}
use Rattle.queue.specs.State.{remaining_bytes, sound}
use Rattle.queue.specs.declared.state.QueueFile.{QueueFile}
use Rattle.queue.proofs.Sound.{sound_lengths_lem}
use Rattle.writing.specs.Work.{Work}
use Rattle.writing.specs.Commit.{next_format, committed, judge_numbers}
use Rattle.writing.specs.Length.{grow_length}
use Rattle.writing.specs.Growth.{end_of_last, wrapped, commits_growth, growth_commits, judge_length}
use Rattle.writing.specs.Expansion.{lengthened, last_placed, start_zeroed, laid_straight, expanded, grown}
use Rattle.writing.proofs.Choices.{either}
use Rattle.writing.proofs.CommitLaws.{numbers_granted}
use Rattle.writing.proofs.LengthLaws.{length_doubles, length_same, length_grows}
use Rattle.writing.proofs.PlanLaws.{length_planned}
use Rattle.writing.proofs.RelinkLaws.{length_relink}
use Rattle.assurance.specs.Growth.{moves, grown_place}
use Rattle.assurance.proofs.CommitLaid.{length-committed}
use Rattle.std.specs.Prelude.{Ok, Err}

-- ---- the state

-- growth to n bytes commits where it moves last and is to zero what it moved from
abbrev pub commits_at : QueueFile → ℕ → Bool
commits_at q n = moves q n && (ltb q.last.pos q.first.pos && q.settings.overwrite_on_remove)

-- the state then
abbrev grown_state : QueueFile → ℕ → QueueFile
grown_state q n =
    record {
      file_len = cond (ltb q.file_len n) n q.file_len;
      real_len = cond (ltb q.file_len n) n q.real_len;
      format = cond (commits_at q n) (next_format q.format) q.format;
      elem_cnt = q.elem_cnt;
      first = q.first;
      last = element (grown_place q n q.last.pos) q.last.len q.last.seq;
      settings = q.settings;
    }

module _ (q : QueueFile) (img : List ℕ) (n : ℕ) where
  grown_by : (longer wraps before over : Bool) →
      ltb q.file_len n ≡ longer → wrapped q ≡ wraps → ltb q.last.pos q.first.pos ≡ before →
      q.settings.overwrite_on_remove ≡ over → (grown n (q, img)).0 ≡ grown_state q n
  unfolding grown expanded laid_straight lengthened last_placed committed start_zeroed
  grown_by false wraps before over l w b o = rw (l)
  grown_by true false before over l w b o = rw (l, w)
  grown_by true true false true l w b o = rw (l, w, b, o)
  grown_by true true false false l w b o = rw (l, w, b, o)
  grown_by true true true true l w b o = rw (l, w, b, o)
  grown_by true true true false l w b o = rw (l, w, b, o)

  pub grown_state_lem : (grown n (q, img)).0 ≡ grown_state q n
  grown_state_lem =
      grown_by (ltb q.file_len n) (wrapped q) (ltb q.last.pos q.first.pos) q.settings.overwrite_on_remove
      refl refl refl refl

  -- ---- its parts

  pub grown-file : q.file_len ≤ n → (grown n (q, img)).0.file_len ≡ n
  grown-file h = ap (λ (s : QueueFile). s.file_len) grown_state_lem ∙ go (dec_le n q.file_len)
    where
      go : Dec (n ≤ q.file_len) → cond (ltb q.file_len n) n q.file_len ≡ n
      go (yes y) = rw (le-ltb q.file_len n y) (omega (arith, h, y))
      go (no m) = rw (lt-ltb q.file_len n (omega (arith, m)))

  pub grown-count : (grown n (q, img)).0.elem_cnt ≡ q.elem_cnt
  grown-count = ap (λ (s : QueueFile). s.elem_cnt) grown_state_lem

  pub grown-first : (grown n (q, img)).0.first ≡ q.first
  grown-first = ap (λ (s : QueueFile). s.first) grown_state_lem

  next_by : (b : Bool) → (cond b (next_format q.format) q.format).next_seq ≡ q.format.next_seq
  next_by true = refl
  next_by false = refl

  pub grown_next : (grown n (q, img)).0.format.next_seq ≡ q.format.next_seq
  grown_next = ap (λ (s : QueueFile). s.format.next_seq) grown_state_lem ∙ next_by (commits_at q n)

  generation_by : (b : Bool) → (cond b (next_format q.format) q.format).generation ≡ q.format.generation + cond b 1 0
  generation_by true = refl
  generation_by false = omega arith

  pub grown-generation : (grown n (q, img)).0.format.generation ≡ q.format.generation + cond (commits_at q n) 1 0
  grown-generation = ap (λ (s : QueueFile). s.format.generation) grown_state_lem ∙ generation_by (commits_at q n)

-- ---- the image's length: each step leaves it

length-placed : (old : ℕ) (w : Work) → length (last_placed old w).1 ≡ length w.1
unfolding last_placed
length-placed old w =
    let Same : Work → Type 0 = λ v. length v.1 ≡ length w.1 in
    either Same (ltb w.0.last.pos w.0.first.pos) _ _
    (λ _. either Same w.0.settings.overwrite_on_remove _ _ (λ _. length-committed _) refl)
    refl

length-zeroed : (end : ℕ) (w : Work) → length (start_zeroed end w).1 ≡ length w.1
unfolding start_zeroed
length-zeroed end w =
    either (λ (v : Work). length v.1 ≡ length w.1) w.0.settings.overwrite_on_remove _ _ (λ _. length-sets w.1 8192 (replicate end 0)) refl

length-lengthened : (n : ℕ) (w : Work) → length (lengthened n w).1 ≡ length w.1
unfolding lengthened
length-lengthened n w = length-sets w.1 w.0.real_len (replicate (n - w.0.real_len) 0)

length-straight : (old end : ℕ) (w : Work) → length (laid_straight old end w).1 ≡ length w.1
unfolding laid_straight
length-straight old end w =
    length-zeroed end _ ∙ length-placed old _ ∙ length_relink w.0.file_len old end w.0.elem_cnt _ w.0.first.pos
    ∙ length-relocated 8192 w.1 old end

length-expanded : (n : ℕ) (w : Work) → length (expanded n w).1 ≡ length w.1
unfolding expanded
length-expanded n w =
    either (λ (v : Work). length v.1 ≡ length w.1) (wrapped w.0) _ _
    (λ _. length-straight w.0.file_len (end_of_last w.0) (lengthened n w) ∙ length-lengthened n w)
    (length-lengthened n w)

pub length-grown : (q : QueueFile) (img : List ℕ) (n : ℕ) → length (grown n (q, img)).1 ≡ length img
unfolding grown
length-grown q img n =
    either (λ (v : Work). length v.1 ≡ length img) (ltb q.file_len n) _ _ (λ _. length-expanded n (q, img)) refl

-- ---- a length that was planned

module _ (q : QueueFile) (len span commits elements n : ℕ) (s : sound q len ≡ true)
    (e : judge_length q len span commits elements ≡ Ok n) where
  -- it is at least the file's
  pub planned_file : q.file_len ≤ n
  planned_file = go (length_doubles q.file_len (remaining_bytes q) span n (length_planned q len span commits elements n e).0).1
    where
      go : (n ≡ q.file_len) ⊎ (2 * q.file_len ≤ n) → q.file_len ≤ n
      go (inl i) = omega (arith, i)
      go (inr d) = omega (arith, d)

  -- and above it exactly where there is no room
  planned_longer : ltb (remaining_bytes q) span ≡ ltb q.file_len n
  planned_longer = go (dec_le span (remaining_bytes q))
    where
      g : grow_length q.file_len (remaining_bytes q) span ≡ Ok n
      g = (length_planned q len span commits elements n e).0

      go : Dec (span ≤ remaining_bytes q) → ltb (remaining_bytes q) span ≡ ltb q.file_len n
      go (yes y) =
          le-ltb (remaining_bytes q) span y
          ∙ sym (le-ltb q.file_len n (omega (arith, length_same q.file_len (remaining_bytes q) span n y g)))
      go (no m) =
          lt-ltb (remaining_bytes q) span (omega (arith, m))
          ∙ sym (lt-ltb q.file_len n
          (omega (arith, length_grows q.file_len (remaining_bytes q) span n g (omega (arith, m)), (sound_lengths_lem q len s).start)))

  planned_commits : commits_growth q span ≡ commits_at q n
  unfolding commits_growth
  planned_commits = rw (planned_longer) (sym (and_assoc (ltb q.file_len n) (wrapped q) (ltb q.last.pos q.first.pos && q.settings.overwrite_on_remove)))

  -- there is room for the commits that were asked for and growth's own, and for the elements
  pub planned_numbers : (q.format.generation + (commits + cond (commits_at q n) 1 0) < 2 ^ 63) × (q.format.next_seq + elements < 2 ^ 63)
  unfolding judge_length
  planned_numbers =
      rw (← planned_commits)
      (numbers_granted q (commits + growth_commits q span) elements
      (on_granted Err (judge_numbers q (commits + growth_commits q span) elements) _ (Ok n) (λ r. refused) e).0)
