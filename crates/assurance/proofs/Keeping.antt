-- The steps of the calls store behind the slots, or commit: after each of them the active slot is up to the state, as it was before.
-- Assumes nothing.
use mathlib.Core.Path.{◌≡◌, refl, sym}
use mathlib.Core.List.{List}
use Prim.Native.Nat.{ℕ, zero, suc, ◌-◌, ◌≤◌, min}
use native.Mathlib.Omega.{arith}
use lib.ListN.{length, replicate}
use lib.Dec.{ltb}
use borrow.Author.Tests.{le-ltb}
use Rattle.wire.specs.Wire.{bytes_at}
use Rattle.format.specs.declared.element.V2ElementHeader.{V2ElementHeader}
use Rattle.queue.specs.Element.{capacity, header_at}
use Rattle.queue.specs.declared.state.QueueFile.{QueueFile}
use Rattle.writing.specs.Work.{Work, with_length}
use Rattle.writing.specs.Commit.{next_state, committed}
use Rattle.writing.specs.Growth.{end_of_last, wrapped}
use Rattle.writing.specs.Expansion.{lengthened, moved, names_moved, relinked_header, relink_step, relink_from, last_moved, last_placed, start_zeroed, laid_straight, expanded, grown}
use Rattle.writing.specs.Adding.{appended}
use Rattle.writing.specs.Removal.{removed_zeroed}
use Rattle.writing.specs.Clearing.{cleared_length, ring_zeroed, cut_state}
use Rattle.writing.proofs.Choices.{left_out, either}
use Rattle.assurance.specs.Reopening.{Current}
use Rattle.assurance.proofs.Fronts.{Fronts, front_all, front-then, front-put, front_write, upto_kept}
use Rattle.assurance.proofs.Slots.{stored-current}
use Rattle.std.specs.Prelude.{Result, Ok, Err}
use Rattle.refusal.specs.declared.Refusal.{Refusal}

-- what the next commit needs
abbrev pub UpToDate : Work → Type 0
UpToDate w = Current w.1 w.0

-- a store behind the slots keeps it
abbrev pub Behind : Work → Work → Type 0
Behind v w = (w.0 ≡ v.0) × Fronts v.1 w.1

up_to-front : (q : QueueFile) (img img' : List ℕ) → Fronts img img' → UpToDate (q, img) → UpToDate (q, img')
up_to-front q img img' f c = upto_kept img img' q.format.active_slot q.format.generation f c

-- ---- growth

relinked-front : (file old end : ℕ) (img : List ℕ) (p : ℕ) (h : V2ElementHeader) → Fronts img (relinked_header file old end img p h)
unfolding relinked_header
relinked-front file old end img p h =
    either (Fronts img) (names_moved end h.prev_pos) _ _ (λ _. front_write (capacity file) img p _) (front_all img)

step_front : (file old end : ℕ) (img : List ℕ) (p : ℕ) (d : Result V2ElementHeader Refusal) (rest : List ℕ → ℕ → List ℕ) →
    ((i : List ℕ) (r : ℕ) → Fronts i (rest i r)) → Fronts img (relink_step file old end img p d rest)
step_front file old end img p (Err r) rest k = front_all img
step_front file old end img p (Ok h) rest k =
    front-then img (relinked_header file old end img p h) _ (relinked-front file old end img p h) (k _ _)

relink_front : (file old end n : ℕ) (img : List ℕ) (p : ℕ) → Fronts img (relink_from file old end n img p)
unfolding relink_from
relink_front file old end zero img p = front_all img
relink_front file old end (suc n) img p =
    step_front file old end img p (header_at img file p) (relink_from file old end n) (relink_front file old end n)

placed-current : (old : ℕ) (w : Work) → 8192 ≤ length w.1 → UpToDate w → UpToDate (last_placed old w)
unfolding last_placed committed
placed-current old w l c =
    either UpToDate (ltb w.0.last.pos w.0.first.pos) _ _
    (λ _. either UpToDate w.0.settings.overwrite_on_remove _ _ (λ _. stored-current (next_state (last_moved old w.0)) w.1 l) c)
    c

zeroed-current : (end : ℕ) (w : Work) → UpToDate w → UpToDate (start_zeroed end w)
unfolding start_zeroed
zeroed-current end w c =
    either UpToDate w.0.settings.overwrite_on_remove _ _
    (λ _. up_to-front w.0 w.1 _ (front-put w.1 8192 (replicate end 0) (omega arith)) c)
    c

straight-current : (old end : ℕ) (w : Work) → 8192 ≤ old → 8192 ≤ length w.1 → UpToDate w → UpToDate (laid_straight old end w)
unfolding laid_straight
straight-current old end w o l c =
    let img = (moved old end w).1 in
    let f = front-then w.1 img (relink_from w.0.file_len old end w.0.elem_cnt img w.0.first.pos)
    (front-put w.1 old (bytes_at end w.1 8192) o)
    (relink_front w.0.file_len old end w.0.elem_cnt img w.0.first.pos) in
    zeroed-current end _ (placed-current old _ (omega (arith, l, f.long)) (up_to-front w.0 w.1 _ f c))

-- a file whose lengths reach behind both slots
pub record Long (q : QueueFile) (len : ℕ) : Type 0 where
  pub file : 8192 ≤ q.file_len
  pub real : 8192 ≤ q.real_len
  pub image : 8192 ≤ len

lengthened-front : (n : ℕ) (w : Work) → 8192 ≤ w.0.real_len → Fronts w.1 (lengthened n w).1
unfolding lengthened
lengthened-front n w h = front-put w.1 w.0.real_len (replicate (n - w.0.real_len) 0) h

lengthened-current : (n : ℕ) (w : Work) → 8192 ≤ w.0.real_len → UpToDate w → UpToDate (lengthened n w)
unfolding lengthened
lengthened-current n w h c = up_to-front w.0 w.1 _ (lengthened-front n w h) c

expanded-current : (n : ℕ) (w : Work) → Long w.0 (length w.1) → UpToDate w → UpToDate (expanded n w)
unfolding expanded
expanded-current n w l c =
    let d = lengthened-current n w l.real c in
    let i : 8192 ≤ length (lengthened n w).1 = omega (arith, l.image, (lengthened-front n w l.real).long) in
    either UpToDate (wrapped w.0) _ _ (λ _. straight-current w.0.file_len (end_of_last w.0) (lengthened n w) l.file i d) d

pub grown-current : (n : ℕ) (w : Work) → Long w.0 (length w.1) → UpToDate w → UpToDate (grown n w)
unfolding grown
grown-current n w l c = either UpToDate (ltb w.0.file_len n) _ _ (λ _. expanded-current n w l c) c

-- ---- add

pub appended-current : (payload : List ℕ) (w : Work) → UpToDate w → UpToDate (appended payload w)
unfolding appended
appended-current payload w c = up_to-front w.0 w.1 _ (front_write (capacity w.0.file_len) w.1 _ _) c

-- ---- remove and clear

pub removed_behind : (from to : ℕ) (w : Work) → Behind w (removed_zeroed from to w)
unfolding removed_zeroed
removed_behind from to w =
    either (Behind w) w.0.settings.overwrite_on_remove _ _
    (λ _. (refl, front_write (capacity w.0.file_len) w.1 from _))
    (refl, front_all w.1)

pub zeroed-behind : (w : Work) → Behind w (ring_zeroed w)
unfolding ring_zeroed
zeroed-behind w =
    either (Behind w) w.0.settings.overwrite_on_remove _ _
    (λ _. (refl, front-put w.1 8192 (replicate (min w.0.file_len (cleared_length w.0) - 8192) 0) (omega arith)))
    (refl, front_all w.1)

-- a cut changes lengths alone, and none where the file is no longer than that
pub cut-format : (q : QueueFile) → (cut_state q).format ≡ q.format
cut-format q = either (λ (r : QueueFile). r.format ≡ q.format) (ltb (cleared_length q) q.file_len) _ _ (λ _. refl) refl

pub not_cut : (q : QueueFile) → q.file_len ≤ cleared_length q → cut_state q ≡ q
not_cut q h =
    sym (left_out (ltb (cleared_length q) q.file_len) (with_length q (cleared_length q)) q (le-ltb (cleared_length q) q.file_len h))
