-- What is known where a step hands out an element, and where it does not. Assumes nothing.
use Rattle.refusal.proofs.Laws.{nothing, refused, granted, on_granted}
use Prim.Native.Nat.{ℕ, ◌≤◌, ◌<◌}
use native.Mathlib.Omega.{arith}
use mathlib.Core.Path.{◌≡◌, refl, subst}
use mathlib.Core.Bool.{Bool, true, false, cond}
use mathlib.Core.List.{List}
use lib.ListN.{length}
use lib.Dec.{ltb, leb}
use borrow.Author.Tests.{leb-true, ltb-true}
use Rattle.refusal.specs.declared.Refusal.TheVariants.{Unsound}
use Rattle.refusal.specs.Demand.{demand}
use Rattle.refusal.specs.declared.Refusal.{Refusal}
use Rattle.format.specs.declared.element.V2ElementHeader.{V2ElementHeader}
use Rattle.refusal.specs.Answer.{on_ok}
use Rattle.queue.specs.Element.{capacity, header_at, footer_verdict, element_here, Lies}
use Rattle.queue.specs.State.{sound}
use Rattle.queue.specs.Iter.{step_here, step_on, judge_step, stepped_output}
use Rattle.queue.specs.declared.state.QueueFile.{QueueFile}
use Rattle.queue.specs.declared.iter.Cursor.{Cursor}
use Rattle.queue.specs.declared.iter.Step.{Step}
use Rattle.queue.proofs.Sound.{sound_lengths_lem}
use Rattle.queue.proofs.Headers.{header_fits}
use Rattle.std.specs.Prelude.{Result, Ok, Err, Option, Some, None}

-- ---- an element

not_end : (b : Bool) (rest : Result (Option Step) Refusal) (s : Step) → cond b (Ok None) rest ≡ Ok (Some s) → rest ≡ Ok (Some s)
not_end true rest s e = absurd (nothing e)
not_end false rest s e = e

-- an element whose header is read at a place of the ring lies in it
pub header_lies :
    (q : QueueFile) (img : List ℕ) (p : ℕ) (h : V2ElementHeader) →
    sound q (length img) ≡ true → p < capacity q.file_len → header_at img q.file_len p ≡ Ok h →
    Lies (length img) q.file_len (element_here p h)
header_lies q img p h s place e =
    let l = sound_lengths_lem q (length img) s in
    record {
      some = omega (arith, place);
      inside = omega (arith, l.real, l.inside);
      small = omega (arith, l.real, l.small);
      place = place;
      span = header_fits img q.file_len p h e;
    }

-- what is handed out lies in the ring, and there is room for it
abbrev Known : ℕ → ℕ → ℕ → Step → Type 0
Known len file room s = Lies len file s.elem × (s.elem.len ≤ room)

on_known :
    (q : QueueFile) (img : List ℕ) (c : Cursor) (room : ℕ) (s : Step) (p : Result V2ElementHeader Refusal) →
    sound q (length img) ≡ true → c.next_elem_pos < capacity q.file_len → header_at img q.file_len c.next_elem_pos ≡ p →
    on_ok Err p (step_on img q.file_len c room) ≡ Ok (Some s) → Known (length img) q.file_len room s
on_known q img c room s (Err r) b place h e = absurd (refused e)
on_known q img c room s (Ok d) b place h e =
    let here : Step = step_here q.file_len c d in
    let g = granted _ _ _ _ refused e in
    let same : ◌≡◌ {A = Result (Option Step) Refusal} (Ok (Some here)) (Ok (Some s)) =
    (on_granted Err (footer_verdict img q.file_len here.elem) (Ok (Some here)) (Ok (Some s)) (λ r. refused) g.1).1 in
    let v : here ≡ s = cc in
    subst (Known (length img) q.file_len room) v (header_lies q img c.next_elem_pos d b place h, leb-true _ _ g.0)

pub step_known : (q : QueueFile) (img : List ℕ) (c : Cursor) (room : ℕ) (s : Step) → judge_step q img c room ≡ Ok (Some s) → Known (length img) q.file_len room s
unfolding judge_step
step_known q img c room s e =
    let file = q.file_len in
    let p = c.next_elem_pos in
    let on : Result (Option Step) Refusal = on_ok Err (header_at img file p) (step_on img file c room) in
    let placed : Result (Option Step) Refusal = demand (ltb p (capacity file)) (Err Unsound) on in
    let a = granted (sound q (length img)) _ _ _ refused e in
    let b = granted (ltb p (capacity file)) (Err Unsound) on _ refused (not_end (leb q.elem_cnt c.next_elem_index) placed s a.1) in
    on_known q img c room s (header_at img file p) a.0 (ltb-true _ _ b.0) refl b.1

-- ---- none: the answer has no element

pub none_output : (t : Result (Option Step) Refusal) (img : List ℕ) (file : ℕ) (out : List ℕ) → ((s : Step) → t ≡ Ok (Some s) → ⊥) → out ≡ stepped_output t img file out
none_output (Ok (Some s)) img file out k = absurd (k s refl)
none_output (Ok None) img file out k = refl
none_output (Err r) img file out k = refl
