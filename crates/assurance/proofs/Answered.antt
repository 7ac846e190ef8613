-- What a call that answers a queue has done: it was granted, and its answer is its steps. Assumes nothing.
use mathlib.Core.Path.{◌≡◌, refl, ap}
use mathlib.Core.List.{List}
use Prim.Native.Nat.{ℕ}
use native.Mathlib.Omega.{arith}
use Rattle.refusal.specs.declared.Refusal.{Refusal}
use Rattle.refusal.specs.Answer.{on_verdict, on_ok}
use Rattle.queue.specs.declared.element.Element.{Element}
use Rattle.queue.specs.declared.state.QueueFile.{QueueFile}
use Rattle.refusal.proofs.Laws.{on_granted}
use Rattle.writing.specs.Work.{Work, done, kept}
use Rattle.std.specs.Prelude.{Result, Ok, Err}

module _ (img : List ℕ) (q' : QueueFile) (img' : List ℕ) where
  -- a refusal is no queue
  pub not_kept : (r : Refusal) → kept img r ≡ (Ok q', img') → ⊥
  not_kept r e = let a = ap (λ (x : Result QueueFile Refusal × List ℕ). x.0) e in let z : ◌≡◌ {A = ℕ} 0 1 = cc (a) in omega arith

  -- the steps that are done are what is answered
  pub done_work : (w : Work) → done w ≡ (Ok q', img') → w ≡ (q', img')
  done_work w e =
      let a = ap (λ (x : Result QueueFile Refusal × List ℕ). x.0) e in
      let q : w.0 ≡ q' = cc (a) in
      let i : w.1 ≡ img' = ap (λ (x : Result QueueFile Refusal × List ℕ). x.1) e in
      rw (← q, ← i)

  -- after a verdict
  pub verdict_work : (v : Result (Unit {0}) Refusal) (w : Work) → on_verdict (kept img) v (done w) ≡ (Ok q', img') →
      (v ≡ Ok tt) × (w ≡ (q', img'))
  verdict_work v w e =
      let g = on_granted (kept img) v (done w) (Ok q', img') not_kept e in
      (g.0, done_work w g.1)

  -- after a length that was planned and checked
  pub record Counted (c : Result ℕ Refusal) (f : ℕ → Work) : Type 0 where
    pub bytes : ℕ
    pub count : c ≡ Ok bytes
    pub work : f bytes ≡ (q', img')

  pub count_work : (c : Result ℕ Refusal) (v : ℕ → Result (Unit {0}) Refusal) (f : ℕ → Work) →
      on_ok (kept img) c (λ n. on_verdict (kept img) (v n) (done (f n))) ≡ (Ok q', img') → Counted c f
  count_work (Ok n) v f e = record { bytes = n; count = refl; work = (verdict_work (v n) (f n) e).1 }
  count_work (Err r) v f e = absurd (not_kept r e)

  -- after a walk
  pub record Reached (s : Result Element Refusal) (f : Element → Result QueueFile Refusal × List ℕ) : Type 0 where
    pub element : Element
    pub walk : s ≡ Ok element
    pub answer : f element ≡ (Ok q', img')

  pub skip_work : (s : Result Element Refusal) (f : Element → Result QueueFile Refusal × List ℕ) → on_ok (kept img) s f ≡ (Ok q', img') → Reached s f
  skip_work (Ok e) f h = record { element = e; walk = refl; answer = h }
  skip_work (Err r) f h = absurd (not_kept r h)
