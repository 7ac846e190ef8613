-- Growth keeps the queue: the theorem. Assumes nothing.
use Rattle.refusal.proofs.Laws.{refused, granted}
use mathlib.Core.Path.{◌≡◌, sym, ap, ◌∙◌, subst}
use mathlib.Core.Bool.{true}
use mathlib.Core.List.{List, ◌∷◌}
use Prim.Native.Nat.{ℕ, ◌+◌, ◌^◌, ◌≤◌, ◌<◌}
use lib.ListN.{length}
use Rattle.queue.specs.State.{sound}
use Rattle.queue.specs.Element.{capacity}
use Rattle.queue.specs.declared.element.Element.{Element}
use Rattle.queue.specs.declared.state.QueueFile.{QueueFile}
use Rattle.writing.specs.Work.{Work}
use Rattle.writing.specs.Growth.{judge_length, check_growth}
use Rattle.writing.specs.Expansion.{grown, judge_expansion, expand_of, Expands}
use Rattle.writing.proofs.PlanLaws.{expansion_expands, expansion_sound}
use Rattle.assurance.specs.Held.{Held, elements_of, sequences_of, payloads_of}
use Rattle.assurance.specs.Linked.{Linked}
use Rattle.assurance.specs.Growth.{grown_elements, Grown, GrowthKeepsQueue, GrowthStaysLinked}
use Rattle.assurance.proofs.Laid.{Laid}
use Rattle.assurance.proofs.Bridge.{held_all, Unrolled, linked_laid, laid_linked, laid_elements}
use Rattle.assurance.proofs.LaidRecovery.{laid_trail, laid_recovers}
use Rattle.assurance.proofs.Answered.{count_work}
use Rattle.assurance.proofs.GrownState.{commits_at, grown-file, grown-first, planned_file, planned_numbers}
use Rattle.assurance.proofs.Relinking.{grown_elem, grown_elems}
use Rattle.assurance.proofs.GrownLaid.{grown_laid}
use Rattle.assurance.proofs.GrownHeld.{held_sequences, held_payloads, grown_held}
use Rattle.std.specs.Prelude.{Ok}

-- the state and the image that growth leaves
module _ (img : List ℕ) (q : QueueFile) (n : ℕ) (k : Linked img q) (least : q.file_len ≤ n)
    (x : q.file_len < n → Expands q (length img) n) (room : commits_at q n ≡ true → q.format.generation + 1 < 2 ^ 63) where
  abbrev u : Unrolled img q
  u = linked_laid img q k

  abbrev q₁ : QueueFile
  q₁ = (grown n (q, img)).0

  abbrev img₁ : List ℕ
  img₁ = (grown n (q, img)).1

  laid : Laid img₁ q₁ (grown_elem q n u.e) (grown_elems q n u.es)
  laid = grown_laid img q u.e u.es n u.laid x room

  same_elements : elements_of q₁ img₁ ≡ grown_elements q q₁.file_len (elements_of q img)
  same_elements =
      laid_elements img₁ q₁ (grown_elem q n u.e) (grown_elems q n u.es) laid
      ∙ subst (λ (f : ℕ). held_all (capacity f) q₁.first.pos (grown_elems q n (u.e ∷ u.es)) ≡ grown_elements q f (elements_of q img))
      (sym (grown-file q img n least))
      (subst (λ (s : Element). held_all (capacity n) s.pos (grown_elems q n (u.e ∷ u.es)) ≡ grown_elements q n (elements_of q img))
      (sym (grown-first q img n))
      (subst (λ (l : List Held). held_all (capacity n) q.first.pos (grown_elems q n (u.e ∷ u.es)) ≡ grown_elements q n l)
      (sym (laid_elements img q u.e u.es u.laid))
      (grown_held img q u.e u.es n u.laid least x)))

  grown-linked : Grown img q img₁ q₁
  grown-linked = record {
    linked = laid_linked img₁ q₁ (grown_elem q n u.e) (grown_elems q n u.es) laid;
    holds = same_elements;
    sequences = ap sequences_of same_elements ∙ held_sequences q q₁.file_len (elements_of q img);
    payloads = ap payloads_of same_elements ∙ held_payloads q q₁.file_len (elements_of q img);
    trail = laid_trail img₁ q₁ (grown_elem q n u.e) (grown_elems q n u.es) laid;
    recovered = laid_recovers img₁ q₁ (grown_elem q n u.e) (grown_elems q n u.es) laid ∙ ap Ok (grown-first q img n);
  }

expansion_planned : (q : QueueFile) (len span n : ℕ) → judge_expansion q len span ≡ Ok n → judge_length q len span 0 0 ≡ Ok n
unfolding judge_expansion
expansion_planned q len span n e = (granted (sound q len) _ (judge_length q len span 0 0) (Ok n) refused e).1

pub growth_keeps_queue : GrowthKeepsQueue
unfolding expand_of
growth_keeps_queue img img' q q' span k e =
    let j = judge_expansion q (length img) span in
    let c = count_work img q' img' j (check_growth q img) (λ n. grown n (q, img)) e in
    let n = c.bytes in
    let b = c.count in
    let s = expansion_sound q (length img) span n b in
    let p = expansion_planned q (length img) span n b in
    let room : commits_at q n ≡ true → q.format.generation + 1 < 2 ^ 63 =
    λ t. rw (t) at (planned_numbers q (length img) span 0 0 n s p).0 in
    subst (λ (w : Work). Grown img q w.1 w.0) c.work
    (grown-linked img q n k (planned_file q (length img) span 0 0 n s p) (expansion_expands q (length img) span n b) room)

pub growth_stays_linked : GrowthStaysLinked
growth_stays_linked img img' q q' span k e = (growth_keeps_queue img img' q q' span k e).linked
