-- Strict opening answers a state exactly where plain opening does and the state is a whole trail or empty. What plain opening answers
-- has its ends where their headers stand; the walk does the rest. Assumes nothing.
use Rattle.refusal.proofs.Laws.{refused, same_ok, pass, granted, on_granted}
use mathlib.Core.Path.{◌≡◌, refl, sym, ap, ◌∙◌, subst}
use mathlib.Core.Logic.{◌⊎◌, inl, inr}
use mathlib.Core.Bool.{Bool, true, cond}
use mathlib.Core.List.{List}
use Prim.Native.Nat.{ℕ, suc, ◌-◌, ◌≤◌}
use native.Mathlib.Nat.{mod-eq_of_lt}
use native.Mathlib.Omega.{arith}
use lib.ListN.{length, get_or}
use borrow.Author.Tests.{eq-eqb, ne_eqb}
use Rattle.ring.proofs.Places.{there_ring}
use Rattle.format.specs.declared.element.V2ElementHeader.{V2ElementHeader}
use Rattle.refusal.specs.Answer.{on_verdict}
use Rattle.queue.specs.Element.{capacity, element_here, header_at}
use Rattle.queue.specs.State.{sound}
use Rattle.queue.specs.Recover.{recover_head}
use Rattle.queue.specs.Opening.{built_queue, or_recovered, first_element, from_state, open_state, open_queue}
use Rattle.queue.specs.Strict.{trail_from, first_link, check_trail, strictly, open_strictly}
use Rattle.queue.specs.declared.element.Element.{Element}
use Rattle.queue.specs.declared.state.Settings.{Settings}
use Rattle.queue.specs.declared.state.QueueFile.{QueueFile}
use Rattle.queue.proofs.Sound.{sound-ends, by_count}
use Rattle.queue.proofs.OpenLaws.{EndsOpened, state_opened}
use Rattle.assurance.specs.Linked.{Stands, Empty}
use Rattle.assurance.specs.StrictOpening.{WholeTrail, StrictOpeningIsExact}
use Rattle.assurance.proofs.Chain.{header_of, header_there}
use Rattle.assurance.proofs.Recovery.{recovery_is_exact}
use Rattle.assurance.proofs.TrailWalk.{Found, trail_found}
use Rattle.std.specs.Prelude.{Result, Ok, Err}
use Rattle.refusal.specs.declared.Refusal.{Refusal}
use Rattle.format.specs.declared.slots.V2OpenState.{V2OpenState}

-- ---- plain opening: the ends of what it answers stand

-- an element whose header is valid, with its length and sequence
record Standing (img : List ℕ) (file : ℕ) (e : Element) : Type 0 where
  pub back : ℕ
  pub stands : Stands img file e back

here_stands : (img : List ℕ) (file p : ℕ) (h : V2ElementHeader) → header_at img file p ≡ Ok h → Standing img file (element_here p h)
here_stands img file p h e = record { back = h.prev_pos; stands = e }

-- the head, found or recovered
recovered_stands : (img : List ℕ) (file tail tail_seq n : ℕ) (e : Element) → 1 ≤ n → recover_head img file tail tail_seq n ≡ Ok e
    → Standing img file e
unfolding recover_head
recovered_stands img file tail tail_seq n e l a =
    let ring = there_ring 8192 (length img) file (granted _ _ _ _ refused a).0 in
    let k = (recovery_is_exact img file tail tail_seq n e ring.0 ring.1 l).0 a in
    subst (Standing img file) (sym k.answer)
    (here_stands img file (get_or k.places (n - 1) 0) (k.trail.header (n - 1)) (k.trail.valid (n - 1) (omega (arith, k.many))))

head_stands : (img : List ℕ) (file p : ℕ) (d : Result V2ElementHeader Refusal) (recovered : Result Element Refusal) (e : Element) → header_at img file p ≡ d
    → (recovered ≡ Ok e → Standing img file e) → or_recovered d p recovered ≡ Ok e → Standing img file e
head_stands img file p (Ok h) recovered e a k o =
    let i : element_here p h ≡ e = cc in
    subst (Standing img file) i (here_stands img file p h a)
head_stands img file p (Err r) recovered e a k o = k o

first_stands : (img : List ℕ) (file p : ℕ) (last : Element) (n : ℕ) (e : Element) → 1 ≤ n
    → first_element img file p last n ≡ Ok e → Standing img file e
unfolding first_element
first_stands img file p last n e l o =
    head_stands img file p (header_at img file p) (recover_head img file last.pos last.seq n) e refl
    (recovered_stands img file last.pos last.seq n e l) o

-- of a state with elements that plain opening answers, both ends stand
abbrev EndsStand : List ℕ → QueueFile → Type 0
EndsStand img q = Standing img q.file_len q.first × Standing img q.file_len q.last

ends_stand : (img : List ℕ) (q q' : QueueFile) → EndsOpened img q q' → EndsStand img q'
ends_stand img q q' k =
    let last = element_here k.last k.header in
    subst (EndsStand img) k.built (
      first_stands img q.file_len k.first last q.elem_cnt k.head (omega (arith, k.some)) k.found,
      here_stands img q.file_len k.last k.header k.valid,
    )

state_stands : (img : List ℕ) (q q' : QueueFile) → (q'.elem_cnt ≡ 0 → ⊥) → ((q.elem_cnt ≡ 0) × (q ≡ q')) ⊎ EndsOpened img q q'
    → EndsStand img q'
state_stands img q q' n (inl z) = absurd (n (ap (λ (s : QueueFile). s.elem_cnt) (sym z.1) ∙ z.0))
state_stands img q q' n (inr k) = ends_stand img q q' k

elected_stands : (img : List ℕ) (real : ℕ) (settings : Settings) (o : Result V2OpenState Refusal) (q : QueueFile) → from_state img real settings o ≡ Ok q
    → (q.elem_cnt ≡ 0 → ⊥) → EndsStand img q
elected_stands img real settings (Err r) q e n = absurd (refused e)
elected_stands img real settings (Ok o) q e n =
    let b = built_queue o real settings in
    state_stands img b q n (state_opened img b q o.slot e)

open_stands : (img : List ℕ) (real : ℕ) (settings : Settings) (q : QueueFile) → open_queue img real settings ≡ Ok q
    → (q.elem_cnt ≡ 0 → ⊥) → EndsStand img q
unfolding open_queue
open_stands img real settings q e n = elected_stands img real settings (open_state img real) q e n

-- ---- strict opening

-- what it asks of a plain answer
record Asked (img : List ℕ) (q : QueueFile) (a : Result QueueFile Refusal) : Type 0 where
  pub plain : a ≡ Ok q
  pub sound : sound q (length img) ≡ true
  pub trail : check_trail q img ≡ Ok tt

asked : (img : List ℕ) (a : Result QueueFile Refusal) (q : QueueFile) → strictly img a ≡ Ok q → Asked img q a
asked img (Err r) q e = absurd (refused e)
asked img (Ok p) q e =
    let s = granted _ _ _ _ refused e in
    let t = on_granted Err (check_trail p img) (Ok p) (Ok q) (λ r. refused) s.1 in
    let i : p ≡ q = same_ok p q t.1 in
    record {
      plain = t.1;
      sound = ap (λ (x : QueueFile). sound x (length img)) (sym i) ∙ s.0;
      trail = ap (λ (x : QueueFile). check_trail x img) (sym i) ∙ t.0;
    }

strict_asked : (img : List ℕ) (real : ℕ) (settings : Settings) (q : QueueFile) → open_strictly img real settings ≡ Ok q
    → Asked img q (open_queue img real settings)
unfolding open_strictly
strict_asked img real settings q e = asked img (open_queue img real settings) q e

asked_strict : (img : List ℕ) (real : ℕ) (settings : Settings) (q : QueueFile) → Asked img q (open_queue img real settings)
    → open_strictly img real settings ≡ Ok q
unfolding open_strictly
asked_strict img real settings q k =
    ap (strictly img) k.plain ∙ pass _ _ _ k.sound ∙ ap (λ (v : Result (Unit {0}) Refusal). on_verdict Err v (Ok q)) k.trail

-- the trail of a queue with elements
trail_of : (q : QueueFile) (img : List ℕ) → (q.elem_cnt ≡ 0 → ⊥)
    → check_trail q img
    ≡ trail_from img q.file_len q.last.pos q.elem_cnt q.first.pos (q.format.next_seq - q.elem_cnt) first_link 0
unfolding check_trail
trail_of q img n =
    ap (λ (b : Bool). cond b (Ok tt)
    (trail_from img q.file_len q.last.pos q.elem_cnt q.first.pos (q.format.next_seq - q.elem_cnt) first_link 0))
    (ne_eqb _ _ n)

no_trail : (q : QueueFile) (img : List ℕ) → q.elem_cnt ≡ 0 → check_trail q img ≡ Ok tt
unfolding check_trail
no_trail q img z =
    ap (λ (b : Bool). cond b (Ok tt)
    (trail_from img q.file_len q.last.pos q.elem_cnt q.first.pos (q.format.next_seq - q.elem_cnt) first_link 0))
    (eq-eqb _ _ z)

-- the element that the walk found first is the one that stands there, so it names nothing
whole : (img : List ℕ) (real : ℕ) (settings : Settings) (q : QueueFile) → (q.elem_cnt ≡ 0 → ⊥) → Asked img q (open_queue img real settings)
    → WholeTrail img q
whole img real settings q n k =
    let ends = open_stands img real settings q k.plain n in
    let file : ℕ = q.file_len in
    let first : ℕ = q.first.pos in
    let start : ℕ = q.format.next_seq - q.elem_cnt in
    let t : trail_from img file q.last.pos q.elem_cnt first start first_link 0 ≡ (Ok tt) = sym (trail_of q img n) ∙ k.trail in
    let m : suc (q.elem_cnt - 1) ≡ q.elem_cnt = omega (arith, n) in
    let low = (sound-ends q (length img) k.sound n).first-place in
    let f : Found (q.elem_cnt - 1) img file q.last.pos start first_link 0 first =
    trail_found (q.elem_cnt - 1) img file q.last.pos start first_link 0 first
    (rw (m, mod-eq_of_lt {n = first} {m = capacity file} low) t) in
    let same : Ok (record { payload_len = q.first.len; seq = q.first.seq; prev_pos = ends.0.back }) ≡ Ok (header_of f.e) =
    sym ends.0.stands
    ∙ header_there img file first first f.e (sym (mod-eq_of_lt {n = first} {m = capacity file} low)) f.holds.0 in
    let back : ends.0.back ≡ f.e.back = ap (λ (h : V2ElementHeader). h.prev_pos) (same_ok _ _ same) in
    record {
      linked = record {
        sound = k.sound;
        some = omega (arith, n);
        first_back = 0;
        first = rw (sym (back ∙ f.linked)) ends.0.stands;
        last-back = ends.1.back;
        last = ends.1.stands;
        trail = t;
      };
      starts = refl;
    }

pub strict_opening_is_exact : StrictOpeningIsExact
strict_opening_is_exact img real settings q = (there, back)
  where
    there : open_strictly img real settings ≡ Ok q → (open_queue img real settings ≡ Ok q) × (WholeTrail img q ⊎ Empty img q)
    there e =
        let k = strict_asked img real settings q e in
        (k.plain, by_count q.elem_cnt (λ z. inr (record { sound = k.sound; none = z })) (λ n. inl (whole img real settings q n k)))

    back : open_queue img real settings ≡ Ok q → WholeTrail img q ⊎ Empty img q → open_strictly img real settings ≡ Ok q
    back o (inr z) =
        asked_strict img real settings q (record { plain = o; sound = z.sound; trail = no_trail q img z.none })
    back o (inl w) =
        asked_strict img real settings q
        (record {
          plain = o;
          sound = w.linked.sound;
          trail =
              trail_of q img (λ z. omega (arith, w.linked.some))
              ∙ ap (λ (b : ℕ). trail_from img q.file_len q.last.pos q.elem_cnt q.first.pos (q.format.next_seq - q.elem_cnt) b 0)
              (sym w.starts)
              ∙ w.linked.trail;
        })
