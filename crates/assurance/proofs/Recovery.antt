-- Recovery finds exactly the trail that is there: both ways by induction on the steps that are left. Assumes nothing.
use Rattle.refusal.proofs.Laws.{refused, granted, keep}
use mathlib.Core.Path.{◌≡◌, refl, sym, ap, ◌∙◌}
use mathlib.Core.List.{List, [], ◌∷◌}
use Prim.Native.Nat.{ℕ, zero, suc, ◌+◌, ◌-◌, ◌<◌, ◌≤◌}
use native.Mathlib.Nat.{sub-zero, zero-add}
use native.Mathlib.Omega.{arith}
use borrow.Author.Tests.{le-leb, eq-eqb, ne_eqb, leb-true}
use lib.ListN.{length, get_or}
use Rattle.refusal.specs.Demand.{demand}
use Rattle.refusal.specs.declared.Refusal.{Refusal}
use Rattle.ring.proofs.Places.{ring_there}
use Rattle.format.specs.declared.element.V2ElementHeader.{V2ElementHeader}
use Rattle.refusal.specs.Answer.{on_ok}
use Rattle.queue.specs.Element.{element_here, header_at}
use Rattle.queue.specs.Recover.{go_back, recover_from}
use Rattle.queue.specs.declared.element.Element.{Element}
use Rattle.queue.proofs.Headers.{on_sequence}
use Rattle.queue.proofs.RecoverLaws.{recover_opens}
use Rattle.assurance.specs.Recovery.{Trail, Recovery, RecoveryIsExact, TrailIsUnique}
use Rattle.std.specs.Prelude.{Result, Ok, Err}

-- ---- what a step that came to a head has passed

-- a backlink that names a place
went_back : (link : ℕ) (next : ℕ → Result Element Refusal) (e : Element) → go_back link next ≡ Ok e → (8192 ≤ link) × (next (link - 8192) ≡ Ok e)
went_back link next e q =
    keep (λ (d : Result ℕ Refusal). on_ok Err d next ≡ Ok e → (8192 ≤ link) × (next (link - 8192) ≡ Ok e)) _ _ _
    (λ z. absurd (refused z))
    (λ b z. (leb-true 8192 link b, z))
    (granted _ _ _ _ refused q).1

-- a header before those of a trail
abbrev before : V2ElementHeader → (ℕ → V2ElementHeader) → ℕ → V2ElementHeader
before h f zero = h
before h f (suc i) = f i

module _ (img : List ℕ) (file : ℕ) where
  -- ---- a trail of one place, and a place put before a trail

  module _ (p : ℕ) (h : V2ElementHeader) (v : header_at img file p ≡ Ok h) where
    alone-valid : (i : ℕ) → i < 1 → header_at img file (get_or (p ∷ []) i 0) ≡ Ok h
    alone-valid zero l = v
    alone-valid (suc i) l = absurd (omega arith)

    abbrev alone : (t : ℕ) → h.seq ≡ t → Trail img file (p ∷ []) t
    alone t q = record {
      header = λ i. h;
      valid = alone-valid;
      falls = λ i l. omega arith;
      linked = λ i l. absurd (omega arith);
    }

    module _ (q t : ℕ) (rest : List ℕ) (r : Trail img file (q ∷ rest) t) (b : h.prev_pos ≡ 8192 + q) where
      put-valid : (i : ℕ) → i < suc (suc (length rest)) →
          header_at img file (get_or (p ∷ q ∷ rest) i 0) ≡ Ok (before h r.header i)
      put-valid zero l = v
      put-valid (suc i) l = r.valid i (omega arith)

      put-falls : (t' : ℕ) → h.seq ≡ t' → t' ≡ suc t → (i : ℕ) → i < suc (suc (length rest)) → (before h r.header i).seq + i ≡ t'
      put-falls t' s z zero l = omega arith
      put-falls t' s z (suc i) l = let w : (r.header i).seq + i ≡ t = r.falls i (omega arith) in omega arith

      put_linked : (i : ℕ) → suc i < suc (suc (length rest)) → (before h r.header i).prev_pos ≡ 8192 + get_or (p ∷ q ∷ rest) (suc i) 0
      put_linked zero l = b
      put_linked (suc i) l = r.linked i (omega arith)

      abbrev put : (t' : ℕ) → h.seq ≡ t' → t' ≡ suc t → Trail img file (p ∷ q ∷ rest) t'
      put t' s z = record { header = before h r.header; valid = put-valid; falls = put-falls t' s z; linked = put_linked }

  -- a trail without its first place
  abbrev rest_of : (p q t : ℕ) (rest : List ℕ) → Trail img file (p ∷ q ∷ rest) t → Trail img file (q ∷ rest) (t - 1)
  rest_of p q t rest r = record {
    header = λ i. r.header (suc i);
    valid = λ i l. r.valid (suc i) (omega arith);
    falls = λ i l. let z : (r.header (suc i)).seq + suc i ≡ t = r.falls (suc i) (omega arith) in omega arith;
    linked = λ i l. r.linked (suc i) (omega arith);
  }

  -- ---- the last place of a trail, as recovery answers it

  abbrev last_of : (p t : ℕ) (rest : List ℕ) → Trail img file (p ∷ rest) t → Element
  last_of p t rest r = element_here (get_or (p ∷ rest) (length rest) 0) (r.header (length rest))

  -- where there is a trail recovery succeeds with its last place
  complete : (ts s p t : ℕ) (rest : List ℕ) → s + t ≡ ts → (r : Trail img file (p ∷ rest) t) →
      recover_from img file ts (suc (length rest)) s p ≡ Ok (last_of p t rest r)
  unfolding recover_from demand
  complete ts s p t [] e r =
      let f : (r.header 0).seq + 0 ≡ t = r.falls 0 (omega arith) in
      rw (le-leb s ts (omega arith), r.valid 0 (omega arith), eq-eqb (r.header 0).seq (ts - s) (omega arith))
  complete ts s p t (q ∷ rest) e r =
      let f : (r.header 0).seq + 0 ≡ t = r.falls 0 (omega arith) in
      let f1 : (r.header 1).seq + 1 ≡ t = r.falls 1 (omega arith) in
      let l : (r.header 0).prev_pos ≡ 8192 + q = r.linked 0 (omega arith) in
      let b : (r.header 0).prev_pos - 8192 ≡ q = omega arith in
      rw (
        le-leb s ts (omega arith),
        r.valid 0 (omega arith),
        eq-eqb (r.header 0).seq (ts - s) (omega arith),
        ne_eqb (r.header 0).prev_pos 0 (λ z. omega arith),
        le-leb 8192 (r.header 0).prev_pos (omega arith),
        b,
      )
      (complete ts (s + 1) q (t - 1) rest (omega arith) (rest_of p q t rest r))

  -- ---- and the other way round

  -- what a walk from the place p on has gone over in n steps after step s
  record Walked (ts s t p n : ℕ) (e : Element) : Type 0 where
    pub within : s ≤ ts
    pub rest : List ℕ
    pub many : length rest ≡ n
    pub trail : Trail img file (p ∷ rest) t
    pub answer : e ≡ last_of p t rest trail

  sound : (ts n s t p : ℕ) (e : Element) → t ≡ ts - s → recover_from img file ts (suc n) s p ≡ Ok e → Walked ts s t p n e
  unfolding recover_from
  sound ts zero s t p e i h =
      let g = granted _ _ _ _ refused h in
      let j = on_sequence Err (header_at img file p) (ts - s) _ (Ok e) (λ r. refused) g.1 in
      record {
        within = leb-true s ts g.0;
        rest = [];
        many = refl;
        trail = alone p j.header j.valid t (j.in_sequence_lem ∙ sym i);
        answer = cc j.goes;
      }
  sound ts (suc n) s t p e i h =
      let g = granted _ _ _ _ refused h in
      let j = on_sequence Err (header_at img file p) (ts - s) _ (Ok e) (λ r. refused) g.1 in
      let prev : ℕ = j.header.prev_pos in
      let b = went_back prev _ e j.goes in
      let far : 8192 ≤ prev = b.0 in
      let w = sound ts n (s + 1) (ts - (s + 1)) (prev - 8192) e refl b.1 in
      let more : s + 1 ≤ ts = w.within in
      let l : prev ≡ 8192 + (prev - 8192) = omega arith in
      record {
        within = leb-true s ts g.0;
        rest = (prev - 8192) ∷ w.rest;
        many = ap suc w.many;
        trail =
            put p j.header j.valid (prev - 8192) (ts - (s + 1)) w.rest w.trail l t (j.in_sequence_lem ∙ sym i) (omega arith);
        answer = w.answer;
      }

-- ---- the theorem

-- a walk that comes to a head has gone over a trail
found : (img : List ℕ) (file tail ts n : ℕ) (e : Element) → recover_from img file ts n 0 tail ≡ Ok e → Recovery img file tail ts n e
unfolding recover_from
found img file tail ts zero e h = absurd (refused h)
found img file tail ts (suc n) e h =
    let w = sound img file ts n 0 ts tail e (sym (sub-zero ts)) h in
    let m : length w.rest ≡ n = w.many in
    let z : suc n - 1 ≡ length w.rest = omega arith in
    record {
      places = tail ∷ w.rest;
      many = ap suc m;
      first = refl;
      trail = w.trail;
      answer = w.answer ∙ ap (λ (k : ℕ). element_here (get_or (tail ∷ w.rest) k 0) (w.trail.header k)) (sym z);
    }

-- a trail leads a walk to its last place
there : (img : List ℕ) (file tail ts n : ℕ) (e : Element) (places : List ℕ) → 1 ≤ n → length places ≡ n → get_or places 0 0 ≡ tail →
    (r : Trail img file places ts) → e ≡ element_here (get_or places (n - 1) 0) (r.header (n - 1)) → recover_from img file ts n 0 tail ≡ Ok e
there img file tail ts n e [] l m f r a = absurd (omega arith)
there img file tail ts n e (x ∷ rest) l m f r a =
    let z : n - 1 ≡ length rest = omega arith in
    ap (λ (k : ℕ). recover_from img file ts k 0 tail) (sym m)
    ∙ ap (λ (p : ℕ). recover_from img file ts (suc (length rest)) 0 p) (sym f)
    ∙ complete img file ts 0 x ts rest (zero-add ts) r
    ∙ ap Ok (sym (rw z at a))

pub recovery_is_exact : RecoveryIsExact
recovery_is_exact img file tail ts n e a b l =
    let o = recover_opens img file tail ts n (ring_there 8192 (length img) file a b) in
    (λ h. found img file tail ts n e (sym o ∙ h), λ r. o ∙ there img file tail ts n e r.places l r.many r.first r.trail r.answer)

-- ---- uniqueness

-- one header has one backlink
same_backlink : {x : Result V2ElementHeader Refusal} {h k : V2ElementHeader} → x ≡ Ok h → x ≡ Ok k → h.prev_pos ≡ k.prev_pos
same_backlink a b = cc

one-trail : (img : List ℕ) (file p t : ℕ) (a b : List ℕ) → length a ≡ length b →
    Trail img file (p ∷ a) t → Trail img file (p ∷ b) t → a ≡ b
one-trail img file p t [] [] l u v = refl
one-trail img file p t (x ∷ a) [] l u v = absurd (omega arith)
one-trail img file p t [] (y ∷ b) l u v = absurd (omega arith)
one-trail img file p t (x ∷ a) (y ∷ b) l u v =
    let i : (u.header 0).prev_pos ≡ 8192 + x = u.linked 0 (omega arith) in
    let j : (v.header 0).prev_pos ≡ 8192 + y = v.linked 0 (omega arith) in
    let k : (u.header 0).prev_pos ≡ (v.header 0).prev_pos = same_backlink (u.valid 0 (omega arith)) (v.valid 0 (omega arith)) in
    let q : x ≡ y = omega arith in
    let w : Trail img file (x ∷ b) (t - 1) = rw (sym q) at (rest_of img file p y t b v) in
    cc (q, one-trail img file x (t - 1) a b (omega arith) (rest_of img file p x t a u) w)

pub trail_is_unique : TrailIsUnique
trail_is_unique img file t [] [] l f u v = refl
trail_is_unique img file t (x ∷ a) [] l f u v = absurd (omega arith)
trail_is_unique img file t [] (y ∷ b) l f u v = absurd (omega arith)
trail_is_unique img file t (x ∷ a) (y ∷ b) l f u v =
    let q : x ≡ y = f in
    let w : Trail img file (x ∷ b) t = rw (sym q) at v in
    cc (q, one-trail img file x t a b (omega arith) u w)
