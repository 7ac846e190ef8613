-- Recovery from last goes back over every element of a queue and finds first: its trail is the queue's list of places, the last one's
-- first. Assumes nothing.
use mathlib.Core.Path.{◌≡◌, refl, sym, ap, ◌∙◌, subst}
use mathlib.Core.Bool.{Bool, cond}
use mathlib.Core.List.{List, [], ◌∷◌, ◌++◌}
use Prim.Native.Nat.{ℕ, suc, ◌+◌, ◌-◌, ◌%◌, ◌<◌, ◌≤◌}
use native.Mathlib.Nat.{mod-eq_of_lt}
use native.Mathlib.Decide.{dec_lt}
use native.Mathlib.Omega.{arith}
use lib.ListN.{length, get_or, length-append, get_or-append}
use lib.Seq.{get_or-append_seam}
use lib.Dec.{ltb}
use borrow.Author.Tests.{lt-ltb, le-ltb}
use Rattle.format.specs.declared.element.V2ElementHeader.{V2ElementHeader}
use Rattle.queue.specs.Element.{capacity, header_at}
use Rattle.queue.specs.Recover.{recover_head}
use Rattle.queue.specs.declared.state.QueueFile.{QueueFile}
use Rattle.assurance.specs.Held.{elements_of, places_back}
use Rattle.assurance.specs.Recovery.{Trail}
use Rattle.assurance.proofs.Chain.{Elem, header_of, span, Chain, Rising, Backs, last_of, last_from, header_there, rising_last}
use Rattle.assurance.proofs.Laid.{Laid}
use Rattle.assurance.proofs.Recovery.{recovery_is_exact}
use Rattle.assurance.proofs.Bridge.{held_all, laid_elements}
use Rattle.std.specs.Prelude.{Ok}

-- ---- a trail, and one place more behind its last

module _ (img : List ℕ) (file : ℕ) (ps : List ℕ) (tail_seq p : ℕ) (h : V2ElementHeader) (t : Trail img file ps tail_seq) (m : ℕ)
    (many : length ps ≡ suc m) (link : (t.header m).prev_pos ≡ 8192 + p) (valid : header_at img file p ≡ Ok h)
    (falls : h.seq + suc m ≡ tail_seq) where
  abbrev headers : ℕ → V2ElementHeader
  headers i = cond (ltb i (length ps)) (t.header i) h

  before : (i : ℕ) → i < length ps → headers i ≡ t.header i
  before i l = ap (λ (b : Bool). cond b (t.header i) h) (lt-ltb i (length ps) l)

  behind : (i : ℕ) → length ps ≤ i → headers i ≡ h
  behind i l = ap (λ (b : Bool). cond b (t.header i) h) (le-ltb i (length ps) l)

  place-before : (i : ℕ) → i < length ps → get_or (ps ++ (p ∷ [])) i 0 ≡ get_or ps i 0
  place-before i l = get_or-append ps (p ∷ []) 0 i l

  place-behind : (i : ℕ) → i ≡ length ps → get_or (ps ++ (p ∷ [])) i 0 ≡ p
  place-behind i e = ap (λ (j : ℕ). get_or (ps ++ (p ∷ [])) j 0) e ∙ get_or-append_seam ps p [] 0

  longer : length (ps ++ (p ∷ [])) ≡ suc (length ps)
  longer = length-append ps (p ∷ []) ∙ omega arith

  valid_all : (i : ℕ) → i < length (ps ++ (p ∷ [])) → header_at img file (get_or (ps ++ (p ∷ [])) i 0) ≡ Ok (headers i)
  valid_all i l = go (dec_lt i (length ps))
    where
      go : Dec (i < length ps) → header_at img file (get_or (ps ++ (p ∷ [])) i 0) ≡ Ok (headers i)
      go (yes y) = rw (place-before i y, before i y) (t.valid i y)
      go (no x) = rw (place-behind i (omega (arith, x, l, longer)), behind i (omega (arith, x))) valid

  falls_all : (i : ℕ) → i < length (ps ++ (p ∷ [])) → (headers i).seq + i ≡ tail_seq
  falls_all i l = go (dec_lt i (length ps))
    where
      go : Dec (i < length ps) → (headers i).seq + i ≡ tail_seq
      go (yes y) = rw (before i y) (t.falls i y)
      go (no x) =
          let z : i ≡ suc m = omega (arith, x, l, longer, many) in
          ap (λ (y : V2ElementHeader). y.seq + i) (behind i (omega (arith, x))) ∙ ap (λ (j : ℕ). h.seq + j) z ∙ falls

  linked_all : (i : ℕ) → suc i < length (ps ++ (p ∷ [])) → (headers i).prev_pos ≡ 8192 + get_or (ps ++ (p ∷ [])) (suc i) 0
  linked_all i l = go (dec_lt (suc i) (length ps))
    where
      go : Dec (suc i < length ps) → (headers i).prev_pos ≡ 8192 + get_or (ps ++ (p ∷ [])) (suc i) 0
      go (yes y) = rw (before i (omega arith), place-before (suc i) y) (t.linked i y)
      go (no x) =
          let z : i ≡ m = omega (arith, x, l, longer, many) in
          rw (before i (omega (arith, l, longer)), place-behind (suc i) (omega (arith, x, l, longer)), z) link

  trail_more : Trail img file (ps ++ (p ∷ [])) tail_seq
  trail_more = record { header = headers; valid = valid_all; falls = falls_all; linked = linked_all }

  more_last : trail_more.header (suc m) ≡ h
  unfolding trail_more
  more_last = behind (suc m) (omega (arith, many))

-- ---- the trail of a chain

-- the trail of e and es, e at p: as many places as elements, from the last one's to that of e, whose header ends it
record BackOver (img : List ℕ) (file p : ℕ) (e : Elem) (es : List Elem) (places : List ℕ) : Type 0 where
  pub trail : Trail img file places (last_of e es).seq
  pub many : length places ≡ suc (length es)
  pub tail : get_or places 0 0 ≡ last_from p e es % capacity file
  pub head : get_or places (length es) 0 ≡ p % capacity file
  pub header : trail.header (length es) ≡ header_of e

only : (i : ℕ) → i < 1 → i ≡ 0
only i l = omega arith

back_over : (es : List Elem) (img : List ℕ) (file p : ℕ) (e : Elem) → Chain img (capacity file) p (e ∷ es) → Rising e es
    → Backs (capacity file) p e es → BackOver img file p e es (places_back (held_all (capacity file) p (e ∷ es)))
back_over [] img file p e c r b = record {
  trail = record {
    header = λ i. header_of e;
    valid = λ i l. rw (only i l) (header_there img file p (p % capacity file) e refl c.0);
    falls = λ i l. rw (only i l) (omega arith);
    linked = λ i l. absurd (omega arith);
  };
  many = refl;
  tail = refl;
  head = refl;
  header = refl;
}
back_over (f ∷ es) img file p e c r b =
    let size : ℕ = capacity file in
    let k = back_over es img file (p + span e) f c.1 r.1 b.1 in
    let ps : List ℕ = places_back (held_all size (p + span e) (f ∷ es)) in
    let link : (k.trail.header (length es)).prev_pos ≡ 8192 + p % size =
    ap (λ (h : V2ElementHeader). h.prev_pos) k.header ∙ b.0 in
    let falls : e.seq + suc (length es) ≡ (last_of f es).seq = omega (arith, rising_last f es r.1, r.0) in
    let valid = header_there img file p (p % capacity file) e refl c.0 in
    record {
      trail = trail_more img file ps (last_of f es).seq (p % size) (header_of e) k.trail (length es) k.many link valid falls;
      many = length-append ps (p % size ∷ []) ∙ omega (arith, k.many);
      tail = get_or-append ps (p % size ∷ []) 0 0 (omega (arith, k.many)) ∙ k.tail;
      head = ap (λ (j : ℕ). get_or (ps ++ (p % size ∷ [])) j 0) (sym k.many) ∙ get_or-append_seam ps (p % size) [] 0;
      header = more_last img file ps (last_of f es).seq (p % size) (header_of e) k.trail (length es) k.many link valid falls;
    }

-- ---- of a queue

module _ (img : List ℕ) (q : QueueFile) (e : Elem) (es : List Elem) (k : Laid img q e es) where
  over : BackOver img q.file_len q.first.pos e es (places_back (elements_of q img))
  over =
      rw (laid_elements img q e es k)
      (back_over es img q.file_len q.first.pos e k.holds k.rising k.backs)

  pub laid_trail : Trail img q.file_len (places_back (elements_of q img)) q.last.seq
  laid_trail = subst (λ (s : ℕ). Trail img q.file_len (places_back (elements_of q img)) s) (sym k.last-seq) over.trail

  pub laid_recovers : recover_head img q.file_len q.last.pos q.last.seq q.elem_cnt ≡ Ok q.first
  laid_recovers =
      let o = over in
      ap (λ (s : ℕ). recover_head img q.file_len q.last.pos s q.elem_cnt) k.last-seq
      ∙ ap (λ (n : ℕ). recover_head img q.file_len q.last.pos (last_of e es).seq n) k.count
      ∙ (recovery_is_exact img q.file_len q.last.pos (last_of e es).seq (suc (length es)) q.first
      (omega (arith, k.first_low)) (omega (arith, k.lengths.real, k.lengths.inside)) (omega arith)).1
      (record {
        places = places_back (elements_of q img);
        many = o.many;
        first = o.tail ∙ sym k.last-place;
        trail = o.trail;
        answer =
            let n : suc (length es) - 1 ≡ length es = omega arith in
            rw (n, o.head, o.header, mod-eq_of_lt {n = q.first.pos} {m = capacity q.file_len} k.first_low, ← k.first_len, ← k.first-seq);
      })
