-- The list of what a grown queue holds is the list before with places and backlinks moved: an element on the straight line at p stands at
-- p mod the old capacity before, and at p itself then; only those at the old capacity and past it stood before first. Assumes nothing.
use mathlib.Core.Path.{◌≡◌, refl, sym, ap, ◌∙◌}
use mathlib.Core.Bool.{Bool, true, false, cond}
use mathlib.Core.List.{List, [], ◌∷◌}
use Prim.Native.Nat.{ℕ, ◌+◌, ◌-◌, ◌%◌, ◌≤◌, ◌<◌}
use native.Mathlib.Nat.{mod-eq_of_lt}
use native.Mathlib.Decide.{dec_lt}
use native.Mathlib.Omega.{arith}
use lib.ListN.{length}
use lib.Dec.{ltb}
use borrow.Author.Tests.{lt-ltb, le-ltb, ltb-true, ltb-false}
use Rattle.ring.proofs.Places.{turn_high}
use Rattle.queue.specs.Element.{capacity}
use Rattle.queue.specs.declared.state.QueueFile.{QueueFile}
use Rattle.writing.specs.Growth.{end_of_last, wrapped}
use Rattle.writing.specs.Expansion.{Expands}
use Rattle.writing.proofs.StateLaws.{wrapped-end}
use Rattle.assurance.specs.Held.{Held, sequences_of, payloads_of}
use Rattle.assurance.specs.Growth.{moves, grown_place, grown_element, grown_elements}
use Rattle.assurance.proofs.Chain.{Elem, span, total}
use Rattle.assurance.proofs.Laid.{Laid, end_wraps, end-straight}
use Rattle.assurance.proofs.Bridge.{held_at, held_all}
use Rattle.assurance.proofs.Relinking.{grown_elem, grown_elems, grown_same}
use Rattle.assurance.proofs.GrownLaid.{not_wrapped}

-- ---- what stays

pub held_sequences : (q : QueueFile) (n : ℕ) (hs : List Held) → sequences_of (grown_elements q n hs) ≡ sequences_of hs
held_sequences q n [] = refl
held_sequences q n (h ∷ hs) = ap (λ (l : List ℕ). h.seq ∷ l) (held_sequences q n hs)

pub held_payloads : (q : QueueFile) (n : ℕ) (hs : List Held) → payloads_of (grown_elements q n hs) ≡ payloads_of hs
held_payloads q n [] = refl
held_payloads q n (h ∷ hs) = ap (λ (l : List (List ℕ)). h.payload ∷ l) (held_payloads q n hs)

-- all of it where nothing moves
held_still : (q : QueueFile) (n : ℕ) (hs : List Held) → moves q n ≡ false → grown_elements q n hs ≡ hs
held_still q n [] m = refl
held_still q n (h ∷ hs) m =
    let one : grown_element q n h ≡ h = rw (m) in
    rw (one, held_still q n hs m)

-- the places too, where nothing wraps
held_straight : (size new p : ℕ) (es : List Elem) → p + total es ≤ size → size ≤ new → held_all new p es ≡ held_all size p es
held_straight size new p [] h l = refl
held_straight size new p (e ∷ es) h l =
    rw (
      mod-eq_of_lt {n = p} {m = new} (omega arith),
      mod-eq_of_lt {n = p} {m = size} (omega arith),
      held_straight size new (p + span e) es (omega arith) l,
    )

-- ---- what moves

module _ (q : QueueFile) (n : ℕ) (m : moves q n ≡ true) where
  abbrev size : ℕ
  size = capacity q.file_len

  abbrev new : ℕ
  new = capacity n

  abbrev first : ℕ
  first = q.first.pos

  place-moved : (p end : ℕ) → first ≤ p → p < size + end → end ≤ first → first < size → size + end ≤ new → p % new ≡ grown_place q n (p % size)
  place-moved p end a b h f l = mod-eq_of_lt {n = p} {m = new} (omega arith) ∙ rw (m) (go (dec_lt p size))
    where
      go : Dec (p < size) → p ≡ cond (ltb (p % size) first) (p % size + size) (p % size)
      go (yes y) = rw (mod-eq_of_lt {n = p} {m = size} y, le-ltb p first a)
      go (no z) =
          rw (turn_high size p (omega (arith, z)) (omega arith), lt-ltb (p - size) first (omega (arith, z))) (omega (arith, z))

  held_moved : (end p : ℕ) (es : List Elem) → first ≤ p → p + total es ≤ size + end → end ≤ first → first < size → size + end ≤ new
      → held_all new p (grown_elems q n es) ≡ grown_elements q n (held_all size p es)
  held_moved end p [] a b h f l = refl
  held_moved end p (e ∷ es) a b h f l =
      let one : held_at new p (grown_elem q n e) ≡ grown_element q n (held_at size p e) =
      ap (λ (x : ℕ). let d : Held = record { place = x; seq = e.seq; back = (grown_elem q n e).back; payload = e.payload } in d)
      (place-moved p end a (omega arith) h f l) in
      rw (one, held_moved end (p + span e) es (omega arith) (omega arith) h f l)

-- ---- all cases

module _ (img : List ℕ) (q : QueueFile) (e : Elem) (es : List Elem) (n : ℕ) (k : Laid img q e es)
    (least : q.file_len ≤ n) (x : q.file_len < n → Expands q (length img) n) where
  pub grown_held :
      held_all (capacity n) q.first.pos (grown_elems q n (e ∷ es)) ≡ grown_elements q n (held_all (capacity q.file_len) q.first.pos (e ∷ es))
  grown_held = go (ltb q.file_len n) (wrapped q) refl refl
    where
      stays : moves q n ≡ false → held_all (capacity n) q.first.pos (e ∷ es) ≡ held_all (capacity q.file_len) q.first.pos (e ∷ es)
          → held_all (capacity n) q.first.pos (grown_elems q n (e ∷ es))
          ≡ grown_elements q n (held_all (capacity q.file_len) q.first.pos (e ∷ es))
      stays m s = ap (held_all (capacity n) q.first.pos) (grown_same q n (e ∷ es) m) ∙ s ∙ sym (held_still q n _ m)

      go : (longer wraps : Bool) → ltb q.file_len n ≡ longer → wrapped q ≡ wraps
          → held_all (capacity n) q.first.pos (grown_elems q n (e ∷ es))
          ≡ grown_elements q n (held_all (capacity q.file_len) q.first.pos (e ∷ es))
      go false b l w =
          stays (rw (l)) (ap (λ (f : ℕ). held_all (capacity f) q.first.pos (e ∷ es)) (omega (arith, least, ltb-false q.file_len n l)))
      go true false l w =
          stays (rw (l, w))
          (held_straight (capacity q.file_len) (capacity n) q.first.pos (e ∷ es)
          (omega (arith, end-straight img q e es k (not_wrapped img q e es k w))) (omega (arith, least)))
      go true true l w =
          let o = wrapped-end q w in
          let t = (x (ltb-true q.file_len n l)).twice in
          held_moved q n (rw (l, w)) (end_of_last q) q.first.pos (e ∷ es) (omega arith) (omega (arith, end_wraps img q e es k o)) o k.first_low
          (omega (arith, o, k.first_low, k.lengths.start, t))
