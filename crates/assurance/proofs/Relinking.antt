-- What growth does to the elements of a chain, step by step: the ring's start read on behind its end, and every header with its backlink
-- anew, one after the other. Assumes nothing.
use mathlib.Core.Path.{◌≡◌, refl, sym, ap, ◌∙◌, subst}
use mathlib.Core.Bool.{Bool, true, false, not, cond, and-eq-true_iff, and-false}
use mathlib.Core.List.{List, [], ◌∷◌}
use Prim.Native.Nat.{ℕ, suc, ◌+◌, ◌-◌, ◌%◌, ◌^◌, ◌≤◌, ◌<◌}
use native.Mathlib.Nat.{mod-eq_of_lt, mod-add-mod}
use native.Mathlib.Decide.{dec_lt}
use native.Mathlib.Omega.{arith}
use lib.ListN.{length}
use lib.Dec.{ltb, eqb}
use borrow.Author.Tests.{ltb-true, lt-ltb, le-ltb, ne_eqb}
use Rattle.ring.specs.Ring.{ring_read, ring_write, relocated}
use Rattle.ring.proofs.Places.{turn_high}
use Rattle.ring.proofs.Reading.{read_ext}
use Rattle.ring.proofs.Writing.{read_write, write_mod}
use Rattle.ring.proofs.Relocating.{read_relocated}
use Rattle.format.specs.Element.{stored_header, header_bytes, parse_header, check_footer}
use Rattle.format.specs.declared.element.V2ElementHeader.{V2ElementHeader}
use Rattle.format.proofs.ElementLaws.{length_stored_header, header_stored, header_parse_encode}
use Rattle.queue.specs.Element.{capacity}
use Rattle.queue.specs.declared.state.QueueFile.{QueueFile}
use Rattle.writing.specs.Growth.{end_of_last}
use Rattle.writing.specs.Expansion.{names_moved, relinked_header, relink_step, relink_from}
use Rattle.writing.proofs.Choices.{either}
use Rattle.writing.proofs.RelinkLaws.{length-relinked}
use Rattle.assurance.specs.Growth.{moves, grown_link}
use Rattle.assurance.proofs.Chain.{Elem, header_of, span, total, last_of, last_from, Rising, Backs, header_in, header_there, header_known, Holds, Chain, Agree, holds_frame, chain_frame, agree_behind, agree_ahead}
use Rattle.std.specs.Prelude.{Result, Ok}
use Rattle.refusal.specs.declared.Refusal.{Refusal}

-- ---- the elements, once they are told of in the longer file

abbrev pub grown_elem : QueueFile → ℕ → Elem → Elem
grown_elem q n e = record { seq = e.seq; back = grown_link q n e.back; payload = e.payload }

abbrev pub grown_elems : QueueFile → ℕ → List Elem → List Elem
grown_elems q n [] = []
grown_elems q n (e ∷ es) = grown_elem q n e ∷ grown_elems q n es

-- all but the backlinks is as it was
module _ (q : QueueFile) (n : ℕ) where
  pub grown-length : (es : List Elem) → length (grown_elems q n es) ≡ length es
  grown-length [] = refl
  grown-length (e ∷ es) = ap suc (grown-length es)

  pub grown-total : (es : List Elem) → total (grown_elems q n es) ≡ total es
  grown-total [] = refl
  grown-total (e ∷ es) = ap (λ (x : ℕ). span e + x) (grown-total es)

  pub grown_rising : (e : Elem) (es : List Elem) → Rising e es → Rising (grown_elem q n e) (grown_elems q n es)
  grown_rising e [] r = tt
  grown_rising e (f ∷ es) r = (r.0, grown_rising f es r.1)

  pub grown-last : (e : Elem) (es : List Elem) → last_of (grown_elem q n e) (grown_elems q n es) ≡ grown_elem q n (last_of e es)
  grown-last e [] = refl
  grown-last e (f ∷ es) = grown-last f es

  pub grown-from : (p : ℕ) (e : Elem) (es : List Elem) → last_from p (grown_elem q n e) (grown_elems q n es) ≡ last_from p e es
  grown-from p e [] = refl
  grown-from p e (f ∷ es) = grown-from (p + span e) f es

  -- and they too, where nothing moves
  pub grown_same : (es : List Elem) → moves q n ≡ false → grown_elems q n es ≡ es
  grown_same [] m = refl
  grown_same (e ∷ es) m =
      let one : grown_elem q n e ≡ e = rw m in
      rw (one, grown_same es m)

-- all sequences are below 2^64
abbrev Small : List Elem → Type 0
Small [] = Unit {0}
Small (e ∷ es) = (e.seq < 2 ^ 64) × Small es

pub rising_small : (e : Elem) (es : List Elem) → Rising e es → e.seq + suc (length es) < 2 ^ 63 → Small (e ∷ es)
rising_small e [] r h = (omega arith, tt)
rising_small e (f ∷ es) r h = (omega arith, rising_small f es r.1 (omega (arith, r.0)))

-- ---- reads in a longer ring

-- where nothing wraps, it reads the same
pub agree_straight : (img : List ℕ) (size new p n : ℕ) → size ≤ new → p + n ≤ size → Agree img size img new p n
agree_straight img size new p n h l q k a b =
    read_ext 8192 new 8192 size img img q q k
    (λ i j. rw (mod-eq_of_lt {n = q + i} {m = new} (omega arith), mod-eq_of_lt {n = q + i} {m = size} (omega arith)))

-- where the ring's start is copied behind its end, it reads on over it
pub agree_moved : (img : List ℕ) (size c new p n : ℕ) → c ≤ size → size + c ≤ new → 8192 + size + c ≤ length img → p + n ≤ size + c
    → Agree img size (relocated 8192 img (8192 + size) c) new p n
agree_moved img size c new p n h k f l q m a b = read_relocated 8192 size img c new q m h k f (omega arith)

-- ---- backlinks

-- where nothing wraps they are right in a longer ring too
pub straight_backs : (size new p : ℕ) (e : Elem) (es : List Elem) → p + total (e ∷ es) ≤ size → size ≤ new → Backs size p e es → Backs new p e es
straight_backs size new p e [] b l k = tt
straight_backs size new p e (f ∷ es) b l k = (
  k.0 ∙ rw (mod-eq_of_lt {n = p} {m = size} (omega arith), mod-eq_of_lt {n = p} {m = new} (omega arith)),
  straight_backs size new (p + span e) f es (omega arith) l k.1,
)

module _ (q : QueueFile) (n : ℕ) (m : moves q n ≡ true) where
  abbrev old : ℕ
  old = q.file_len

  abbrev size : ℕ
  size = capacity old

  abbrev new : ℕ
  new = capacity n

  abbrev end : ℕ
  end = end_of_last q

  -- where elements move, one is moved if its name tells so
  link_moves : (back : ℕ) → grown_link q n back ≡ cond (names_moved end back) (back + size) back
  link_moves back = rw m

  -- the backlink to an element at the unrolled place p is moved to p itself
  place-moves : (p : ℕ) → end ≤ p → p < size + end → end ≤ size → size + end ≤ new → grown_link q n (8192 + p % size) ≡ 8192 + p % new
  place-moves p a b h l = link_moves (8192 + p % size) ∙ go (dec_lt p size)
    where
      go : Dec (p < size) → cond (names_moved end (8192 + p % size)) (8192 + p % size + size) (8192 + p % size) ≡ 8192 + p % new
      go (yes y) =
          rw (
            mod-eq_of_lt {n = p} {m = size} y,
            mod-eq_of_lt {n = p} {m = new} (omega arith),
            le-ltb (8192 + p) (8192 + end) (omega arith),
            and-false,
          )
      go (no x) =
          rw (
            turn_high size p (omega (arith, x)) (omega arith),
            mod-eq_of_lt {n = p} {m = new} (omega arith),
            ne_eqb (8192 + (p - size)) 0 (λ z. omega arith),
            lt-ltb (8192 + (p - size)) (8192 + end) (omega (arith, x)),
          )
          (omega (arith, x))

  pub backs_move : (p : ℕ) (e : Elem) (es : List Elem) → end ≤ p → p + total (e ∷ es) ≤ size + end → end ≤ size → size + end ≤ new
      → Backs size p e es → Backs new p (grown_elem q n e) (grown_elems q n es)
  backs_move p e [] a b h l k = tt
  backs_move p e (f ∷ es) a b h l k = (
    ap (grown_link q n) k.0 ∙ place-moves p a (omega arith) h l,
    backs_move (p + span e) f es (omega arith) (omega arith) h l k.1,
  )

  -- ---- one header anew, in the longer ring

  abbrev anew : V2ElementHeader → List ℕ
  anew h = stored_header h.seq (h.prev_pos + size) h.payload_len

  abbrev one : List ℕ → ℕ → V2ElementHeader → List ℕ
  one img p h = relinked_header n old end img p h

  -- what lies behind it or before it is as it was
  one-behind : (img : List ℕ) (p : ℕ) (h : V2ElementHeader) (r k : ℕ) → p + 28 ≤ r → r + k ≤ p + new → Agree img new (one img p h) new r k
  unfolding relinked_header
  one-behind img p h r k a b =
      either (λ (i : List ℕ). Agree img new i new r k) (names_moved end h.prev_pos) _ _
      (λ _. agree_behind img new p (anew h) r k (omega (arith, length_stored_header h.seq (h.prev_pos + size) h.payload_len, a)) b)
      (λ s j x y. refl)

  one_ahead : (img : List ℕ) (p : ℕ) (h : V2ElementHeader) (r k : ℕ) → r + k ≤ p → p + 28 ≤ r + new → Agree img new (one img p h) new r k
  unfolding relinked_header
  one_ahead img p h r k a b =
      either (λ (i : List ℕ). Agree img new i new r k) (names_moved end h.prev_pos) _ _
      (λ _. agree_ahead img new p (anew h) r k a (omega (arith, length_stored_header h.seq (h.prev_pos + size) h.payload_len, b)))
      (λ s j x y. refl)

  -- a step of the walk goes from one unrolled place to the next
  one_mod : (img : List ℕ) (p : ℕ) (h : V2ElementHeader) → one img (p % new) h ≡ one img p h
  unfolding relinked_header
  one_mod img p h = ap (λ (i : List ℕ). cond (names_moved end h.prev_pos) i img) (write_mod 8192 new img p (anew h))

  walk_step_lem : (k : ℕ) (img : List ℕ) (p : ℕ) (e : Elem) → Holds img new p e
      → relink_from n old end (suc k) img (p % new) ≡ relink_from n old end k (one img p (header_of e)) ((p + span e) % new)
  unfolding relink_from
  walk_step_lem k img p e h =
      ap (λ (d : Result V2ElementHeader Refusal). relink_step n old end img (p % new) d (relink_from n old end k))
      (header_there img n p (p % new) e refl h)
      ∙ rw (one_mod img p (header_of e), mod-add-mod p new (span e))

  walk_none : (img : List ℕ) (p : ℕ) → relink_from n old end 0 img p ≡ img
  unfolding relink_from
  walk_none img p = refl

  -- the rest of a chain is as it was once the first header is anew
  rest_holds : (img : List ℕ) (p : ℕ) (e : Elem) (es : List Elem) → p + total (e ∷ es) ≤ new → Chain img new (p + span e) es
      → Chain (one img p (header_of e)) new (p + span e) es
  rest_holds img p e es h c =
      chain_frame es img (one img p (header_of e)) new new (p + span e) (omega arith)
      (one-behind img p (header_of e) (p + span e) (total es) (omega arith) (omega arith)) c

  -- and so is all that lies before a chain once all of it is
  walk_before : (es : List Elem) (img : List ℕ) (p : ℕ) → p + total es ≤ new → Chain img new p es
      → Agree img new (relink_from n old end (length es) img (p % new)) new 0 p
  walk_before [] img p h c r k a b = ap (λ (i : List ℕ). ring_read 8192 new i r k) (walk_none img (p % new))
  walk_before (e ∷ es) img p h c r k a b =
      ap (λ (i : List ℕ). ring_read 8192 new i r k) (walk_step_lem (length es) img p e c.0)
      ∙ walk_before es (one img p (header_of e)) (p + span e) (omega arith) (rest_holds img p e es h c.1) r k a (omega arith)
      ∙ one_ahead img p (header_of e) 0 p (omega arith) (omega arith) r k a b

  names_low : (back : ℕ) → names_moved end back ≡ true → back < 8192 + end
  names_low back t = ltb-true back (8192 + end) ((and-eq-true_iff (not (eqb back 0)) (ltb back (8192 + end))).0 t).1

  -- there is room for the backlinks that are moved
  module _ (roomy : 8192 + end + size < 2 ^ 64) where
    anew-holds : (img : List ℕ) (p : ℕ) (e : Elem) → 8192 + new ≤ length img → e.seq < 2 ^ 64 → Holds img new p e → e.back < 8192 + end
        → header_in new (ring_write 8192 new img p (anew (header_of e))) p
        ≡ Ok (record { payload_len = length e.payload; seq = e.seq; prev_pos = e.back + size })
    unfolding header_in
    anew-holds img p e l s h b =
        let k = header_known img new p (header_of e) h.header in
        let g = header_stored e.seq (e.back + size) (length e.payload) k.small in
        rw (g)
        (ap (λ (s : List ℕ). parse_header s new)
        (read_write 8192 new img p (header_bytes e.seq (e.back + size) (length e.payload)) l (omega (arith, k.fits)))
        ∙ header_parse_encode e.seq (e.back + size) (length e.payload) new k.positive s (omega arith) k.small k.fits)

    one_by : (b : Bool) (img : List ℕ) (p : ℕ) (e : Elem) → 8192 + new ≤ length img → e.seq < 2 ^ 64 → span e ≤ new → Holds img new p e
        → names_moved end e.back ≡ b
        → Holds (cond b (ring_write 8192 new img p (anew (header_of e))) img) new p
        (record { seq = e.seq; back = cond b (e.back + size) e.back; payload = e.payload })
    one_by true img p e l s f h t =
        let a : Agree img new (ring_write 8192 new img p (anew (header_of e))) new (p + 28) (length e.payload + 16) =
        agree_behind img new p (anew (header_of e)) (p + 28) (length e.payload + 16)
        (omega (arith, length_stored_header e.seq (e.back + size) (length e.payload))) (omega (arith, f)) in
        record {
          header = anew-holds img p e l s h (names_low e.back t);
          payload = a (p + 28) (length e.payload) (omega arith) (omega arith) ∙ h.payload;
          footer =
              ap (λ (s : List ℕ). check_footer s e.seq e.payload) (a (p + 28 + length e.payload) 16 (omega arith) (omega arith)) ∙ h.footer;
        }
    one_by false img p e l s f h t = record { header = h.header; payload = h.payload; footer = h.footer }

    one_holds : (img : List ℕ) (p : ℕ) (e : Elem) → 8192 + new ≤ length img → e.seq < 2 ^ 64 → span e ≤ new → Holds img new p e
        → Holds (one img p (header_of e)) new p (grown_elem q n e)
    unfolding relinked_header
    one_holds img p e l s f h = rw (m) (one_by (names_moved end e.back) img p e l s f h refl)

    -- ---- all of them

    pub walk_chain : (es : List Elem) (img : List ℕ) (p : ℕ) → p + total es ≤ new → 8192 + new ≤ length img → Small es → Chain img new p es
        → Chain (relink_from n old end (length es) img (p % new)) new p (grown_elems q n es)
    walk_chain [] img p h l s c = tt
    walk_chain (e ∷ es) img p h l s c =
        let i : List ℕ = one img p (header_of e) in
        let rest : Chain i new (p + span e) es = rest_holds img p e es h c.1 in
        subst (λ (j : List ℕ). Chain j new p (grown_elems q n (e ∷ es))) (sym (walk_step_lem (length es) img p e c.0)) (
          holds_frame i (relink_from n old end (length es) i ((p + span e) % new)) new new p (grown_elem q n e) (omega arith)
              (λ r k a b. walk_before es i (p + span e) (omega arith) rest r k (omega arith) (omega (arith, b)))
              (one_holds img p e l s.0 (omega arith) c.0),
          walk_chain es i (p + span e) (omega arith) (omega (arith, length-relinked n old end img p (header_of e), l)) s.1 rest,
        )
