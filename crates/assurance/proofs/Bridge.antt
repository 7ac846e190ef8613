-- Linked, in the paper's words and unrolled: each gives the other, and the list that the paper's words read from the image is the list
-- that is unrolled. Assumes nothing.
use Rattle.refusal.proofs.Laws.{same_ok}
use mathlib.Core.Path.{◌≡◌, refl, sym, ap, ◌∙◌}
use mathlib.Core.List.{List, [], ◌∷◌}
use Prim.Native.Nat.{ℕ, suc, ◌+◌, ◌-◌, ◌%◌, ◌<◌}
use native.Mathlib.Nat.{mod-eq_of_lt, mod-add-mod}
use native.Mathlib.Omega.{arith}
use lib.ListN.{length}
use Rattle.format.specs.declared.element.V2ElementHeader.{V2ElementHeader}
use Rattle.queue.specs.Element.{capacity}
use Rattle.queue.specs.Strict.{trail_from}
use Rattle.queue.specs.declared.state.QueueFile.{QueueFile}
use Rattle.queue.proofs.Sound.{sound_lengths_lem, sound_numbers_lem, sound-ends}
use Rattle.assurance.specs.Held.{Held, held_step, held_from, elements_of}
use Rattle.assurance.specs.Linked.{Linked}
use Rattle.assurance.proofs.Chain.{Elem, header_of, span, Chain, last_of, last_from, header_in_lem, header_known, header_there, last-holds}
use Rattle.assurance.proofs.Laid.{Laid, header-first, header-last, laid_sound}
use Rattle.assurance.proofs.TrailWalk.{payload_there, Found, trail_found, chain_trail}
use Rattle.std.specs.Prelude.{Result}
use Rattle.refusal.specs.declared.Refusal.{Refusal}

-- ---- from the words

pub record Unrolled (img : List ℕ) (q : QueueFile) : Type 0 where
  pub e : Elem
  pub es : List Elem
  pub laid : Laid img q e es

module _ (img : List ℕ) (q : QueueFile) (w : Linked img q) where
  abbrev size : ℕ
  size = capacity q.file_len

  abbrev first : ℕ
  first = q.first.pos

  some : q.elem_cnt ≡ 0 → ⊥
  some z = omega (arith, w.some)

  first_low : first < size
  first_low = (sound-ends q (length img) w.sound some).first-place

  found : Found (q.elem_cnt - 1) img q.file_len q.last.pos (q.format.next_seq - q.elem_cnt) w.first_back 0 first
  found =
      let n : suc (q.elem_cnt - 1) ≡ q.elem_cnt = omega (arith, w.some) in
      trail_found (q.elem_cnt - 1) img q.file_len q.last.pos (q.format.next_seq - q.elem_cnt) w.first_back 0 first
      (rw (n, mod-eq_of_lt {n = first} {m = size} first_low) w.trail)

  unrolled_laid : Laid img q found.e found.es
  unrolled_laid =
      let f = found in
      let ends = sound-ends q (length img) w.sound some in
      let a = same_ok _ _ (sym w.first ∙ header_in_lem img q.file_len first ∙ f.holds.0.header) in
      let t = last-holds f.es img size first f.e f.holds in
      let b =
      same_ok _ _
      (sym w.last ∙ header_there img q.file_len (last_from first f.e f.es) q.last.pos (last_of f.e f.es) (sym f.ends) t) in
      let positive : 0 < f.e.seq = (header_known img size first (header_of f.e) f.holds.0.header).positive in
      record {
        lengths = sound_lengths_lem q (length img) w.sound;
        numbers = sound_numbers_lem q (length img) w.sound;
        first_low = first_low;
        last_low = ends.last-place;
        count = omega (arith, f.many, w.some);
        holds = f.holds;
        fits = omega (arith, f.fits);
        rising = f.rising;
        backs = f.backs;
        seqs = omega (arith, f.starts, f.many, w.some, positive);
        first_len = ap (λ (x : V2ElementHeader). x.payload_len) a;
        first-seq = ap (λ (x : V2ElementHeader). x.seq) a;
        last-place = sym f.ends;
        last_len = ap (λ (x : V2ElementHeader). x.payload_len) b;
        last-seq = ap (λ (x : V2ElementHeader). x.seq) b;
      }

  pub linked_laid : Unrolled img q
  linked_laid = record { e = found.e; es = found.es; laid = unrolled_laid }

-- ---- to the words

module _ (img : List ℕ) (q : QueueFile) (e : Elem) (es : List Elem) (k : Laid img q e es) where
  pub laid_linked : Linked img q
  laid_linked =
      let size : ℕ = capacity q.file_len in
      let first : ℕ = q.first.pos in
      record {
        sound = laid_sound img q e es k;
        some = omega (arith, k.count);
        first_back = e.back;
        first = rw (k.first_len, k.first-seq) (header-first img q e es k);
        last-back = (last_of e es).back;
        last = rw (k.last_len, k.last-seq) (header-last img q e es k);
        trail =
            let s : e.seq ≡ q.format.next_seq - q.elem_cnt = omega (arith, k.seqs, k.count) in
            ap (λ (n : ℕ). trail_from img q.file_len q.last.pos n first (q.format.next_seq - q.elem_cnt) e.back 0) k.count
            ∙ ap (λ (p : ℕ). trail_from img q.file_len q.last.pos (suc (length es)) p (q.format.next_seq - q.elem_cnt) e.back 0)
            (sym (mod-eq_of_lt {n = first} {m = size} k.first_low))
            ∙ chain_trail es img q.file_len q.last.pos (q.format.next_seq - q.elem_cnt) e.back 0 first e k.holds k.rising
            k.backs s refl (omega (arith, k.fits)) (sym k.last-place);
      }

-- ---- the list

abbrev pub held_at : ℕ → ℕ → Elem → Held
held_at size p e = record { place = p % size; seq = e.seq; back = e.back; payload = e.payload }

abbrev pub held_all : ℕ → ℕ → List Elem → List Held
held_all size p [] = []
held_all size p (e ∷ es) = held_at size p e ∷ held_all size (p + span e) es

chain_held : (es : List Elem) (img : List ℕ) (file p : ℕ) → Chain img (capacity file) p es
    → held_from img file (length es) (p % capacity file) ≡ held_all (capacity file) p es
unfolding held_from
chain_held [] img file p c = refl
chain_held (e ∷ es) img file p c =
    let size : ℕ = capacity file in
    ap (λ (d : Result V2ElementHeader Refusal). held_step img file (p % size) d (held_from img file (length es))) (header_there img file p (p % size) e refl c.0)
    ∙ rw (payload_there img file p (p % size) e refl c.0, mod-add-mod p size (span e), chain_held es img file (p + span e) c.1)

pub laid_elements : (img : List ℕ) (q : QueueFile) (e : Elem) (es : List Elem) → Laid img q e es
    → elements_of q img ≡ held_all (capacity q.file_len) q.first.pos (e ∷ es)
unfolding elements_of
laid_elements img q e es k =
    let size : ℕ = capacity q.file_len in
    ap (λ (n : ℕ). held_from img q.file_len n q.first.pos) k.count
    ∙ ap (held_from img q.file_len (suc (length es))) (sym (mod-eq_of_lt {n = q.first.pos} {m = size} k.first_low))
    ∙ chain_held (e ∷ es) img q.file_len q.first.pos k.holds

pub empty_elements : (img : List ℕ) (q : QueueFile) → q.elem_cnt ≡ 0 → elements_of q img ≡ []
unfolding elements_of held_from
empty_elements img q z = ap (λ (n : ℕ). held_from img q.file_len n q.first.pos) z
