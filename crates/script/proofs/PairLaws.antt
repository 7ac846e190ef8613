-- The pairs of bytes that `chunks_exact` takes off a word, and what they spell.
-- Assumes nothing.
use mathlib.Core.Path.{◌≡◌, refl, ap, subst, ◌∙◌}
use mathlib.Core.List.{List, [], ◌∷◌, ◌++◌}
use Prim.Native.Nat.{ℕ, zero, suc, ◌+◌, ◌*◌, ◌/◌, ◌<◌}
use native.Mathlib.Omega.{arith}
use native.Mathlib.Nat.{zero-add}
use Rattle.std.specs.List.{enumerate_from}
use Rattle.std.proofs.lemmas.List.FromFn.{length-enumerate_from, get_or-enumerate_from}
use denote.Ref.{Bor}
use lib.ListN.{length, get_or}
use Rattle.std.specs.Slice.Iter.{chunks_exact_rest, chunks_exact_size, chunks_exact_steps}
use Rattle.std.proofs.lemmas.Iterator.{YieldsList}
use Rattle.std.specs.Iterator.Adapters.{enumerate_source, enumerate_count, enumerate_steps}
use Rattle.std.proofs.lemmas.Iterator.Consumers.{YieldsList-from_enumerate}
use Rattle.std.proofs.lemmas.Iterator.Splits.{YieldsList-from_shown_while}

abbrev pub pairs : List ℕ → List (List ℕ)
pairs [] = []
pairs (a ∷ []) = []
pairs (a ∷ b ∷ s) = (a ∷ b ∷ []) ∷ pairs s

pub pairs-length : (s : List ℕ) → length (pairs s) ≡ length s / 2
pairs-length [] = refl
pairs-length (a ∷ []) = refl
pairs-length (a ∷ b ∷ s) = omega (arith, pairs-length s)

pub pairs-at : (s : List ℕ) (i : ℕ) (p : List ℕ) → 2 * i + 1 < length s → get_or (pairs s) i p ≡ get_or s (2 * i) 0 ∷ get_or s (2 * i + 1) 0 ∷ []
pairs-at [] i p h = absurd (omega arith)
pairs-at (a ∷ []) i p h = absurd (omega arith)
pairs-at (a ∷ b ∷ s) zero p h = refl
pairs-at (a ∷ b ∷ s) (suc i) p h =
    let e : 2 * suc i ≡ suc (suc (2 * i)) = omega arith in
    let f : 2 * suc i + 1 ≡ suc (suc (2 * i + 1)) = omega arith in
    pairs-at s i p (omega arith) ∙ rw (f, e)

next_pair : (x s : List ℕ) → length x ≡ 2 → pairs (x ++ s) ≡ x ∷ pairs s
next_pair [] s h = absurd (omega arith)
next_pair (a ∷ []) s h = absurd (omega arith)
next_pair (a ∷ b ∷ []) s h = refl
next_pair (a ∷ b ∷ c ∷ x) s h = absurd (omega arith)

pub YieldsList-from_pairs : {s : _} (word : List ℕ) → chunks_exact_rest (enumerate_source s) ≡ word → chunks_exact_size (enumerate_source s) ≡ 2 → enumerate_count s ≡ 0 → YieldsList (enumerate_steps (chunks_exact_steps {A = ℕ})) (λ (p : ℕ × Bor (List ℕ)). (p.0, p.1.now)) s (enumerate_from 0 (pairs word))
YieldsList-from_pairs {s = s} word e z n =
    subst (λ (w : List ℕ). YieldsList (enumerate_steps (chunks_exact_steps {A = ℕ})) (λ (p : ℕ × Bor (List ℕ)). (p.0, p.1.now)) s (enumerate_from 0 (pairs w))) e
    (YieldsList-from_enumerate
    (YieldsList-from_shown_while (chunks_exact_steps {A = ℕ}) (λ (x : Bor (List ℕ)). x.now) (λ s. pairs (chunks_exact_rest s)) (λ s. chunks_exact_size s ≡ 2)
    (λ s t p h. omega (arith, pairs-length (chunks_exact_rest s), p, h.1.0))
    (λ s x t p h. (h.0 ∙ p, ap pairs h.1.0 ∙ next_pair x.now (chunks_exact_rest t) (h.1.1 ∙ p))) (enumerate_source s) z)
    n)

-- what a turn is given: its number, and the pair of that number
pub pair_turn : (word : List ℕ) (k i : ℕ) (p : List ℕ) →
    (k < length (enumerate_from 0 (pairs word))) × (◌≡◌ {A = ℕ × List ℕ} (i, p) (get_or (enumerate_from 0 (pairs word)) k (i, p))) →
    (2 * k + 1 < length word) × (i ≡ k) × (p ≡ get_or word (2 * k) 0 ∷ get_or word (2 * k + 1) 0 ∷ [])
pair_turn word k i p h =
    let k<n : k < length (pairs word) = omega (arith, length-enumerate_from 0 (pairs word), h.0) in
    let fits : 2 * k + 1 < length word = omega (arith, pairs-length word) in
    let e = h.1 ∙ get_or-enumerate_from 0 (pairs word) k (i, p) k<n in
    (fits, ap (λ (q : ℕ × List ℕ). q.0) e ∙ zero-add k, ap (λ (q : ℕ × List ℕ). q.1) e ∙ pairs-at word k p fits)

-- how many turns there are
pub pair_turns : (word : List ℕ) → length (enumerate_from 0 (pairs word)) ≡ length word / 2
pair_turns word = length-enumerate_from 0 (pairs word) ∙ pairs-length word
