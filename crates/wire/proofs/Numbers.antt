-- The laws of big-endian numbers, each stated once over the width: a number that fits is the number of its bytes, and
-- bytes are the bytes of their number; and what a list begins with stands at its front. Assumes nothing.
use mathlib.Core.Path.{◌≡◌, refl, sym, ap, ◌∙◌}
use mathlib.Core.Bool.{true, and-eq-true_iff}
use mathlib.Core.List.{List, [], ◌∷◌, ◌++◌, append_assoc, append-nil}
use Prim.Native.Nat.{ℕ, zero, suc, ◌+◌, ◌*◌, ◌/◌, ◌%◌, ◌^◌, ◌-◌, ◌≤◌, ◌<◌}
use native.Mathlib.Nat.{add-zero, add-suc, zero-add, suc-add, div-add-mod', pow-suc}
use native.Mathlib.Numerals.{add-one}
use native.Mathlib.Omega.{arith}
use lib.Arith.{digits_div, digits_mod}
use lib.Dec.{eqb}
use lib.ListN.{length, get_or, take, drop, length-append}
use lib.Pointwise.{pointwise}
use lib.Seq.{drop-cons}
use borrow.Author.Tests.{eqb-true}
use Rattle.std.proofs.lemmas.Bool.Decides.{nat_tests}
use Rattle.wire.specs.Wire.{Bytes, be, be_onto, be_val, bytes_at, word, starts_with}

-- ---- bytes

pub bytes-append : (s t : List ℕ) → Bytes s → Bytes t → Bytes (s ++ t)
bytes-append [] t hs ht i = ht i
bytes-append (x ∷ s) t hs ht zero = hs 0
bytes-append (x ∷ s) t hs ht (suc i) = bytes-append s t (λ j. hs (suc j)) ht i

pub bytes-be : (w n : ℕ) → Bytes (be w n)
bytes-be zero n i = omega arith
bytes-be (suc w) n i = bytes-append (be w (n / 256)) (n % 256 ∷ []) (bytes-be w (n / 256)) one i
  where
    one : Bytes (n % 256 ∷ [])
    one zero = omega arith
    one (suc i) = omega arith

-- a layout: numbers one after the other, each with its width
abbrev pub layout : List (ℕ × ℕ) → List ℕ
layout [] = []
layout (f ∷ fs) = be f.0 f.1 ++ layout fs

pub bytes-layout : (fs : List (ℕ × ℕ)) → Bytes (layout fs)
bytes-layout [] i = omega arith
bytes-layout (f ∷ fs) i = bytes-append (be f.0 f.1) (layout fs) (bytes-be f.0 f.1) (bytes-layout fs) i

pub bytes-bytes_at : (w : ℕ) (s : List ℕ) (at : ℕ) → Bytes s → Bytes (bytes_at w s at)
bytes-bytes_at zero s at h i = omega arith
bytes-bytes_at (suc w) s at h zero = h at
bytes-bytes_at (suc w) s at h (suc i) = bytes-bytes_at w s (at + 1) h i

-- two lists joined are equal where their parts are
pub append-both : {a b a' b' : List ℕ} → a ≡ a' → b ≡ b' → a ++ b ≡ a' ++ b'
append-both p q = cc

-- ---- lengths

pub length-be : (w n : ℕ) → length (be w n) ≡ w
length-be zero n = refl
length-be (suc w) n = length-append (be w (n / 256)) (n % 256 ∷ []) ∙ ap (λ (k : ℕ). k + 1) (length-be w (n / 256)) ∙ add-one w

pub length-bytes_at : (w : ℕ) (s : List ℕ) (at : ℕ) → length (bytes_at w s at) ≡ w
length-bytes_at zero s at = refl
length-bytes_at (suc w) s at = ap suc (length-bytes_at w s (at + 1))

-- ---- the round trips

be_onto-append : (acc : ℕ) (s t : List ℕ) → be_onto acc (s ++ t) ≡ be_onto (be_onto acc s) t
be_onto-append acc [] t = refl
be_onto-append acc (b ∷ s) t = be_onto-append (acc * 256 + b) s t

-- a number that fits w bytes is the number of its w bytes
pub be_val-be : (w n : ℕ) → n < 256 ^ w → be_val (be w n) ≡ n
be_val-be zero n h = omega arith
be_val-be (suc w) n h =
    let h' : n < 256 ^ w * 256 = rw pow-suc at h in
    be_onto-append 0 (be w (n / 256)) (n % 256 ∷ [])
    ∙ ap (λ (k : ℕ). k * 256 + n % 256) (be_val-be w (n / 256) (omega arith))
    ∙ div-add-mod' n 256

be-be_onto : (w acc : ℕ) (s : List ℕ) → Bytes s → be (w + length s) (be_onto acc s) ≡ be w acc ++ s
be-be_onto w acc [] h = ap (λ (k : ℕ). be k acc) (add-zero w) ∙ sym (append-nil (be w acc))
be-be_onto w acc (b ∷ s) h =
    let q : (acc * 256 + b) / 256 ≡ acc = digits_div acc (h 0) in
    let r : (acc * 256 + b) % 256 ≡ b = digits_mod acc (h 0) in
    ap (λ (k : ℕ). be k (be_onto (acc * 256 + b) s)) (add-suc w (length s) ∙ sym (suc-add w (length s)))
    ∙ be-be_onto (suc w) (acc * 256 + b) s (λ i. h (suc i))
    ∙ rw (q, r) (append_assoc (be w acc) (b ∷ []) s)

-- bytes are the bytes of their number
pub be-be_val : (s : List ℕ) → Bytes s → be (length s) (be_val s) ≡ s
be-be_val s h = ap (λ (k : ℕ). be k (be_val s)) (sym (zero-add (length s))) ∙ be-be_onto 0 0 s h

-- the same of w bytes that stand in a list
pub be-word : (w : ℕ) (s : List ℕ) (at : ℕ) → Bytes s → be w (word w s at) ≡ bytes_at w s at
be-word w s at h =
    ap (λ (k : ℕ). be k (word w s at)) (sym (length-bytes_at w s at)) ∙ be-be_val (bytes_at w s at) (bytes-bytes_at w s at h)

be_onto_lt : (w acc : ℕ) (s : List ℕ) → Bytes s → acc < 256 ^ w → be_onto acc s < 256 ^ (w + length s)
be_onto_lt w acc [] h l = rw add-zero l
be_onto_lt w acc (b ∷ s) h l =
    let k : acc * 256 + b < 256 ^ w * 256 = omega (arith, h 0) in
    rw (add-suc, ← suc-add) (be_onto_lt (suc w) (acc * 256 + b) s (λ i. h (suc i)) (rw pow-suc k))

-- w bytes make a number that fits w bytes
pub word_lt : (w : ℕ) (s : List ℕ) (at : ℕ) → Bytes s → word w s at < 256 ^ w
word_lt w s at h =
    let k : be_onto 0 (bytes_at w s at) < 256 ^ (0 + length (bytes_at w s at)) = be_onto_lt 0 0 (bytes_at w s at) (bytes-bytes_at w s at h) (omega arith) in
    rw (zero-add, length-bytes_at) at k

-- ---- parts

-- a part `s[a..a + k]` is the k bytes from a on
pub cut_mid : (a k : ℕ) (s : List ℕ) → take (a + k - a) (drop a s) ≡ take k (drop a s)
cut_mid a k s = let e : a + k - a ≡ k = omega arith in rw e

-- a byte and the bytes after it
pub bytes_at_cons : (w : ℕ) (s : List ℕ) (at i b : ℕ) (bs : List ℕ) → b ≡ get_or s (at + i) 0 → bs ≡ bytes_at w s (at + suc i) → b ∷ bs ≡ bytes_at (suc w) s (at + i)
bytes_at_cons w s at i b bs p q =
    let e : at + suc i ≡ at + i + 1 = omega arith in
    rw (p, q, e)

-- byte i of the w bytes at `at`
pub get_d_bytes_at : (w : ℕ) (s : List ℕ) (at i : ℕ) → i < w → get_or (bytes_at w s at) i 0 ≡ get_or s (at + i) 0
get_d_bytes_at zero s at i h = absurd (omega arith)
get_d_bytes_at (suc w) s at zero h = rw add-zero
get_d_bytes_at (suc w) s at (suc i) h =
    let e : at + 1 + i ≡ at + suc i = omega arith in
    get_d_bytes_at w s (at + 1) i (omega arith) ∙ rw e

-- the bytes of one part, and those of the next
pub bytes_at-append : (v w : ℕ) (s : List ℕ) (at : ℕ) → bytes_at (v + w) s at ≡ bytes_at v s at ++ bytes_at w s (at + v)
bytes_at-append zero w s at = rw (zero-add, add-zero)
bytes_at-append (suc v) w s at =
    let e : at + 1 + v ≡ at + suc v = omega arith in
    rw (suc-add v w, ← e) (ap (λ (l : List ℕ). get_or s at 0 ∷ l) (bytes_at-append v w s (at + 1)))

-- within the list, the w bytes at `at` are a part of it
pub bytes_at_part : (w : ℕ) (s : List ℕ) (at : ℕ) → at + w ≤ length s → bytes_at w s at ≡ take w (drop at s)
bytes_at_part zero s at h = refl
bytes_at_part (suc w) s at h =
    let i : at < length s = omega arith in
    ap (λ (l : List ℕ). get_or s at 0 ∷ l) (bytes_at_part w s (at + 1) (omega arith)) ∙ rw (drop-cons s at 0, add-one)

-- lists that agree from `at` on for w bytes have the same word there
pub bytes_at_same : (w : ℕ) (s t : List ℕ) (at : ℕ) → ((i : ℕ) → i < w → get_or s (at + i) 0 ≡ get_or t (at + i) 0) → bytes_at w s at ≡ bytes_at w t at
bytes_at_same zero s t at h = refl
bytes_at_same (suc w) s t at h =
    let first : get_or s at 0 ≡ get_or t at 0 = rw add-zero at (h 0 (omega arith)) in
    rw first (ap (λ (l : List ℕ). get_or t at 0 ∷ l) (bytes_at_same w s t (at + 1) next))
  where
    next : (i : ℕ) → i < w → get_or s (at + 1 + i) 0 ≡ get_or t (at + 1 + i) 0
    next i l =
        let e : at + suc i ≡ at + 1 + i = omega arith in
        rw e at (h (suc i) (omega arith))

-- ---- what a list begins with

-- it stands at the front
pub starts_with-take : (s p : List ℕ) → starts_with s p ≡ true → take (length p) s ≡ p
starts_with-take s [] e = refl
starts_with-take [] (x ∷ p) e = let z : ◌≡◌ {A = ℕ} 0 1 = cc in absurd (omega arith)
starts_with-take (y ∷ s) (x ∷ p) e =
    let b = (and-eq-true_iff (eqb y x) (starts_with s p)).0 e in
    rw (eqb-true y x b.0, starts_with-take s p b.1)

eqb_comm : (a b : ℕ) → eqb a b ≡ eqb b a
eqb_comm a b = grind (arith, nat_tests)

-- and std's test says the same
pub starts_with_by_pairs : (s p : List ℕ) → pointwise eqb p (take (length p) s) ≡ starts_with s p
starts_with_by_pairs s [] = refl
starts_with_by_pairs [] (x ∷ p) = refl
starts_with_by_pairs (y ∷ s) (x ∷ p) = rw (eqb_comm x y, starts_with_by_pairs s p)
