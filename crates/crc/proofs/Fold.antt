-- Folding: a bit that leaves the register may be added further behind instead. The generator has multiples of five terms, so that 1 and four
-- bits behind it together leave nothing in the register (one computation each); by linearity no word with its four copies leaves anything.
-- Assumes nothing.
use mathlib.Core.Path.{◌≡◌, refl, sym, ap, ap₂, ◌∙◌}
use Prim.Native.Nat.{ℕ, zero, suc, ◌+◌, ◌-◌, ◌*◌, ◌/◌, ◌%◌, ◌^◌, ◌≤◌, ◌<◌}
use native.Mathlib.Nat.{mul_assoc, mul_comm, pow-suc, add-suc, mod-lt, zero-lt-suc, div-lt_iff_lt-mul}
use native.Mathlib.Omega.{arith}
use lib.ListN.{length}
use lib.Bits.{bit_xor, xor_zero_r}
use Rattle.crc.specs.Crc.{shift, shifts, bytes_in}
use Rattle.crc.specs.Words.{above, sum4, Same}
use Rattle.crc.proofs.Linear.{sum4_eq, sum4_xor, xor_none, up_xor, up_sum4, parts, bit_ind, shift_double, shifts_xor, shifts_add, shifts_zero, bytes_xor}
use Rattle.crc.proofs.Words.{above_xor, above_zero, above-number, shifts-above}

-- four copies of w, moved up
unfoldable pub copies : ℕ → ℕ → ℕ → ℕ → ℕ → ℕ
copies a b c d w = sum4 (w * 2 ^ a) (w * 2 ^ b) (w * 2 ^ c) (w * 2 ^ d)

double_up : (w k : ℕ) → w * 2 * 2 ^ k ≡ w * 2 ^ k * 2
double_up w k = mul_assoc w 2 (2 ^ k) ∙ ap (λ (x : ℕ). w * x) (mul_comm 2 (2 ^ k)) ∙ sym (mul_assoc w (2 ^ k) 2)

module _ (k a b c d : ℕ) where
  copies_xor : (v w : ℕ) → copies a b c d (bit_xor v w) ≡ bit_xor (copies a b c d v) (copies a b c d w)
  unfolding copies
  copies_xor v w =
      sum4_eq (up_xor a v w) (up_xor b v w) (up_xor c v w) (up_xor d v w)
      ∙ sum4_xor (v * 2 ^ a) (v * 2 ^ b) (v * 2 ^ c) (v * 2 ^ d) (w * 2 ^ a) (w * 2 ^ b) (w * 2 ^ c) (w * 2 ^ d)

  copies_double : (w : ℕ) → copies a b c d (w * 2) ≡ copies a b c d w * 2
  unfolding copies
  copies_double w =
      sum4_eq (double_up w a) (double_up w b) (double_up w c) (double_up w d)
      ∙ sym (up_sum4 1 (w * 2 ^ a) (w * 2 ^ b) (w * 2 ^ c) (w * 2 ^ d))

  -- w, with its copies above it
  abbrev whole : ℕ → ℕ
  whole w = above k w (copies a b c d w)

  whole_xor : (v w : ℕ) → whole (bit_xor v w) ≡ bit_xor (whole v) (whole w)
  whole_xor v w = ap (above k (bit_xor v w)) (copies_xor v w) ∙ sym (above_xor k v (copies a b c d v) w (copies a b c d w))

  whole_double : (w : ℕ) → whole (w * 2) ≡ whole w * 2
  unfolding above
  whole_double w =
      ap (λ (h : ℕ). bit_xor (w * 2) (h * 2 ^ k)) (copies_double w)
      ∙ ap (bit_xor (w * 2)) (double_up (copies a b c d w) k) ∙ sym (up_xor 1 w (copies a b c d w * 2 ^ k))

  -- n shifts of 1 with its copies leave nothing
  module _ (n : ℕ) (nothing : shifts n (whole 1) ≡ 0) where
    bit_leaves : (m x : ℕ) → x < 2 → shifts (n + m) (whole x) ≡ 0
    bit_leaves m =
        bit_ind (λ (x : ℕ). shifts (n + m) (whole x) ≡ 0)
        (ap (shifts (n + m)) none ∙ shifts_zero (n + m))
        (shifts_add n m (whole 1) ∙ ap (shifts m) nothing ∙ shifts_zero m)
      where
        none : whole 0 ≡ 0
        none = let z = copies_double 0 in let e : copies a b c d 0 ≡ 0 = omega arith in ap (above k 0) e ∙ above_zero k 0

    -- and so do n + j shifts of a number of j bits
    word_leaves : (j w : ℕ) → w < 2 ^ j → shifts (n + j) (whole w) ≡ 0
    unfolding shifts
    word_leaves zero w h = bit_leaves zero w (omega arith)
    word_leaves (suc j) w h =
        ap (shifts (n + suc j)) (ap whole (sym (parts 1 w)) ∙ whole_xor (w / 2 * 2) (w % 2))
        ∙ shifts_xor (n + suc j) (whole (w / 2 * 2)) (whole (w % 2))
        ∙ ap₂ bit_xor
        (ap₂ shifts (add-suc n j) (whole_double (w / 2)) ∙ ap (shifts (n + j)) (shift_double (whole (w / 2)))
        ∙ word_leaves j (w / 2) ((div-lt_iff_lt-mul (zero-lt-suc 1)).1 (rw (pow-suc 2 j) at h)))
        (bit_leaves (suc j) (w % 2) (mod-lt w (zero-lt-suc 1)))

    -- THE RULE of folding: where m bytes come yet, enough for n shifts, a word that leaves is the same as its copies
    pub folded : (m : ℕ) → n ≤ m * 8 → (w h : ℕ) → w < 2 ^ k → Same m (bit_xor h (copies a b c d w)) (shifts k (above k w h))
    folded m g w h l bs f =
        bytes_xor h (copies a b c d w) bs
        ∙ ap (bit_xor (bytes_in h bs)) (xor_none (shifts (length bs * 8) (copies a b c d w)) (shifts (length bs * 8) (shifts k w)) both)
        ∙ sym (ap (λ (r : ℕ). bytes_in r bs) (shifts-above k w h) ∙ bytes_xor h (shifts k w) bs)
      where
        both : bit_xor (shifts (length bs * 8) (copies a b c d w)) (shifts (length bs * 8) (shifts k w)) ≡ 0
        both =
            sym (shifts_xor (length bs * 8) (copies a b c d w) (shifts k w))
            ∙ ap (shifts (length bs * 8)) (sym (shifts-above k w (copies a b c d w)))
            ∙ sym (shifts_add k (length bs * 8) (whole w))
            ∙ ap (λ (j : ℕ). shifts j (whole w)) count
            ∙ shifts_add (n + k) (length bs * 8 - n) (whole w)
            ∙ ap (shifts (length bs * 8 - n)) (word_leaves k w l) ∙ shifts_zero (length bs * 8 - n)
          where
            count : k + length bs * 8 ≡ n + k + (length bs * 8 - n)
            count = omega arith

-- the copies of a bit that stands 64 places below: 145, 183, 211 and 300 places behind it
unfoldable pub near : ℕ → ℕ
near = copies 81 119 147 236

pub near_folded : (w h : ℕ) → w < 2 ^ 64 → Same 40 (bit_xor h (near w)) (shifts 64 (above 64 w h))
unfolding near copies above shift shifts
near_folded = folded 64 81 119 147 236 300 refl 40 (omega arith)

-- ---- near copies, by words

five : ℕ → ℕ → ℕ → ℕ → ℕ → ℕ
five a b c d e = above 64 a (above 64 b (above 64 c (above 64 d (above 64 e 0))))

five_xor : (a b c d e a' b' c' d' e' : ℕ)
    → bit_xor (five a b c d e) (five a' b' c' d' e') ≡ five (bit_xor a a') (bit_xor b b') (bit_xor c c') (bit_xor d d') (bit_xor e e')
unfolding five
five_xor a b c d e a' b' c' d' e' =
    above_xor 64 a _ a' _
    ∙ ap (above 64 (bit_xor a a'))
    (above_xor 64 b _ b' _
    ∙ ap (above 64 (bit_xor b b'))
    (above_xor 64 c _ c' _
    ∙ ap (above 64 (bit_xor c c')) (above_xor 64 d _ d' _ ∙ ap (above 64 (bit_xor d d')) (above_xor 64 e 0 e' 0))))

-- a word moved up by a whole word, and by less
up_word : (x u : ℕ) → x * (u * 2 ^ 64) ≡ above 64 0 (x * u)
unfolding above
up_word x u = sym (mul_assoc x u (2 ^ 64))

two-words : (y lo hi : ℕ) → lo < 2 ^ 64 → hi * 2 ^ 64 + lo ≡ y → y ≡ above 64 lo hi
two-words y lo hi l e = sym (above-number 64 lo hi l ∙ e)

-- and nothing above that
then-none : (lo hi : ℕ) → above 64 lo hi ≡ above 64 lo (above 64 hi 0)
then-none lo hi = ap (above 64 lo) (sym (above_zero 64 hi))

module _ (x : ℕ) (h : x < 2 ^ 64) where
  near_17 : x * 2 ^ 81 ≡ five 0 (x * 2 ^ 17 % 2 ^ 64) (x / 2 ^ 47) 0 0
  unfolding five above
  near_17 = up_word x (2 ^ 17) ∙ ap (above 64 0) (two-words (x * 2 ^ 17) (x * 2 ^ 17 % 2 ^ 64) (x / 2 ^ 47) (omega arith) (omega arith) ∙ then-none (x * 2 ^ 17 % 2 ^ 64) (x / 2 ^ 47))

  near_55 : x * 2 ^ 119 ≡ five 0 (x * 2 ^ 55 % 2 ^ 64) (x / 2 ^ 9) 0 0
  unfolding five above
  near_55 = up_word x (2 ^ 55) ∙ ap (above 64 0) (two-words (x * 2 ^ 55) (x * 2 ^ 55 % 2 ^ 64) (x / 2 ^ 9) (omega arith) (omega arith) ∙ then-none (x * 2 ^ 55 % 2 ^ 64) (x / 2 ^ 9))

  near_19 : x * 2 ^ 147 ≡ five 0 0 (x * 2 ^ 19 % 2 ^ 64) (x / 2 ^ 45) 0
  unfolding five above
  near_19 =
      up_word x (2 ^ 83)
      ∙ ap (above 64 0)
      (up_word x (2 ^ 19) ∙ ap (above 64 0) (two-words (x * 2 ^ 19) (x * 2 ^ 19 % 2 ^ 64) (x / 2 ^ 45) (omega arith) (omega arith) ∙ then-none (x * 2 ^ 19 % 2 ^ 64) (x / 2 ^ 45)))

  near_44 : x * 2 ^ 236 ≡ five 0 0 0 (x * 2 ^ 44 % 2 ^ 64) (x / 2 ^ 20)
  unfolding five
  near_44 =
      up_word x (2 ^ 172)
      ∙ ap (above 64 0)
      (up_word x (2 ^ 108)
      ∙ ap (above 64 0) (up_word x (2 ^ 44) ∙ ap (above 64 0) (two-words (x * 2 ^ 44) (x * 2 ^ 44 % 2 ^ 64) (x / 2 ^ 20) (omega arith) (omega arith) ∙ then-none (x * 2 ^ 44 % 2 ^ 64) (x / 2 ^ 20))))

  -- what `push` computes
  pub near-words : (b c d e : ℕ)
      → above 64 b
      (above 64 (bit_xor c (bit_xor (x * 2 ^ 17 % 2 ^ 64) (x * 2 ^ 55 % 2 ^ 64)))
      (above 64 (bit_xor d (bit_xor (x / 2 ^ 47) (bit_xor (x / 2 ^ 9) (x * 2 ^ 19 % 2 ^ 64))))
      (above 64 (bit_xor e (bit_xor (x / 2 ^ 45) (x * 2 ^ 44 % 2 ^ 64))) (above 64 (x / 2 ^ 20) 0))))
      ≡ bit_xor (above 64 b (above 64 c (above 64 d (above 64 e 0)))) (near x)
  unfolding near copies five
  near-words b c d e =
      sym
      (ap₂ bit_xor (ap (λ (y : ℕ). above 64 b (above 64 c (above 64 d (above 64 e y)))) (sym (above_zero 64 0)))
      (ap₂ bit_xor near_17
      (ap₂ bit_xor near_55
      (ap₂ bit_xor near_19 near_44 ∙ five_xor 0 0 _ _ 0 0 0 0 _ _)
      ∙ five_xor 0 _ _ 0 0 0 0 _ _ _)
      ∙ five_xor 0 _ _ 0 0 0 _ _ _ _)
      ∙ five_xor b c d e 0 0 _ _ _ _ ∙ simp xor_zero_r)
