-- Folding by whole bytes: the places of the near copies times 8 serve as well, so that a byte is added to bytes 145, 183, 211 and 300 bytes
-- behind it as it is. A list of the last 300 bytes that left says what is added to the next ones. Assumes nothing.
use mathlib.Core.Path.{◌≡◌, refl, sym, ap, ap₂, ◌∙◌}
use mathlib.Core.List.{List, [], ◌∷◌, ◌++◌}
use Prim.Native.Nat.{ℕ, zero, suc, ◌+◌, ◌-◌, ◌*◌, ◌/◌, ◌%◌, ◌^◌, ◌≤◌, ◌<◌}
use native.Mathlib.Nat.{suc-ne-zero, mul_assoc, mul-one, suc-mul, add_assoc, add_left_comm, add_comm, add-zero}
use native.Mathlib.Numerals.{add-one}
use native.Mathlib.Omega.{arith}
use lib.Pow.{pow-add}
use lib.ListN.{length, get_or, take, drop, set, replicate, length-drop, take-append-drop}
use lib.Seq.{paste, take-paste, take-append_seam, take-append-add, drop-append_seam, drop-cons, drop-drop, drop-append-le, drop-set-add, drop-length, take-suc, take-suc-set, take-nil, take-length, length-take-le, get_or-take, get_or-drop, take-take}
use Rattle.std.proofs.Common.{append_assoc}
use lib.Bits.{bit_xor, xor_self, xor_zero_r}
use Rattle.crc.specs.Crc.{shift, shifts, byte_in, bytes_in}
use Rattle.crc.specs.Words.{above, sum4, Same, placed, spread, reach, zeros}
use Rattle.std.specs.Int.{w32, to_le_bytes}
use Rattle.crc.proofs.Parts.{same_more}
use Rattle.crc.proofs.Linear.{xor_assoc, sum4_eq, sum4_xor, sum4_square, shifts_xor, shifts-sum4, shifts_up, shifts_add, bytes-append}
use Rattle.crc.proofs.Words.{above_xor, above-sum4, above_zero, above_low, above-number, word_met}
use Rattle.crc.proofs.Fold.{copies, folded}

-- ---- 1 with its far copies leaves nothing: the rule of the near copies is computed, and squared three times

-- n shifts of any state that 1 comes to are the sum of none, a, b and c shifts
abbrev Sparse : ℕ → ℕ → ℕ → ℕ → Type 0
Sparse n a b c = (k : ℕ) → shifts (n + k) 1 ≡ sum4 (shifts k 1) (shifts (a + k) 1) (shifts (b + k) 1) (shifts (c + k) 1)

computed : shifts 300 1 ≡ sum4 1 (shifts 89 1) (shifts 117 1) (shifts 155 1)
unfolding shift shifts
computed = refl

sparse : Sparse 300 89 117 155
unfolding shifts
sparse k =
    shifts_add 300 k 1 ∙ ap (shifts k) computed ∙ shifts-sum4 k 1 (shifts 89 1) (shifts 117 1) (shifts 155 1)
    ∙ sum4_eq (refl {a = shifts k 1}) (sym (shifts_add 89 k 1)) (sym (shifts_add 117 k 1)) (sym (shifts_add 155 k 1))

-- squared: the crossed products stand twice
squared : (n a b c : ℕ) → Sparse n a b c → Sparse (n + n) (a + a) (b + b) (c + c)
squared n a b c r k =
    shifts_by (add_assoc n n k) ∙ r (n + k)
    ∙ sum4_eq (r k) (row a) (row b ∙ sum4_eq (same (b + k)) (crossed a b) (same (b + (b + k))) (same (c + (b + k)))) (row c ∙ sum4_eq (same (c + k)) (crossed a c) (crossed b c) (same (c + (c + k))))
    ∙ sum4_square (shifts k 1) (shifts (a + k) 1) (shifts (b + k) 1) (shifts (c + k) 1) (shifts (a + (a + k)) 1) (shifts (b + (a + k)) 1) (shifts (c + (a + k)) 1) (shifts (b + (b + k)) 1) (shifts (c + (b + k)) 1) (shifts (c + (c + k)) 1)
    ∙ sum4_eq (same k) (sym (shifts_by (add_assoc a a k))) (sym (shifts_by (add_assoc b b k))) (sym (shifts_by (add_assoc c c k)))
  where
    shifts_by : {m l : ℕ} → m ≡ l → shifts m 1 ≡ shifts l 1
    shifts_by e = ap (λ (j : ℕ). shifts j 1) e

    same : (m : ℕ) → shifts m 1 ≡ shifts m 1
    same m = refl

    crossed : (i j : ℕ) → shifts (i + (j + k)) 1 ≡ shifts (j + (i + k)) 1
    crossed i j = shifts_by (add_left_comm i j k)

    row : (i : ℕ) → shifts (i + (n + k)) 1 ≡ sum4 (shifts (i + k) 1) (shifts (a + (i + k)) 1) (shifts (b + (i + k)) 1) (shifts (c + (i + k)) 1)
    row i = crossed i n ∙ r (i + k)

far_sparse : Sparse 2400 712 936 1240
far_sparse = squared 1200 356 468 620 (squared 600 178 234 310 (squared 300 89 117 155 sparse))

-- a copy of 1, shifted
copy : (a b m : ℕ) → a + b ≡ m → shifts m (1 * 2 ^ a) ≡ shifts b 1
copy a b m e = ap (λ (k : ℕ). shifts k (1 * 2 ^ a)) (sym e) ∙ shifts_add a b (1 * 2 ^ a) ∙ ap (shifts b) (shifts_up a 1)

module _ (n m a b c d a' b' c' d' : ℕ) (en : 8 + m ≡ n) (ea : a + a' ≡ m) (eb : b + b' ≡ m) (ec : c + c' ≡ m) (ed : d + d' ≡ m) where
  terms : shifts n (above 8 1 (copies a b c d 1)) ≡ bit_xor (shifts n 1) (sum4 (shifts a' 1) (shifts b' 1) (shifts c' 1) (shifts d' 1))
  unfolding above copies
  terms =
      shifts_xor n 1 (h * 2 ^ 8)
      ∙ ap (bit_xor (shifts n 1))
      (ap (λ (k : ℕ). shifts k (h * 2 ^ 8)) (sym en) ∙ shifts_add 8 m (h * 2 ^ 8) ∙ ap (shifts m) (shifts_up 8 h)
      ∙ shifts-sum4 m (1 * 2 ^ a) (1 * 2 ^ b) (1 * 2 ^ c) (1 * 2 ^ d)
      ∙ sum4_eq (copy a a' m ea) (copy b b' m eb) (copy c c' m ec) (copy d d' m ed))
    where
      h : ℕ
      h = sum4 (1 * 2 ^ a) (1 * 2 ^ b) (1 * 2 ^ c) (1 * 2 ^ d)

unfoldable pub far : ℕ → ℕ
far = copies 2392 1680 1456 1152

far_folded : (w h : ℕ) → w < 2 ^ 8 → Same 300 (bit_xor h (far w)) (shifts 8 (above 8 w h))
unfolding far
far_folded = folded 8 2392 1680 1456 1152 2400 nothing 300 (omega arith)
  where
    nothing : shifts 2400 (above 8 1 (copies 2392 1680 1456 1152 1)) ≡ 0
    nothing =
        terms 2400 2392 2392 1680 1456 1152 0 712 936 1240 refl refl refl refl refl
        ∙ ap (λ (y : ℕ). bit_xor y (sum4 (shifts 0 1) (shifts 712 1) (shifts 936 1) (shifts 1240 1))) (far_sparse 0)
        ∙ xor_self (sum4 (shifts 0 1) (shifts 712 1) (shifts 936 1) (shifts 1240 1))

-- ---- lists of bytes

placed_step : (l : List ℕ) (k : ℕ) → placed (drop k l) ≡ above 8 (get_or l k 0) (placed (drop (suc k) l))
unfolding placed above
placed_step [] zero = refl
placed_step [] (suc k) = refl
placed_step (w ∷ l) zero = refl
placed_step (w ∷ l) (suc k) = placed_step l k

placed_snoc : (l : List ℕ) (x : ℕ) → placed (l ++ (x ∷ [])) ≡ bit_xor (placed l) (x * 2 ^ (length l * 8))
unfolding placed above
placed_snoc [] x = above_zero 8 x ∙ sym (mul-one x)
placed_snoc (w ∷ l) x =
    ap (above 8 w) (placed_snoc l x)
    ∙ sym
    (ap (bit_xor (above 8 w (placed l)))
    (ap (λ (k : ℕ). x * k) (ap (λ (k : ℕ). 2 ^ k) (suc-mul (length l) 8) ∙ pow-add 2 (length l * 8) 8)
    ∙ sym (mul_assoc x (2 ^ (length l * 8)) (2 ^ 8)))
    ∙ above_xor 8 w (placed l) 0 (x * 2 ^ (length l * 8)) ∙ ap (λ (y : ℕ). above 8 y (bit_xor (placed l) (x * 2 ^ (length l * 8)))) (xor_zero_r w))

-- from k on, where m bytes are left
snoc_from : (l : List ℕ) (x k m : ℕ) → k + m ≡ length l → placed (drop k (l ++ (x ∷ []))) ≡ bit_xor (placed (drop k l)) (x * 2 ^ (m * 8))
snoc_from l x k m e =
    let n : length (drop k l) ≡ m = omega (arith, length-drop k l) in
    ap placed (drop-append-le k l (x ∷ []) (omega arith)) ∙ placed_snoc (drop k l) x
    ∙ ap (λ (j : ℕ). bit_xor (placed (drop k l)) (x * 2 ^ (j * 8))) n

spread_step : (l : List ℕ) → spread l ≡ above 8 (reach l 0) (spread (drop 1 l))
unfolding spread
spread_step l =
    sum4_eq (placed_step l 0) (from 89) (from 117) (from 155)
    ∙ above-sum4 8 (get_or l 0 0) (get_or l 89 0) (get_or l 117 0) (get_or l 155 0) (placed (drop 1 l)) (placed (drop 89 (drop 1 l))) (placed (drop 117 (drop 1 l))) (placed (drop 155 (drop 1 l)))
  where
    from : (k : ℕ) → placed (drop k l) ≡ above 8 (get_or l k 0) (placed (drop k (drop 1 l)))
    from k =
        placed_step l k
        ∙ ap (λ (m : List ℕ). above 8 (get_or l k 0) (placed m)) (sym (drop-drop k 1 l ∙ ap (λ (n : ℕ). drop n l) (add_comm 1 k ∙ add-one k)))

spread_snoc : (l : List ℕ) (x : ℕ) → length l ≡ 299 → spread (l ++ (x ∷ [])) ≡ bit_xor (spread l) (far x)
unfolding spread far copies
spread_snoc l x e =
    sum4_eq (snoc_from l x 0 299 (sym e)) (snoc_from l x 89 210 (sym e)) (snoc_from l x 117 182 (sym e)) (snoc_from l x 155 144 (sym e))
    ∙ sum4_xor (placed l) (placed (drop 89 l)) (placed (drop 117 l)) (placed (drop 155 l)) (x * 2 ^ 2392) (x * 2 ^ 1680) (x * 2 ^ 1456) (x * 2 ^ 1152)

-- the same from i on
reach-from : (l : List ℕ) (i : ℕ) → reach (drop i l) 0 ≡ reach l i
reach-from l i =
    sum4_eq (get_or-drop i l 0 0 ∙ ap (λ (k : ℕ). get_or l k 0) (add-zero i)) (get_or-drop i l 89 0) (get_or-drop i l 117 0) (get_or-drop i l 155 0)

spread-from : (l : List ℕ) (i : ℕ) → spread (drop i l) ≡ above 8 (reach l i) (spread (drop (i + 1) l))
spread-from l i = spread_step (drop i l) ∙ ap₂ (above 8) (reach-from l i) (ap spread (drop-drop 1 i l))

-- the first bytes of a list reach as far, if they are enough
pub reach-take : (n : ℕ) (l : List ℕ) (i : ℕ) → i + 155 < n → reach (take n l) i ≡ reach l i
reach-take n l i h = sum4_eq (at i (omega arith)) (at (i + 89) (omega arith)) (at (i + 117) (omega arith)) (at (i + 155) h)
  where
    at : (k : ℕ) → k < n → get_or (take n l) k 0 ≡ get_or l k 0
    at k g = get_or-take n l k 0 g

-- THE RULE of folding by whole bytes: the byte w goes in, x leaves, and the list goes on by x
far_turn : (l : List ℕ) (w x : ℕ) → length l ≡ 300 → x ≡ bit_xor (reach l 0) w → x < 2 ^ 8
    → Same 300 (spread (drop 1 l ++ (x ∷ []))) (shifts 8 (bit_xor (spread l) w))
far_turn l w x e i h bs f =
    let n : length (drop 1 l) ≡ 299 = omega (arith, length-drop 1 l) in
    ap (λ (r : ℕ). bytes_in r bs) (spread_snoc (drop 1 l) x n)
    ∙ far_folded x (spread (drop 1 l)) h bs f
    ∙ ap (λ (r : ℕ). bytes_in (shifts 8 r) bs)
    (ap (λ (y : ℕ). above 8 y (spread (drop 1 l))) i
    ∙ sym (ap (λ (r : ℕ). bit_xor r w) (spread_step l) ∙ above_low 8 (reach l 0) (spread (drop 1 l)) w))

-- ---- the list that `fill` goes on with

rest_of_window : (n : ℕ) (l : List ℕ) → take n (drop 1 l) ≡ drop 1 (take (suc n) l)
rest_of_window n [] = take-nil n
rest_of_window n (w ∷ l) = refl

-- the 300 bytes from i + 1 on, when x is stored behind those from i on
window_step : (l : List ℕ) (i x : ℕ) → 300 + i < length l → take 300 (drop (i + 1) (set l (300 + i) x)) ≡ drop 1 (take 300 (drop i l)) ++ (x ∷ [])
window_step l i x h =
    let e : 300 + i ≡ i + 1 + 299 = omega arith in
    let room : 299 < length (drop (i + 1) l) = omega (arith, length-drop (i + 1) l) in
    ap (take 300) (ap (λ (k : ℕ). drop (i + 1) (set l k x)) e ∙ drop-set-add (i + 1) l 299 x)
    ∙ take-suc-set (drop (i + 1) l) 299 x room
    ∙ ap (λ (m : List ℕ). m ++ (x ∷ [])) (ap (take 299) (sym (drop-drop 1 i l)) ∙ rest_of_window 299 (drop i l))

window_reach : (l : List ℕ) (i : ℕ) → reach (take 300 (drop i l)) 0 ≡ reach l i
window_reach l i = reach-take 300 (drop i l) 0 (omega arith) ∙ reach-from l i

-- the byte at j goes in
byte_in_lem : (bs : List ℕ) (j s : ℕ) → j < length bs → bytes_in (shifts 8 (bit_xor s (get_or bs j 0))) (drop (suc j) bs) ≡ bytes_in s (drop j bs)
unfolding bytes_in byte_in
byte_in_lem bs j s h = sym (ap (bytes_in s) (drop-cons bs j 0 h))

bytes_snoc : (r : ℕ) (bs : List ℕ) (x : ℕ) → bytes_in r (bs ++ (x ∷ [])) ≡ shifts 8 (bit_xor (bytes_in r bs) x)
unfolding bytes_in byte_in
bytes_snoc r bs x = bytes-append r bs (x ∷ [])

-- one more byte has left
pub fill_turn : (l bs : List ℕ) (i x r : ℕ) → 300 + i < length l → i < length bs → x ≡ bit_xor (reach l i) (get_or bs i 0) → x < 2 ^ 8
    → Same 300 (spread (take 300 (drop i l))) (bytes_in r (take i bs))
    → Same 300 (spread (take 300 (drop (i + 1) (set l (300 + i) x)))) (bytes_in r (take (i + 1) bs))
unfolding bytes_in byte_in
fill_turn l bs i x r h g e f same =
    let w = get_or bs i 0 in
    let n : length (take 300 (drop i l)) ≡ 300 = length-take-le 300 (drop i l) (omega (arith, length-drop i l)) in
    same_more 300 (spread (take 300 (drop i l))) _ (bytes_in r (take i bs)) _ (w ∷ []) same
    (λ ys m. ap (λ (v : List ℕ). bytes_in (spread v) ys) (window_step l i x h)
    ∙ far_turn (take 300 (drop i l)) w x n (e ∙ ap (λ (y : ℕ). bit_xor y w) (sym (window_reach l i))) f ys m)
    (sym (ap (λ (k : ℕ). bytes_in r (take k bs)) (add-one i) ∙ ap (bytes_in r) (take-suc bs i 0 g) ∙ bytes-append r (take i bs) (w ∷ [])))

-- the last bytes go to the front
pub slid : (l : List ℕ) (n : ℕ) → n + 300 ≤ length l → take 300 (paste l 0 (drop n l) (n + 300 - n)) ≡ take 300 (drop n l)
slid l n h =
    let e : n + 300 - n ≡ 300 = omega arith in
    ap (λ (j : ℕ). take 300 (paste l 0 (drop n l) j)) e
    ∙ take-paste l 0 (drop n l) 300 (omega arith) (omega (arith, length-drop n l))

-- ---- the list that `mixed` makes

-- one more byte is mixed with what is added to it
pub mixed_turn : (bs l m : List ℕ) (i : ℕ) → i < length m → i < length bs → get_or m i 0 ≡ bit_xor (reach l i) (get_or bs i 0)
    → bytes_in (bit_xor (bytes_in 0 (take (suc i) m)) (spread (drop (suc i) l))) (drop (suc i) bs)
    ≡ bytes_in (bit_xor (bytes_in 0 (take i m)) (spread (drop i l))) (drop i bs)
mixed_turn bs l m i h g e =
    let w = get_or bs i 0 in
    let q = bytes_in 0 (take i m) in
    let t = spread (drop (i + 1) l) in
    let q' : bytes_in 0 (take (suc i) m) ≡ shifts 8 (bit_xor (bit_xor q (reach l i)) w)
    = ap (bytes_in 0) (take-suc m i 0 h)
    ∙ bytes_snoc 0 (take i m) (get_or m i 0) ∙ ap (shifts 8) (ap (bit_xor q) e ∙ sym (xor_assoc q (reach l i) w)) in
    ap (λ (k : ℕ). bytes_in (bit_xor (bytes_in 0 (take (suc i) m)) (spread (drop k l))) (drop (suc i) bs)) (sym (add-one i))
    ∙ ap (λ (r : ℕ). bytes_in r (drop (suc i) bs)) (ap (λ (y : ℕ). bit_xor y t) q' ∙ sym (word_met 8 q (reach l i) w t))
    ∙ byte_in_lem bs i (bit_xor q (above 8 (reach l i) t)) g
    ∙ ap (λ (r : ℕ). bytes_in (bit_xor q r) (drop i bs)) (sym (spread-from l i))

-- and i of them
mixed_so_far : (bs l m : List ℕ) (n : ℕ) → length m ≡ n → length bs ≡ n → ((k : ℕ) → k < n → get_or m k 0 ≡ bit_xor (reach l k) (get_or bs k 0)) → (i : ℕ) → i ≤ n
    → bytes_in (bit_xor (bytes_in 0 (take i m)) (spread (drop i l))) (drop i bs) ≡ bytes_in (spread l) bs
unfolding bytes_in
mixed_so_far bs l m n a b e zero h = refl
mixed_so_far bs l m n a b e (suc i) h =
    mixed_turn bs l m i (omega (arith, a, h)) (omega (arith, b, h)) (e i (omega (arith, h))) ∙ mixed_so_far bs l m n a b e i (omega (arith, h))

-- ---- zeros behind the last bytes

placed-zeros : (l : List ℕ) (n : ℕ) → placed (l ++ zeros n) ≡ placed l
unfolding placed above zeros
placed-zeros [] zero = refl
placed-zeros [] (suc n) = ap (above 8 0) (placed-zeros [] n)
placed-zeros (w ∷ l) n = ap (above 8 w) (placed-zeros l n)

spread-zeros : (l : List ℕ) (n : ℕ) → 155 ≤ length l → spread (l ++ zeros n) ≡ spread l
unfolding spread
spread-zeros l n h =
    sum4_eq (placed-zeros l n) (from 89 (omega arith)) (from 117 (omega arith)) (from 155 h)
  where
    from : (k : ℕ) → k ≤ length l → placed (drop k (l ++ zeros n)) ≡ placed (drop k l)
    from k g = ap placed (drop-append-le k l (zeros n) g) ∙ placed-zeros (drop k l) n

-- zeros in the place of the bytes behind the first 300
pub cleared : (l os ps : List ℕ) (n : ℕ) → 300 ≤ length l → n ≡ 159 → os ≡ replicate n 0
    → (take 300 (take 300 l ++ (os ++ ps)) ≡ take 300 l) × (drop 300 (take 459 (take 300 l ++ (os ++ ps))) ≡ zeros 159)
unfolding zeros
cleared l os ps n h e f =
    let front = take 300 l in
    let k : 300 ≡ length front = sym (length-take-le 300 l h) in
    let none : os ≡ replicate 159 0 = f ∙ ap (λ (j : ℕ). replicate j 0) e in (
      ap (λ (j : ℕ). take j (front ++ (os ++ ps))) k ∙ take-append_seam front (os ++ ps),
      ap (drop 300) (ap (λ (j : ℕ). take (j + 159) (front ++ (os ++ ps))) k ∙ take-append-add front (os ++ ps) 159)
          ∙ ap (λ (j : ℕ). drop j (front ++ take 159 (os ++ ps))) k ∙ drop-append_seam front (take 159 (os ++ ps))
          ∙ ap (λ (z : List ℕ). take 159 (z ++ ps)) none,
    )

module _ (l : List ℕ) (ended : drop 300 (take 459 l) ≡ zeros 159) (long : length l ≡ 1900) where
  -- nothing is added past the last 300
  nothing_added : spread (drop 304 (take 459 l)) ≡ 0
  unfolding spread placed above zeros
  nothing_added = ap spread (sym (drop-drop 4 300 (take 459 l)) ∙ ap (drop 4) ended)

  -- the bytes that are read are the last 300, and zeros
  as_read : spread (take 459 l) ≡ spread (take 300 l)
  as_read =
      let n : 155 ≤ length (take 300 l) = omega (arith, length-take-le 300 l (omega arith)) in
      ap spread (sym (take-append-drop 300 (take 459 l)) ∙ ap₂ (λ (a b : List ℕ). a ++ b) (take-take 300 459 l (omega arith)) ended)
      ∙ spread-zeros (take 300 l) 159 n

  pub mixed_done : (bs m : List ℕ) → length m ≡ 304 → length bs ≡ 304 → ((k : ℕ) → k < 304 → get_or m k 0 ≡ bit_xor (reach l k) (get_or bs k 0))
      → bytes_in 0 m ≡ bytes_in (spread (take 300 l)) bs
  unfolding bytes_in
  mixed_done bs m n end each =
      sym
      (ap₂ (λ (r k : ℕ). bytes_in r (drop k bs)) (ap₂ bit_xor (ap (bytes_in 0) (ap (λ (k : ℕ). take k m) (sym n) ∙ take-length m)) nothing_added ∙ xor_zero_r (bytes_in 0 m)) (sym end)
      ∙ ap (bytes_in (bytes_in 0 m)) (drop-length bs))
      ∙ mixed_so_far bs (take 459 l) m 304 n end (λ k h. each k h ∙ ap (λ (y : ℕ). bit_xor y (get_or bs k 0)) (sym (reach-take 459 l k (omega (arith, h))))) 304 (omega arith)
      ∙ ap (λ (r : ℕ). bytes_in r bs) as_read

four_placed : (a b c d : ℕ) → spread (take 300 (a ∷ b ∷ c ∷ d ∷ replicate 1896 0)) ≡ above 8 a (above 8 b (above 8 c d))
unfolding spread placed above
four_placed a b c d = xor_zero_r (above 8 a (above 8 b (above 8 c (above 8 d 0)))) ∙ ap (λ (y : ℕ). above 8 a (above 8 b (above 8 c y))) (xor_zero_r d)

-- the state as four bytes that left
pub four_bytes : (s : ℕ) (bs : List ℕ) → s < 2 ^ 32 → bs ≡ to_le_bytes w32 s → spread (take 300 (bs ++ replicate 1896 0)) ≡ s
four_bytes s bs h e =
    let a = s % 256 in
    let b = s / 256 % 256 in
    let c = s / 65536 % 256 in
    let d = s / 16777216 % 256 in
    let whole : ((d * 2 ^ 8 + c) * 2 ^ 8 + b) * 2 ^ 8 + a ≡ s = omega arith in
    ap (λ (l : List ℕ). spread (take 300 (l ++ replicate 1896 0))) e
    ∙ four_placed a b c d
    ∙ ap (above 8 a) (ap (above 8 b) (above-number 8 c d (omega arith)) ∙ above-number 8 b (d * 2 ^ 8 + c) (omega arith))
    ∙ above-number 8 a ((d * 2 ^ 8 + c) * 2 ^ 8 + b) (omega arith) ∙ whole

-- ---- the blocks, and the last bytes behind them

-- a block has left: k is the list behind its bytes, and m what `slide` makes of it
pub block_left : (bs l k m : List ℕ) (at n x : ℕ) → m ≡ take 300 (drop n k)
    → bytes_in (spread (take 300 (drop n k))) (drop (at + n) bs) ≡ bytes_in (spread l) (drop at bs) → bytes_in (spread l) (drop at bs) ≡ x
    → bytes_in (spread m) (drop (at + n) bs) ≡ x
block_left bs l k m at n x e p q = ap (λ (y : List ℕ). bytes_in (spread y) (drop (at + n) bs)) e ∙ p ∙ q

-- and one more of those that the part is cut into: l is the list behind its bytes, and m what `slide` makes of it
pub next_left : (bs done block rest next last l m : List ℕ) (p s : ℕ) → bs ≡ done ++ (rest ++ last) → rest ≡ block ++ next
    → Same 300 p (bytes_in s done) → Same 300 (spread l) (bytes_in p block) → m ≡ l
    → (ys : List ℕ) × (bs ≡ ys ++ (next ++ last)) × Same 300 (spread m) (bytes_in s ys)
next_left bs done block rest next last l m p s e f same left g = (
  done ++ block,
  e ∙ ap (λ (z : List ℕ). done ++ z) (ap (λ (z : List ℕ). z ++ last) f ∙ append_assoc block next last) ∙ sym (append_assoc done block (next ++ last)),
  same_more 300 p (spread m) (bytes_in s done) (bytes_in s (done ++ block)) block same (λ ys h. ap (λ (z : List ℕ). bytes_in (spread z) ys) g ∙ left ys h)
      (sym (bytes-append s done block)),
)

-- all have left, and r is the register after the last bytes and what is added to them
pub blocks_done : (bs done rest last : List ℕ) (p q r s : ℕ) → length rest ≡ 0 → 300 ≤ length last → bs ≡ done ++ (rest ++ last)
    → Same 300 p (bytes_in s done) → q ≡ p → r ≡ bytes_in q last → r ≡ bytes_in s bs
blocks_done bs done [] last p q r s n h e same f g =
    g ∙ ap (λ (x : ℕ). bytes_in x last) f ∙ same last h ∙ sym (ap (bytes_in s) e ∙ bytes-append s done last)
blocks_done bs done (x ∷ rest) last p q r s n h e same f g = absurd (suc-ne-zero (length rest) n)
