-- The bytes of a part, by the word and, where fewer than eight are left, at the top of a word. Assumes nothing.
use mathlib.Core.Path.{◌≡◌, refl, sym, ap, ap₂, ◌∙◌}
use mathlib.Core.List.{List, [], ◌∷◌, ◌++◌}
use Prim.Native.Nat.{ℕ, zero, suc, ◌+◌, ◌-◌, ◌*◌, ◌/◌, ◌%◌, ◌^◌, ◌≤◌, ◌<◌}
use native.Mathlib.Nat.{suc-ne-zero, zero-sub, sub-zero, suc-sub-suc, not-suc-le-zero, le_of_suc-le-suc, suc-mul, mul-mod_left, add_comm, add-zero, div-eq_of_lt}
use native.Mathlib.Omega.{arith}
use lib.Arith.{digits_lt}
use lib.Pow.{pow_pos, pow-add, mod-pow-add, shl-shr}
use lib.ListN.{take-append-drop, length-drop, drop_of_length-le, length, get_or, take, drop, length-append}
use lib.Seq.{drop-nil, drop-cons, drop-drop, take-add}
use Rattle.std.proofs.Common.{append_assoc}
use lib.Bits.{bit_xor, xor_zero_r, xor_shr}
use Rattle.crc.specs.Crc.{shifts, bytes_in}
use Rattle.std.specs.Int.{w64, from_le_bytes}
use Rattle.std.specs.List.{concat}
use Rattle.std.specs.Simd.{first_chunks}
use Rattle.crc.specs.Words.{le, above, number, Same, Met}
use Rattle.crc.proofs.Linear.{shifts_up, shifts_add, shifts-parts, parts, bytes-append}
use Rattle.crc.proofs.Words.{word_met, Bytes, bytes-number}

-- each place has a byte
pub all_bytes : (bs : List ℕ) → ((j : ℕ) → get_or bs j 0 < 256) → Bytes bs
all_bytes [] h = tt
all_bytes (b ∷ bs) h = (h 0, all_bytes bs (λ j. h (suc j)))

-- and so has each part behind the first
pub bytes_behind : (xs ys : List ℕ) → Bytes (xs ++ ys) → Bytes ys
bytes_behind [] ys h = h
bytes_behind (x ∷ xs) ys h = bytes_behind xs ys h.1

-- ---- words

-- the number of eight bytes, as the library has it
pub le_eight : (bs : List ℕ) → length bs ≡ 8 → from_le_bytes w64 bs ≡ le bs
le_eight bs n =
    let none : le (drop 8 bs) ≡ 0 = ap le (drop_of_length-le bs {i = 8} (omega arith)) in
    omega
    (arith, none, at 0 (omega arith), at 1 (omega arith), at 2 (omega arith), at 3 (omega arith), at 4 (omega arith), at 5 (omega arith), at 6 (omega arith), at 7 (omega arith))
  where
    at : (k : ℕ) → k < 8 → le (drop k bs) ≡ le (drop (suc k) bs) * 256 + get_or bs k 0
    at k h = ap le (drop-cons bs k 0 (omega arith))

-- a word goes in
pub word_bytes : (w : List ℕ) (r : ℕ) → length w ≡ 8 → Bytes w → bytes_in r w ≡ shifts 64 (bit_xor r (le w))
word_bytes w r n b = bytes-number w r b ∙ ap (λ (k : ℕ). shifts (k * 8) (bit_xor r (le w))) n

-- into the register s and v, which waits for it
pub meets : (w : List ℕ) (s v r : ℕ) → length w ≡ 8 → Bytes w → r ≡ shifts 64 (bit_xor (bit_xor s v) (le w)) → Met w s v r
meets w s v r n b e h =
    ap (λ (x : ℕ). bit_xor x h) e ∙ sym (word_met 64 s v (le w) h) ∙ sym (word_bytes w (bit_xor s (above 64 v h)) n b)

-- into t, which is the register s, where nothing waits
pub word_in : (w : List ℕ) (s t u r : ℕ) → Met w s 0 r → s ≡ t → bytes_in t w ≡ u → r ≡ u
unfolding above
word_in w s t u r met e f =
    sym (xor_zero_r r) ∙ met 0 ∙ ap (λ (y : ℕ). bytes_in y w) (xor_zero_r s ∙ e) ∙ f

-- into s, where r is a register of which n bytes make the same
pub same_more : (n r q s t : ℕ) (w : List ℕ) → Same n r s → Same n q (bytes_in r w) → bytes_in s w ≡ t → Same n q t
same_more n r q s t w e f g bs h =
    let long : n ≤ length (w ++ bs) = omega (arith, length-append w bs) in
    f bs h ∙ sym (bytes-append r w bs) ∙ e (w ++ bs) long ∙ bytes-append s w bs ∙ ap (λ (x : ℕ). bytes_in x bs) g

-- the word w, after k others
pub next_word : (k s : ℕ) (bs w : List ℕ) → w ≡ take 8 (drop (k * 8) bs) → bytes_in (bytes_in s (take (k * 8) bs)) w ≡ bytes_in s (take ((k + 1) * 8) bs)
next_word k s bs w e =
    let n : k * 8 + 8 ≡ (k + 1) * 8 = omega arith in
    ap (bytes_in (bytes_in s (take (k * 8) bs))) e ∙ sym (bytes-append s (take (k * 8) bs) (take 8 (drop (k * 8) bs)))
    ∙ ap (bytes_in s) (sym (take-add (k * 8) 8 bs) ∙ ap (λ (j : ℕ). take j bs) n)

-- and those behind
pub all_in : (s a b : ℕ) (bs : List ℕ) → a ≡ b → bytes_in (bytes_in s (take a bs)) (drop b bs) ≡ bytes_in s bs
all_in s a b bs e =
    ap (λ (j : ℕ). bytes_in (bytes_in s (take a bs)) (drop j bs)) (sym e) ∙ sym (bytes-append s (take a bs) (drop a bs))
    ∙ ap (bytes_in s) (take-append-drop a bs)

-- the word at k
pub chunk_at : (n k : ℕ) (bs d : List ℕ) → k < n → get_or (first_chunks 8 n bs) k d ≡ take 8 (drop (k * 8) bs)
chunk_at zero k bs d h = absurd (not-suc-le-zero h)
chunk_at (suc n) zero bs d h = refl
chunk_at (suc n) (suc k) bs d h =
    chunk_at n k (drop 8 bs) d (le_of_suc-le-suc h) ∙ ap (take 8) (drop-drop (k * 8) 8 bs ∙ ap (λ (j : ℕ). drop j bs) (sym (suc-mul k 8 ∙ add_comm (k * 8) 8)))

-- the words from m on
chunks_joined : (n m : ℕ) (bs : List ℕ) → concat (drop m (first_chunks 8 n bs)) ≡ take ((n - m) * 8) (drop (m * 8) bs)
chunks_joined zero m bs =
    ap concat (drop-nil m) ∙ sym (ap (λ (k : ℕ). take (k * 8) (drop (m * 8) bs)) (zero-sub m))
chunks_joined (suc n) zero bs =
    ap (λ (l : List ℕ). take 8 bs ++ l) (chunks_joined n zero (drop 8 bs) ∙ ap (λ (k : ℕ). take (k * 8) (drop 8 bs)) (sub-zero n))
    ∙ sym (ap (λ (k : ℕ). take k bs) (suc-mul n 8 ∙ add_comm (n * 8) 8) ∙ take-add 8 (n * 8) bs)
    ∙ ap (λ (k : ℕ). take (k * 8) bs) (sym (sub-zero (suc n)))
chunks_joined (suc n) (suc m) bs =
    chunks_joined n m (drop 8 bs)
    ∙ ap (take ((n - m) * 8)) (drop-drop (m * 8) 8 bs)
    ∙ ap₂ (λ (k j : ℕ). take (k * 8) (drop j bs)) (sym (suc-sub-suc n m)) (sym (suc-mul m 8 ∙ add_comm (m * 8) 8))

-- the last five words and what is behind them, when r is the register after these and q after those, for which p waited
pub words_done : (bs rest : List ℕ) (ws last : List (List ℕ)) (n m k p s q r : ℕ) → m + 5 ≡ n → k ≡ m → n * 8 ≤ length bs
    → ws ≡ first_chunks 8 n bs → last ≡ drop m ws → rest ≡ drop (n * 8) bs
    → Same 40 p (bytes_in s (take (k * 8) bs)) → q ≡ bytes_in p (concat last) → r ≡ bytes_in q rest → r ≡ bytes_in s bs
words_done bs rest ws last n m k p s q r e f g ew el er same eq ei =
    let long : 40 ≤ length (drop (m * 8) bs) = omega (arith, length-drop (m * 8) bs) in
    let five : (n - m) * 8 ≡ 40 = omega arith in
    let end : n * 8 ≡ m * 8 + 40 = omega arith in
    ei
    ∙ ap₂ bytes_in
    (eq ∙ ap (bytes_in p) (ap concat (el ∙ ap (drop m) ew) ∙ chunks_joined n m bs ∙ ap (λ (j : ℕ). take j (drop (m * 8) bs)) five))
    (er ∙ ap (λ (j : ℕ). drop j bs) end ∙ sym (drop-drop 40 (m * 8) bs))
    ∙ all_in p 40 40 (drop (m * 8) bs) refl
    ∙ same (drop (m * 8) bs) long
    ∙ all_in s (k * 8) (m * 8) bs (ap (λ (j : ℕ). j * 8) f)

-- the words that wait, from k on
number_from : (ps : List ℕ) (k : ℕ) → k < length ps → number (drop k ps) ≡ above 64 (get_or ps k 0) (number (drop (suc k) ps))
number_from ps k h = ap number (drop-cons ps k 0 h)

-- five of them
pub number_five : (ps : List ℕ) → length ps ≡ 5
    → number ps ≡ above 64 (get_or ps 0 0) (above 64 (get_or ps 1 0) (above 64 (get_or ps 2 0) (above 64 (get_or ps 3 0) (above 64 (get_or ps 4 0) 0))))
number_five ps n =
    from 0 (omega arith) (from 1 (omega arith) (from 2 (omega arith) (from 3 (omega arith) (from 4 (omega arith) (ap number (drop_of_length-le ps {i = 5} (omega arith)))))))
  where
    from : (k : ℕ) {h : ℕ} → k < 5 → number (drop (suc k) ps) ≡ h → number (drop k ps) ≡ above 64 (get_or ps k 0) h
    from k l e = number_from ps k (omega arith) ∙ ap (above 64 (get_or ps k 0)) e

-- one of them meets its word
pub settle_turn : (p : ℕ) (ps : List ℕ) (w : List ℕ) (ws : List (List ℕ)) (s r : ℕ) → Met w s p r
    → bytes_in (bit_xor r (number ps)) (concat ws) ≡ bytes_in (bit_xor s (number (p ∷ ps))) (concat (w ∷ ws))
settle_turn p ps w ws s r met =
    ap (λ (y : ℕ). bytes_in y (concat ws)) (met (number ps)) ∙ sym (bytes-append (bit_xor s (above 64 p (number ps))) w (concat ws))

-- all of them
pub all_settled : (s : ℕ) → s ≡ bytes_in (bit_xor s (number [])) (concat [])
unfolding bytes_in
all_settled s = sym (xor_zero_r s)

-- ---- fewer than eight bytes

-- the number of n bytes has 8 * n bits
pub number_lt : (n : ℕ) (bs : List ℕ) → Bytes bs → length bs ≤ n → le bs < 2 ^ (n * 8)
number_lt n [] h l = pow_pos (n * 8)
number_lt zero (b ∷ bs) h l = absurd (not-suc-le-zero l)
number_lt (suc n) (b ∷ bs) h l = rw (suc-mul n 8, pow-add 2 (n * 8) 8) (digits_lt (number_lt n bs h.1 (le_of_suc-le-suc l)) h.0)

-- one byte more, at the low end
pub byte_before : (bs : List ℕ) (k n w b : ℕ) → k ≡ suc n → n < length bs → w ≡ le (drop k bs) → b ≡ get_or bs n 0 → w * 256 + b ≡ le (drop n bs)
byte_before bs k n w b e h p q =
    ap₂ (λ (x y : ℕ). x * 256 + y) (p ∙ ap (λ (m : ℕ). le (drop m bs)) e) q ∙ sym (ap le (drop-cons bs n 0 h))

-- the byte b is read after those behind it
module _ (bs xs ys : List ℕ) (b w : ℕ) (e : bs ≡ (xs ++ (b ∷ [])) ++ ys) (f : w ≡ le ys) where
  from_back : bs ≡ xs ++ (b ∷ ys)
  from_back = e ∙ append_assoc xs (b ∷ []) ys

  pub byte_read : (x : ℕ) → x ≡ b → (zs : List ℕ) × (bs ≡ xs ++ zs) × (w * 256 + x ≡ le zs)
  byte_read x g = (b ∷ ys, from_back, ap₂ (λ (y z : ℕ). y * 256 + z) f g)

  -- there is room for it
  pub room_before : ((j : ℕ) → get_or bs j 0 < 256) → length bs < 8 → (b < 256) × (w < 2 ^ 48)
  room_before small l =
      let bytes : Bytes (b ∷ ys) = bytes_behind xs (b ∷ ys) (rw from_back at (all_bytes bs small)) in
      let n : length ys ≤ 6 = omega (arith, ap length from_back, length-append xs (b ∷ ys)) in
      (bytes.0, rw f (number_lt 6 ys bytes.1 n))

module _ (a b x s w : ℕ) (e : a + b ≡ 64) where
  -- the b low bits of x, at the top of a word of 64
  top_bits : x * 2 ^ a % 2 ^ 64 ≡ x % 2 ^ b * 2 ^ a
  top_bits =
      ap (λ (k : ℕ). x * 2 ^ a % 2 ^ k) (sym e ∙ add_comm a b) ∙ mod-pow-add (x * 2 ^ a) b a
      ∙ ap₂ (λ (y z : ℕ). y % 2 ^ b * 2 ^ a + z) (shl-shr x a) (mul-mod_left x (2 ^ a)) ∙ add-zero (x % 2 ^ b * 2 ^ a)

  -- b shifts of s and w, a number of b bits, by 64 shifts
  pub by_top : x ≡ bit_xor s w → w < 2 ^ b → bit_xor (s / 2 ^ b) (shifts 64 (x * 2 ^ a % 2 ^ 64)) ≡ shifts b (bit_xor s w)
  by_top i h =
      ap₂ bit_xor high
      (ap (shifts 64) top_bits ∙ ap (λ (k : ℕ). shifts k (x % 2 ^ b * 2 ^ a)) (sym e) ∙ shifts_add a b (x % 2 ^ b * 2 ^ a)
      ∙ ap (shifts b) (shifts_up a (x % 2 ^ b)))
      ∙ sym (ap (shifts b) (sym i ∙ sym (parts b x)) ∙ shifts-parts b (x / 2 ^ b) (x % 2 ^ b))
    where
      high : s / 2 ^ b ≡ x / 2 ^ b
      high =
          sym
          (ap (λ (y : ℕ). y / 2 ^ b) i ∙ xor_shr s w b ∙ ap (bit_xor (s / 2 ^ b)) (div-eq_of_lt h) ∙ xor_zero_r (s / 2 ^ b))

-- no byte
pub none_in : (bs : List ℕ) (s : ℕ) → length bs ≡ 0 → s ≡ bytes_in s bs
unfolding bytes_in
none_in [] s n = refl
none_in (b ∷ bs) s n = absurd (suc-ne-zero (length bs) n)

-- the bytes, when q is what 64 shifts make of them at the top of a word
pub few_bytes : (bs : List ℕ) (s y w q : ℕ) → ((j : ℕ) → get_or bs j 0 < 256) → length bs < 8 → y ≡ s → w ≡ le bs
    → q ≡ shifts 64 (bit_xor y w * 2 ^ (64 - length bs * 8) % 2 ^ 64)
    → bit_xor (y / 2 ^ (length bs * 8)) q ≡ bytes_in s bs
few_bytes bs s y w q small l ey ew eq =
    let b = length bs * 8 in
    let bytes = all_bytes bs small in
    let e : 64 - b + b ≡ 64 = omega arith in
    let room : w < 2 ^ b = rw ew (number_lt (length bs) bs bytes (omega arith)) in
    ap (bit_xor (y / 2 ^ b)) eq ∙ by_top (64 - b) b (bit_xor y w) y w e refl room
    ∙ ap (shifts b) (ap₂ bit_xor ey ew) ∙ sym (bytes-number bs s bytes)
