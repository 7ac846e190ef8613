-- A register of any width, by words of k bits: those above the low word wait until it has left, and then come down; and n bytes are one number,
-- added at once. Assumes nothing.
use mathlib.Core.Path.{◌≡◌, sym, ap, ◌∙◌}
use mathlib.Core.List.{List, [], ◌∷◌}
use Prim.Native.Nat.{ℕ, ◌+◌, ◌*◌, ◌^◌, ◌<◌}
use native.Mathlib.Nat.{zero-mul}
use lib.ListN.{length}
use lib.Bits.{bit_xor, xor_comm, xor_zero_r, xor_shifted}
use Rattle.crc.specs.Crc.{shifts, byte_in, bytes_in}
use Rattle.crc.specs.Words.{le, above, sum4}
use Rattle.crc.proofs.Linear.{xor_assoc, xor_swap, xor_pairs, up_xor, shifts_more, shifts-parts}

module _ (k : ℕ) where
  pub above_xor : (a h b j : ℕ) → bit_xor (above k a h) (above k b j) ≡ above k (bit_xor a b) (bit_xor h j)
  unfolding above
  above_xor a h b j = xor_pairs a (h * 2 ^ k) b (j * 2 ^ k) ∙ ap (bit_xor (bit_xor a b)) (sym (up_xor k h j))

  pub above-sum4 : (a b c d h j m n : ℕ) → sum4 (above k a h) (above k b j) (above k c m) (above k d n) ≡ above k (sum4 a b c d) (sum4 h j m n)
  above-sum4 a b c d h j m n =
      ap (bit_xor (above k a h)) (ap (bit_xor (above k b j)) (above_xor c m d n) ∙ above_xor b j (bit_xor c d) (bit_xor m n))
      ∙ above_xor a h (bit_xor b (bit_xor c d)) (bit_xor j (bit_xor m n))

  -- w is added to the low bits
  pub above_low : (a h w : ℕ) → bit_xor (above k a h) w ≡ above k (bit_xor a w) h
  unfolding above
  above_low a h w = xor_swap a (h * 2 ^ k) w

  -- nothing above
  pub above_zero : (a : ℕ) → above k a 0 ≡ a
  unfolding above
  above_zero a = ap (λ (y : ℕ). bit_xor a y) (zero-mul (2 ^ k)) ∙ xor_zero_r a

  -- the sum of a number below 2 ^ k and one above it is the number of both
  pub above-number : (a h : ℕ) → a < 2 ^ k → above k a h ≡ h * 2 ^ k + a
  unfolding above
  above-number a h l = xor_comm a (h * 2 ^ k) ∙ xor_shifted h k a l

  -- the low bits leave, and what is above them comes down
  pub shifts-above : (a h : ℕ) → shifts k (above k a h) ≡ bit_xor h (shifts k a)
  unfolding above
  shifts-above a h = ap (shifts k) (xor_comm a (h * 2 ^ k)) ∙ shifts-parts k h a

  -- w goes in where s is the register and v waits for it
  pub word_met : (s v w h : ℕ) → shifts k (bit_xor (bit_xor s (above k v h)) w) ≡ bit_xor (shifts k (bit_xor (bit_xor s v) w)) h
  unfolding above
  word_met s v w h =
      ap (shifts k) (ap (λ (y : ℕ). bit_xor y w) (sym (xor_assoc s v (h * 2 ^ k))) ∙ above_low (bit_xor s v) h w)
      ∙ shifts-above (bit_xor (bit_xor s v) w) h ∙ xor_comm h (shifts k (bit_xor (bit_xor s v) w))

-- each element is a byte
abbrev pub Bytes : List ℕ → Type 0
Bytes [] = Unit
Bytes (b ∷ bs) = (b < 256) × Bytes bs

-- the bytes of a list, as one number
pub bytes-number : (bs : List ℕ) (r : ℕ) → Bytes bs → bytes_in r bs ≡ shifts (length bs * 8) (bit_xor r (le bs))
unfolding bytes_in byte_in shifts
bytes-number [] r h = sym (xor_zero_r r)
bytes-number (b ∷ bs) r h =
    bytes-number bs (shifts 8 (bit_xor r b)) h.1
    ∙ ap (shifts (length bs * 8)) first
    ∙ sym (shifts_more 8 (length bs) (bit_xor r (le (b ∷ bs))))
  where
    first : bit_xor (shifts 8 (bit_xor r b)) (le bs) ≡ shifts 8 (bit_xor r (le bs * 256 + b))
    first =
        xor_comm (shifts 8 (bit_xor r b)) (le bs) ∙ sym (shifts-parts 8 (le bs) (bit_xor r b))
        ∙ ap (shifts 8)
        (xor_comm (le bs * 2 ^ 8) (bit_xor r b) ∙ xor_assoc r b (le bs * 2 ^ 8)
        ∙ ap (bit_xor r) (xor_comm b (le bs * 2 ^ 8) ∙ xor_shifted (le bs) 8 b h.0))
