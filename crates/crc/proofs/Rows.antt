-- The table as a list that antt computes, and its rule. The table of the source is this list: antt compares the two.
-- With it, shifts of a number are a look_up for each four bits. Assumes nothing.
use mathlib.Core.Path.{◌≡◌, sym, ap, ap₂, ◌∙◌}
use mathlib.Core.List.{List, [], ◌∷◌}
use Prim.Native.Nat.{ℕ, zero, suc, ◌+◌, ◌*◌, ◌/◌, ◌%◌, ◌^◌, ◌<◌}
use native.Mathlib.Nat.{zero-add, suc-add, add-suc, add-zero, le_of_suc-le-suc, not-suc-le-zero, le_refl, div-eq_of_lt}
use native.Mathlib.Omega.{arith}
use lib.ListN.{length, get_or}
use lib.Pow.{shr-shr}
use lib.Bits.{bit_xor}
use Rattle.crc.specs.Crc.{shifts}
use Rattle.crc.specs.Table.{Rows, Filled}
use Rattle.crc.proofs.Linear.{parts, shifts_xor, shifts_more, shifts-parts}

-- f at the n numbers from i on
unfoldable pub tab : (ℕ → ℕ) → ℕ → ℕ → List ℕ
tab f zero i = []
tab f (suc n) i = f i ∷ tab f n (suc i)

tab-at : (f : ℕ → ℕ) (n i k : ℕ) → k < length (tab f n i) → get_or (tab f n i) k 0 ≡ f (i + k)
unfolding tab
tab-at f zero i k h = absurd (not-suc-le-zero h)
tab-at f (suc n) i zero h = ap f (sym (add-zero i))
tab-at f (suc n) i (suc k) h = tab-at f n (suc i) k (le_of_suc-le-suc h) ∙ ap f (suc-add i k ∙ sym (add-suc i k))

-- what stands at i
abbrev pub entry : ℕ → ℕ
entry i = shifts (suc (i / 16) * 4) (i % 16)

rows : (n : ℕ) → Rows (tab entry n 0)
rows n j k hk h =
    tab-at entry n 0 (j * 16 + k) h ∙ ap entry (zero-add (j * 16 + k))
    ∙ ap₂ (λ (q r : ℕ). shifts (suc q * 4) r) (omega arith) (omega arith)

pub filled : Filled (tab entry 256 0)
unfolding tab
filled = (rows 256, le_refl 256)

-- four bits more of x: q is looked up for the low four of those above the n low bits
pub look_up : (j n x r q : ℕ) → r ≡ shifts (j * 4) (x / 2 ^ (n + 4)) → q ≡ shifts (suc j * 4) (x / 2 ^ n % 16)
    → bit_xor r q ≡ shifts (suc j * 4) (x / 2 ^ n)
look_up j n x r q i p =
    ap₂ bit_xor (i ∙ ap (shifts (j * 4)) (sym (shr-shr x n 4))) (p ∙ shifts_more 4 j (x / 2 ^ n % 16))
    ∙ sym
    (shifts_more 4 j (x / 2 ^ n)
    ∙ ap (shifts (j * 4)) (ap (shifts 4) (sym (parts 4 (x / 2 ^ n))) ∙ shifts-parts 4 (x / 2 ^ n / 16) (x / 2 ^ n % 16))
    ∙ shifts_xor (j * 4) (x / 2 ^ n / 16) (shifts 4 (x / 2 ^ n % 16)))

-- no bit of x yet
pub none_yet : (x : ℕ) → x < 2 ^ 64 → 0 ≡ shifts 0 (x / 2 ^ 64)
unfolding shifts
none_yet x h = sym (div-eq_of_lt h)
