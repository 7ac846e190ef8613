-- The laws of places: when two places of the ring are the same, when they are not, and what a distance is. Assumes nothing.
use mathlib.Core.Path.{◌≡◌, sym, ap, ◌∙◌}
use mathlib.Core.Logic.{◌≢◌}
use Prim.Native.Nat.{ℕ, suc, ◌+◌, ◌-◌, ◌%◌, ◌≤◌, ◌<◌}
use native.Mathlib.Nat.{mod-lt, mod-eq_of_lt, mod-eq-sub-mod, mod-add-mod, add-mod_right, add-mod-mod, suc-mod}
use native.Mathlib.Omega.{arith}
use native.Mathlib.Decide.{dec_le}
use mathlib.Core.Bool.{Bool, true, and-eq-true_iff}
use lib.Dec.{ltb, leb}
use borrow.Author.Tests.{ltb-true, leb-true, lt-ltb, le-leb}
use Rattle.ring.specs.Ring.{has_ring, ring_distance}

-- ---- which rings there are

-- there is a ring just where the file reaches past the ring's start and no further than the image
pub ring_there : (start len file : ℕ) → start < file → file ≤ len → has_ring start len file ≡ true
unfolding has_ring
ring_there start len file h l = rw (lt-ltb start file h, le-leb file len l)

pub there_ring : (start len file : ℕ) → has_ring start len file ≡ true → (start < file) × (file ≤ len)
unfolding has_ring
there_ring start len file e =
    let b = (and-eq-true_iff (ltb start file) (leb file len)).0 e in
    (ltb-true start file b.0, leb-true file len b.1)

-- the same, of the answer of `has_ring` where it is not refused
pub ring_known : (start len file : ℕ) (t : Bool) → t ≡ has_ring start len file → t ≡ true → (start < file) × (file ≤ len)
ring_known start len file t e y = there_ring start len file (sym e ∙ y)

-- ---- when places are the same

-- two places that are the same in the ring stay so, each one further, and each n further
pub suc_same : (size p q : ℕ) → p % size ≡ q % size → suc p % size ≡ suc q % size
suc_same size p q e = suc-mod p size ∙ ap (λ (x : ℕ). suc x % size) e ∙ sym (suc-mod q size)

pub add_same : (size p q n : ℕ) → p % size ≡ q % size → (p + n) % size ≡ (q + n) % size
add_same size p q n e = sym (mod-add-mod p size n) ∙ ap (λ (x : ℕ). (x + n) % size) e ∙ mod-add-mod q size n

-- a number within one turn, and one within the next
pub turn_low : (size x : ℕ) → x < size → x % size ≡ x
turn_low size x h = mod-eq_of_lt h

pub turn_high : (size x : ℕ) → size ≤ x → x < size + size → x % size ≡ x - size
turn_high size x h l = mod-eq-sub-mod h ∙ mod-eq_of_lt {n = x - size} {m = size} (omega arith)

-- d places further, less than a turn, is another place
pub far : (size a d : ℕ) → 0 < d → d < size → (a + d) % size ≢ a % size
far size a d h l e = go (dec_le size (a % size + d))
  where
    r : a % size < size
    r = mod-lt a (omega arith)

    go : Dec (size ≤ a % size + d) → ⊥
    go (no n) = omega (arith, n, e, mod-add-mod a size d, mod-eq_of_lt {n = a % size + d} {m = size} (omega (arith, n)))
    go (yes y) =
        omega (arith, r, e, mod-add-mod a size d, mod-eq-sub-mod y, mod-eq_of_lt {n = a % size + d - size} {m = size} (omega (arith, r)))

-- two intervals are apart where the second starts d places past the first, all of the first lies before that, and all of the second
-- within one turn: no place of one is a place of the other
pub apart : (size p q d n m i j : ℕ) → q % size ≡ (p + d) % size → n ≤ d → d + m ≤ size → i < n → j < m → (p + i) % size ≢ (q + j) % size
apart size p q d n m i j e h l a b x =
    let t : p + i + (d + j - i) ≡ p + d + j = omega arith in
    far size (p + i) (d + j - i) (omega arith) (omega arith)
    (ap (λ (y : ℕ). y % size) t ∙ sym (add_same size q (p + d) j e) ∙ sym x)

-- where q is d places past p, p is a turn less d past q
pub around : (size p q d : ℕ) → d ≤ size → q % size ≡ (p + d) % size → p % size ≡ (q + (size - d)) % size
around size p q d h e =
    let t : p + d + (size - d) ≡ p + size = omega arith in
    sym (add_same size q (p + d) (size - d) e ∙ ap (λ (y : ℕ). y % size) t ∙ add-mod_right p size)

-- a distance is less than a turn, and leads from p to q
pub distance_lt : (size p q : ℕ) → 0 < size → ring_distance size p q < size
distance_lt size p q h = mod-lt _ h

pub distance_there : (size p q : ℕ) → 0 < size → (p + ring_distance size p q) % size ≡ q % size
distance_there size p q h =
    let t : p % size + (q + (size - p % size)) ≡ q + size = omega (arith, mod-lt p h) in
    add-mod-mod p (q + (size - p % size)) size
    ∙ sym (mod-add-mod p size (q + (size - p % size)))
    ∙ ap (λ (x : ℕ). x % size) t
    ∙ add-mod_right q size

-- the two ways to a distance between places of the ring
pub onwards : (size p q : ℕ) → p ≤ q → q < size → ring_distance size p q ≡ q - p
onwards size p q h l = rw (turn_low size p (omega arith)) (turn_high size (q + (size - p)) (omega arith) (omega arith) ∙ omega arith)

pub over_the_end : (size p q : ℕ) → q < p → p < size → ring_distance size p q ≡ size - (p - q)
over_the_end size p q h l = rw (turn_low size p l) (turn_low size (q + (size - p)) (omega arith) ∙ omega arith)
