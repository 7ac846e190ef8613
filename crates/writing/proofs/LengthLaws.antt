-- How long a file gets: one step of the search for the least number of doublings, as the code counts it, and what is known of the
-- length that it finds. Assumes nothing.
use Rattle.refusal.proofs.Laws.{refused, same_ok, pass, stop, granted}
use mathlib.Core.Path.{◌≡◌, refl, sym, ap, ◌∙◌}
use mathlib.Core.Logic.{◌⊎◌, inl, inr}
use mathlib.Core.Bool.{Bool, true, false, cond}
use Prim.Native.Nat.{ℕ, zero, suc, ◌+◌, ◌-◌, ◌*◌, ◌^◌, ◌≤◌, ◌<◌}
use native.Mathlib.Nat.{mul-zero, mul-one, mul-add, mul-sub, mul_assoc, add-zero, pow-suc, le-mul_of_pos_right}
use native.Mathlib.Omega.{arith}
use lib.Dec.{leb}
use lib.Pow.{pow_pos, pow-add}
use borrow.Author.Tests.{le-leb, lt-leb, leb-true, ltb-true, lt-ltb, le-ltb}
use Rattle.refusal.specs.declared.Refusal.TheVariants.{Overflow}
use Rattle.refusal.specs.declared.Refusal.{Refusal}
use Rattle.queue.proofs.Steps.{one_less}
use Rattle.writing.specs.Length.{enough, doubled, least_from, grow_length}
use Rattle.std.specs.Prelude.{Result, Ok, Err}

-- ---- one more doubling

-- of the length
pub length_next : (len k : ℕ) → len * 2 ^ (k + 1) ≡ len * 2 ^ k * 2
length_next len k = ap (λ (x : ℕ). len * x) (pow-add 2 k 1) ∙ sym (mul_assoc len (2 ^ k) 2)

ones_next : (a b : ℕ) → 0 < a → b ≡ a * 2 → b - 1 ≡ (a - 1) + a
ones_next a b h e = omega (arith, h, e)

-- of the room that it makes
room_next : (len k : ℕ) → len * (2 ^ (k + 1) - 1) ≡ len * (2 ^ k - 1) + len * 2 ^ k
room_next len k =
    ap (λ (x : ℕ). len * x) (ones_next (2 ^ k) (2 ^ (k + 1)) (pow_pos k) (pow-add 2 k 1)) ∙ mul-add len (2 ^ k - 1) (2 ^ k)

less_next : (want rest a b c : ℕ) → c ≡ a + b → want - (rest + a) - b ≡ want - (rest + c)
less_next want rest a b c e = omega (arith, e)

-- and of what is missing
pub missing_next : (len rest want k n m : ℕ) → n ≡ len * 2 ^ k → m ≡ want - (rest + len * (2 ^ k - 1)) →
    m - n ≡ want - (rest + len * (2 ^ (k + 1) - 1))
missing_next len rest want k n m e f =
    rw (e, f) (less_next want rest (len * (2 ^ k - 1)) (len * 2 ^ k) (len * (2 ^ (k + 1) - 1)) (room_next len k))

-- none: the length, and what is missing
pub length_none : (len : ℕ) → len ≡ len * 2 ^ 0
length_none len = sym (mul-one len)

pub missing_none : (len rest want : ℕ) → want - rest ≡ want - (rest + len * (2 ^ 0 - 1))
missing_none len rest want = rw (mul-zero len, add-zero rest)

-- ---- what the code compares

-- nothing is missing just where there is enough
pub none_missing : (want room m : ℕ) → m ≡ want - room → m ≡ 0 → leb want room ≡ true
none_missing want room m e z = le-leb want room (omega (arith, e, z))

pub some_missing : (want room m : ℕ) → m ≡ want - room → (m ≡ 0 → ⊥) → leb want room ≡ false
some_missing want room m e z = lt-leb want room (let y : (want - room ≡ 0) → ⊥ = λ x. z (e ∙ x) in omega (arith, y))

-- a length from 2^63 on is refused, one below it is the answer
pub too_long : (len k n : ℕ) → n ≡ len * 2 ^ k → 2 ^ 63 ≤ n → doubled len k ≡ Err Overflow
too_long len k n e h = stop _ _ _ (le-ltb (len * 2 ^ k) (2 ^ 63) (rw (← e) h))

pub short-enough : (len k n : ℕ) → n ≡ len * 2 ^ k → n < 2 ^ 63 → doubled len k ≡ Ok n
short-enough len k n e h = pass _ _ _ (lt-ltb (len * 2 ^ k) (2 ^ 63) (rw (← e) h)) ∙ ap Ok (sym e)

-- ---- the search: what is left at step i, of n

least_unroll : (n i len rest want : ℕ) → i < n →
    least_from (n - i) len rest want i ≡ cond (enough len rest want i) (doubled len i) (least_from (n - (i + 1)) len rest want (i + 1))
unfolding least_from
least_unroll n i len rest want h = rw (one_less n i h)

-- where i doublings are enough, their length
pub least_here : (n i len rest want : ℕ) → i < n → enough len rest want i ≡ true → least_from (n - i) len rest want i ≡ doubled len i
least_here n i len rest want h e =
    least_unroll n i len rest want h ∙ ap (λ (b : Bool). cond b (doubled len i) (least_from (n - (i + 1)) len rest want (i + 1))) e

-- where they are not, what is left at i + 1
pub least_there : (n i len rest want : ℕ) → i < n → enough len rest want i ≡ false →
    least_from (n - i) len rest want i ≡ least_from (n - (i + 1)) len rest want (i + 1)
least_there n i len rest want h e =
    least_unroll n i len rest want h ∙ ap (λ (b : Bool). cond b (doubled len i) (least_from (n - (i + 1)) len rest want (i + 1))) e

both_refused : (b : Bool) (x y : Result ℕ Refusal) → x ≡ Err Overflow → y ≡ Err Overflow → cond b x y ≡ Err Overflow
both_refused true x y e f = e
both_refused false x y e f = f

-- from a length of 2^63 on every answer is a refusal
pub least_overflow : (left len rest want k : ℕ) → 2 ^ 63 ≤ len * 2 ^ k → least_from left len rest want k ≡ Err Overflow
unfolding least_from
least_overflow zero len rest want k h = refl
least_overflow (suc left) len rest want k h =
    both_refused (enough len rest want k) (doubled len k) (least_from left len rest want (k + 1))
    (too_long len k (len * 2 ^ k) refl h)
    (least_overflow left len rest want (k + 1) (rw (length_next len k) (omega (arith, h))))

-- ---- the length that is found

-- while no number of doublings before k is enough, what is left at k
least_left : (len rest want k : ℕ) → k ≤ 63 → ((j : ℕ) → j < k → enough len rest want j ≡ false) →
    grow_length len rest want ≡ least_from (63 - k) len rest want k
unfolding grow_length
least_left len rest want zero h f = refl
least_left len rest want (suc k) h f =
    least_left len rest want k (omega (arith, h)) (λ j l. f j (omega (arith, l)))
    ∙ least_there 63 k len rest want (omega (arith, h)) (f k (omega arith))
    ∙ ap (λ (i : ℕ). least_from (63 - i) len rest want i) (let e : k + 1 ≡ suc k = omega arith in e)

-- it is the length after the least number of doublings that is enough
pub least_length : (len rest want k : ℕ) → k < 63 → ((j : ℕ) → j < k → enough len rest want j ≡ false) → enough len rest want k ≡ true →
    grow_length len rest want ≡ doubled len k
least_length len rest want k h f e =
    least_left len rest want k (omega (arith, h)) f ∙ least_here 63 k len rest want h e

-- it comes of a number of doublings, which makes room
record Found (len rest want n : ℕ) : Type 0 where
  times : ℕ
  long : n ≡ len * 2 ^ times
  small : n < 2 ^ 63
  room : want ≤ rest + len * (2 ^ times - 1)

found_here : (len rest want k n : ℕ) → enough len rest want k ≡ true → doubled len k ≡ Ok n → Found len rest want n
found_here len rest want k n e d =
    let g = granted _ _ _ _ refused d in
    let s : len * 2 ^ k ≡ n = same_ok (len * 2 ^ k) n g.1 in
    record { times = k; long = sym s; small = rw (← s) (ltb-true (len * 2 ^ k) (2 ^ 63) g.0); room = leb-true _ _ e }

found_step : (b : Bool) (len rest want k n : ℕ) (next : Result ℕ Refusal) → enough len rest want k ≡ b → (next ≡ Ok n → Found len rest want n) →
    cond b (doubled len k) next ≡ Ok n → Found len rest want n
found_step true len rest want k n next e f d = found_here len rest want k n e d
found_step false len rest want k n next e f d = f d

found : (left len rest want k n : ℕ) → least_from left len rest want k ≡ Ok n → Found len rest want n
unfolding least_from
found zero len rest want k n e = absurd (refused e)
found (suc left) len rest want k n e =
    found_step (enough len rest want k) len rest want k n (least_from left len rest want (k + 1)) refl
    (found left len rest want (k + 1) n) e

found_length : (len rest want n : ℕ) → grow_length len rest want ≡ Ok n → Found len rest want n
unfolding grow_length
found_length len rest want n e = found 63 len rest want 0 n e

double : (a b : ℕ) → a ≤ b → 2 * a ≤ b * 2
double a b h = omega (arith, h)

twice : (len t : ℕ) → 2 * len ≤ len * 2 ^ suc t
twice len t =
    let e : len * 2 ^ suc t ≡ len * 2 ^ t * 2 = ap (λ (x : ℕ). len * x) (pow-suc 2 t) ∙ sym (mul_assoc len (2 ^ t) 2) in
    rw e (double len (len * 2 ^ t) (le-mul_of_pos_right len (pow_pos t)))

same_or_twice : (times len n : ℕ) → n ≡ len * 2 ^ times → (n ≡ len) ⊎ (2 * len ≤ n)
same_or_twice zero len n e = inl (e ∙ mul-one len)
same_or_twice (suc t) len n e = inr (rw e (twice len t))

-- it does not pass 2^63 - 1, and is the length that was or at least twice that
pub length_doubles : (len rest want n : ℕ) → grow_length len rest want ≡ Ok n → (n < 2 ^ 63) × ((n ≡ len) ⊎ (2 * len ≤ n))
length_doubles len rest want n e =
    let f = found_length len rest want n e in
    (f.small, same_or_twice f.times len n f.long)

-- where there is room, it is the length that was
pub length_same : (len rest want n : ℕ) → want ≤ rest → grow_length len rest want ≡ Ok n → n ≡ len
length_same len rest want n h e =
    let d : grow_length len rest want ≡ doubled len 0 =
    least_length len rest want 0 (omega arith) (λ j l. absurd (omega (arith, l))) (le-leb want (rest + len * (2 ^ 0 - 1)) (omega (arith, h))) in
    let g = granted _ _ _ _ refused (sym d ∙ e) in
    sym (same_ok (len * 2 ^ 0) n g.1) ∙ mul-one len

twice-at_least : (times len rest want n : ℕ) → n ≡ len * 2 ^ times → want ≤ rest + len * (2 ^ times - 1) → rest < want → 2 * len ≤ n
twice-at_least zero len rest want n e r h = absurd (let z : want ≤ rest = rw (← add-zero rest, ← mul-zero len) r in omega (arith, z, h))
twice-at_least (suc t) len rest want n e r h = rw e (twice len t)

-- where there is not, it is at least twice that
pub length_grows : (len rest want n : ℕ) → grow_length len rest want ≡ Ok n → rest < want → 2 * len ≤ n
length_grows len rest want n e h =
    let f = found_length len rest want n e in
    twice-at_least f.times len rest want n f.long f.room h

added : (len n times : ℕ) → n ≡ len * 2 ^ times → len * (2 ^ times - 1) ≡ n - len
added len n times e = mul-sub len (2 ^ times) 1 ∙ rw (e, mul-one len)

-- what was left and what it adds are enough
pub length_room : (len rest want n : ℕ) → grow_length len rest want ≡ Ok n → want ≤ rest + (n - len)
length_room len rest want n e =
    let f = found_length len rest want n e in
    omega (arith, added len n f.times f.long, f.room)
