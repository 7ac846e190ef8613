-- The long division gives a remainder, and there is no other. Assumes nothing.
use Prim.Native.Nat.{ℕ, zero, suc, ◌+◌}
use mathlib.Core.Path.{◌≡◌, refl, sym, ap, ap₂, ◌∙◌}
use mathlib.Core.Bool.{Bool, true, false}
use mathlib.Core.List.{[], ◌∷◌, ◌++◌, append_assoc, append-nil}
use native.Mathlib.Nat.{suc_inj, suc-ne-zero, add_comm, suc-add}
use lib.ListN.{length, drop, replicate, length-append, length-replicate}
use Rattle.vfortytwo.specs.V42.{Poly, mod2, sum, generator, less, bring_down, divide, remainder}
use Rattle.vfortytwo.specs.Division.{once, times_g, RemainderIsLeft, NothingElseIsLeft}
use Rattle.vfortytwo.proofs.V42.{length-sum, brought, length-bring_down, length-divide}

-- ---- sums

mod2_assoc : (a b c : Bool) → mod2 (mod2 a b) c ≡ mod2 a (mod2 b c)
mod2_assoc false b c = refl
mod2_assoc true false c = refl
mod2_assoc true true false = refl
mod2_assoc true true true = refl

mod2-twice : (a b : Bool) → mod2 a (mod2 a b) ≡ b
mod2-twice false b = refl
mod2-twice true false = refl
mod2-twice true true = refl

mod2_false : (a : Bool) → mod2 a false ≡ a
mod2_false false = refl
mod2_false true = refl

sum_assoc : (p q r : Poly) → sum (sum p q) r ≡ sum p (sum q r)
unfolding sum
sum_assoc [] q r = refl
sum_assoc (a ∷ p) [] r = refl
sum_assoc (a ∷ p) (b ∷ q) [] = refl
sum_assoc (a ∷ p) (b ∷ q) (c ∷ r) = ap₂ {C = Poly} (λ x l. x ∷ l) (mod2_assoc a b c) (sum_assoc p q r)

-- adding the same again takes it away
sum_twice : (p q : Poly) → length p ≡ length q → sum p (sum p q) ≡ q
unfolding sum
sum_twice [] [] e = refl
sum_twice [] (b ∷ q) e = absurd (suc-ne-zero (length q) (sym e))
sum_twice (a ∷ p) [] e = absurd (suc-ne-zero (length p) e)
sum_twice (a ∷ p) (b ∷ q) e = ap₂ {C = Poly} (λ x l. x ∷ l) (mod2-twice a b) (sum_twice p q (suc_inj e))

sum_zeros : (n : ℕ) (p : Poly) → length p ≡ n → sum (replicate n false) p ≡ p
unfolding sum
sum_zeros zero [] e = refl
sum_zeros (suc n) [] e = refl
sum_zeros zero (b ∷ p) e = absurd (suc-ne-zero (length p) e)
sum_zeros (suc n) (b ∷ p) e = ap {B = Poly} (λ l. b ∷ l) (sum_zeros n p (suc_inj e))

sum-append : (p q r s : Poly) → length p ≡ length r → sum (p ++ q) (r ++ s) ≡ sum p r ++ sum q s
unfolding sum
sum-append [] q [] s e = refl
sum-append [] q (c ∷ r) s e = absurd (suc-ne-zero (length r) (sym e))
sum-append (a ∷ p) q [] s e = absurd (suc-ne-zero (length p) e)
sum-append (a ∷ p) q (c ∷ r) s e = ap {B = Poly} (λ l. mod2 a c ∷ l) (sum-append p q r s (suc_inj e))

-- ---- products

-- a coefficient times what the generator has below x^32
rest : Bool → Poly
rest b = drop 1 (once b)

once_rest : (b : Bool) → once b ≡ b ∷ rest b
unfolding generator rest
once_rest false = refl
once_rest true = refl

length_rest : (b : Bool) → length (rest b) ≡ 32
unfolding generator rest
length_rest false = refl
length_rest true = refl

length-zeros : (n : ℕ) → length (replicate n false) ≡ n
length-zeros n = length-replicate n false

length_upper : (b : Bool) (n : ℕ) → length (rest b ++ replicate n false) ≡ n + 32
length_upper b n = length-append (rest b) (replicate n false) ∙ ap₂ (λ (x y : ℕ). x + y) (length_rest b) (length-zeros n) ∙ add_comm 32 n

length-times_g : (q : Poly) → length (times_g q) ≡ length q + 32
unfolding times_g sum
length-times_g [] = refl
length-times_g (b ∷ q) =
    ap (λ (l : Poly). length (sum (l ++ replicate (length q) false) (false ∷ times_g q))) (once_rest b)
    ∙ ap suc
    (length-sum (rest b ++ replicate (length q) false) (times_g q) (length_upper b (length q) ∙ sym (length-times_g q))
    ∙ length_upper b (length q))
    ∙ sym (suc-add (length q) 32)

sum_comm : (p q : Poly) → sum p q ≡ sum q p
unfolding sum
sum_comm [] [] = refl
sum_comm [] (b ∷ q) = refl
sum_comm (a ∷ p) [] = refl
sum_comm (a ∷ p) (b ∷ q) = ap₂ {C = Poly} (λ x l. x ∷ l) (mod2_comm a b) (sum_comm p q)
  where
    mod2_comm : (a b : Bool) → mod2 a b ≡ mod2 b a
    mod2_comm false false = refl
    mod2_comm false true = refl
    mod2_comm true false = refl
    mod2_comm true true = refl

-- a product by its quotient's highest coefficient: that coefficient is the highest of the product
peel : (b : Bool) (q l : Poly) → sum (times_g (b ∷ q)) (false ∷ l) ≡ b ∷ sum (rest b ++ replicate (length q) false) (sum (times_g q) l)
unfolding times_g sum
peel b q l =
    ap (λ (g : Poly). sum (sum (g ++ replicate (length q) false) (false ∷ times_g q)) (false ∷ l)) (once_rest b)
    ∙ ap₂ {C = Poly} (λ x l. x ∷ l) (mod2_false (mod2 b false) ∙ mod2_false b)
    (sum_assoc (rest b ++ replicate (length q) false) (times_g q) l)

-- ---- what the long division leaves

-- a step's coefficient of the quotient is the highest of what is left
abbrev top : Poly → Bool
top [] = false
top (c ∷ t) = c

unfoldable quotient : Poly → Poly → Poly
quotient r [] = []
quotient r (b ∷ p) = top r ∷ quotient (bring_down r b) p

length-quotient : (r p : Poly) → length (quotient r p) ≡ length p
unfolding quotient
length-quotient r [] = refl
length-quotient r (b ∷ p) = ap suc (length-quotient (bring_down r b) p)

-- what a step takes off, put back
step : (c : Bool) (t : Poly) (b : Bool) → length (c ∷ t) ≡ 32 → sum (rest c) (bring_down (c ∷ t) b) ≡ t ++ (b ∷ [])
unfolding bring_down less sum rest generator
step false t b e = sum_zeros 32 (t ++ (b ∷ [])) (suc_inj (brought (false ∷ t) b e))
step true t b e =
    ap (sum (drop 1 generator)) (sum_comm (t ++ (b ∷ [])) (drop 1 generator))
    ∙ sum_twice (drop 1 generator) (t ++ (b ∷ [])) (sym (suc_inj (brought (true ∷ t) b e)))

-- from what is left so far: the product and the remainder make up what is left and what is still to bring down
goes_on_lem : (r p : Poly) → length r ≡ 32
    → sum (times_g (quotient r p)) (replicate (length (quotient r p)) false ++ divide r p) ≡ r ++ p
unfolding quotient divide times_g
goes_on_lem r [] e = sum_zeros 32 r e ∙ sym (append-nil r)
goes_on_lem [] (b ∷ p) e = absurd (suc-ne-zero 31 (sym e))
goes_on_lem (c ∷ t) (b ∷ p) e =
    let r' = bring_down (c ∷ t) b in
    let q = quotient r' p in
    let e' = length-bring_down (c ∷ t) b e in
    peel c q (replicate (length q) false ++ divide r' p)
    ∙ ap {B = Poly} (λ l. c ∷ l)
    (ap (sum (rest c ++ replicate (length q) false)) (goes_on_lem r' p e')
    ∙ sum-append (rest c) (replicate (length q) false) r' p (length_rest c ∙ sym e')
    ∙ ap₂ {C = Poly} (λ x y. x ++ y) (step c t b e) (sum_zeros (length q) p (sym (length-quotient r' p)))
    ∙ append_assoc t (b ∷ []) p)

pub remainder_is_left : RemainderIsLeft
unfolding remainder
remainder_is_left p =
    record {
      quotient = quotient (replicate 32 false) p;
      long = length-quotient (replicate 32 false) p;
      below = length-divide (replicate 32 false) p refl;
      whole = goes_on_lem (replicate 32 false) p refl;
    }

-- ---- nothing else is left

cancel : (x s s' : Poly) → length x ≡ length s → length x ≡ length s' → sum x s ≡ sum x s' → s ≡ s'
cancel x s s' e e' h = sym (sum_twice x s e) ∙ ap (sum x) h ∙ sum_twice x s' e'

length_side : (q r : Poly) → length r ≡ 32 → length (sum (times_g q) (replicate (length q) false ++ r)) ≡ length q + 32
length_side q r e =
    length-sum (times_g q) (replicate (length q) false ++ r)
    (length-times_g q ∙ sym (length-append (replicate (length q) false) r ∙ ap₂ (λ (x y : ℕ). x + y) (length-zeros (length q)) e))
    ∙ length-times_g q

-- two sides that are equal have equal remainders: their highest coefficients agree, and go
same : (q q' r r' : Poly) → length q ≡ length q' → length r ≡ 32 → length r' ≡ 32
    → sum (times_g q) (replicate (length q) false ++ r) ≡ sum (times_g q') (replicate (length q') false ++ r') → r ≡ r'
unfolding times_g
same [] [] r r' n e e' h = cancel (replicate 32 false) r r' (sym e) (sym e') h
same [] (b ∷ q') r r' n e e' h = absurd (suc-ne-zero (length q') (sym n))
same (b ∷ q) [] r r' n e e' h = absurd (suc-ne-zero (length q) n)
same (b ∷ q) (b' ∷ q') r r' n e e' h =
    let s = sum (times_g q) (replicate (length q) false ++ r) in
    let s' = sum (times_g q') (replicate (length q') false ++ r') in
    let x = rest b ++ replicate (length q) false in
    let x' = rest b' ++ replicate (length q') false in
    let k = sym (peel b q (replicate (length q) false ++ r)) ∙ h ∙ peel b' q' (replicate (length q') false ++ r') in
    let xs : x ≡ x' = ap₂ {C = Poly} (λ c i. rest c ++ replicate i false) (ap top k) (suc_inj n) in
    same q q' r r' (suc_inj n) e e'
    (cancel x s s' (length_upper b (length q) ∙ sym (length_side q r e))
    (length_upper b (length q) ∙ sym (length_side q' r' e' ∙ ap (λ (i : ℕ). i + 32) (sym (suc_inj n))))
    (ap (drop 1) k ∙ ap (λ (l : Poly). sum l s') (sym xs)))

pub nothing_else_is_left : NothingElseIsLeft
nothing_else_is_left p r d =
    let e = remainder_is_left p in
    same d.quotient e.quotient r (remainder p) (d.long ∙ sym e.long) d.below e.below (d.whole ∙ sym e.whole)
