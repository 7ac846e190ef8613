-- The laws of a choice. Assumes nothing.
use mathlib.Core.Path.{◌≡◌, refl, sym, ap}
use mathlib.Core.Bool.{Bool, true, false, cond}

-- what is chosen, where the test holds and where it does not
pub chosen : {A : Type 0} (b : Bool) (x y : A) → b ≡ true → x ≡ cond b x y
chosen b x y e = sym (ap (λ (t : Bool). cond t x y) e)

pub left_out : {A : Type 0} (b : Bool) (x y : A) → b ≡ false → y ≡ cond b x y
left_out b x y e = sym (ap (λ (t : Bool). cond t x y) e)

-- what holds of both sides holds of what is chosen; the first side may lean on the test
pub either : {A : Type 0} (Q : A → Type 0) (b : Bool) (x y : A) → (b ≡ true → Q x) → Q y → Q (cond b x y)
either Q true x y h k = h refl
either Q false x y h k = k
