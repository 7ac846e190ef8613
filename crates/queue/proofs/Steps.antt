-- How the steps of a walk are counted. Assumes nothing.
use mathlib.Core.Path.{◌≡◌}
use Prim.Native.Nat.{ℕ, suc, ◌+◌, ◌-◌, ◌<◌}
use native.Mathlib.Omega.{arith}

-- of n steps, those that are left at step s are that one and those left at the next
pub one_less : (n s : ℕ) → s < n → n - s ≡ suc (n - (s + 1))
one_less n s h = omega arith
