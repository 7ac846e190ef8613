-- How long a file gets: the least number of doublings that makes room. Assumes nothing.
use Rattle.std.specs.Prelude.{ℕ, zero, suc, ◌+◌, ◌-◌, ◌*◌, ◌^◌, Bool, cond, ltb, leb, Result, Ok, Err}
use Rattle.refusal.specs.declared.Refusal.TheVariants.{Overflow}
use Rattle.refusal.specs.Demand.{demand}
use Rattle.refusal.specs.declared.Refusal.{Refusal}

-- k doublings of `len` bytes, of which `rest` are left, make room for `want`
abbrev pub enough : ℕ → ℕ → ℕ → ℕ → Bool
enough len rest want k = leb want (rest + len * (2 ^ k - 1))

-- the length then, if it does not pass 2^63 - 1
abbrev pub doubled : ℕ → ℕ → Result ℕ Refusal
doubled len k = demand (ltb (len * 2 ^ k) (2 ^ 63)) (Err Overflow) (Ok (len * 2 ^ k))

-- the least of the numbers from k on that is enough, of which so many are tried
unfoldable pub least_from : ℕ → ℕ → ℕ → ℕ → ℕ → Result ℕ Refusal
least_from zero len rest want k = Err Overflow
least_from (suc left) len rest want k = cond (enough len rest want k) (doubled len k) (least_from left len rest want (k + 1))

-- 27 where none is: from 63 doublings on any length passes 2^63 - 1, but 0, which stays
unfoldable pub grow_length : ℕ → ℕ → ℕ → Result ℕ Refusal
grow_length len rest want = least_from 63 len rest want 0
