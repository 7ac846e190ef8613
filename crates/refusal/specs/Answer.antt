-- What a definition makes of an answer that may be refused. Assumes nothing.
use Rattle.std.specs.Prelude.{ℕ, Result, Ok, Err}
use Rattle.refusal.specs.Table.{number_of}
use Rattle.refusal.specs.declared.Refusal.{Refusal}

-- how an answer goes on: with what was answered, or by `refuse` with the refusal
abbrev pub on_ok : {A B : Type 0} → (Refusal → B) → Result A Refusal → (A → B) → B
on_ok refuse (Ok x) next = next x
on_ok refuse (Err r) next = refuse r

-- the same of an answer that gives nothing
abbrev pub on_verdict : {B : Type 0} → (Refusal → B) → Result (Unit {0}) Refusal → B → B
on_verdict refuse (Ok x) next = next
on_verdict refuse (Err r) next = refuse r

-- and of answers alone: what is refused there is refused here, as `?` has it
infixl 10 ◌>>=◌
abbrev pub ◌>>=◌ : {A B : Type 0} → Result A Refusal → (A → Result B Refusal) → Result B Refusal
answer >>= next = on_ok Err answer next

-- what is there after an answer: what was asked where it is given, and what was there where it is refused
abbrev pub after : {A B : Type 0} → Result A Refusal → B → B → B
after (Ok x) new old = new
after (Err r) new old = old

-- the number of an answer, 0 where nothing is refused
abbrev pub number_or_0 : {A : Type 0} → Result A Refusal → ℕ
number_or_0 (Ok x) = 0
number_or_0 (Err r) = number_of r
