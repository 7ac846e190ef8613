-- No second answer fits: what a public function promises leaves one answer at most, and one content at most of the bytes that it is
-- lent to write. Each library has a module below, in which each of its public functions has a line, by the function's own name, with
-- the equations of its `ensures` word for word: r stands for `result`, s for `s.now` or `s.old`, the bytes at the start, and s' for
-- `s.new`, the bytes at the end. Of a part of the image that is handed back, r is the bytes. A reader holds the image by reference: there
-- x stands for `x.entry`, the reader or the reference as it was passed. A clause that is no equation only adds, and is left out.
--
-- Two checks fit together here: `.ci/contracts` holds each promise to such equations, and each line to its promise; the proofs show
-- that the equations leave one answer. That there is one at all is what each function's own proof shows. Assumes nothing.
use Rattle.std.specs.Prelude.{ℕ, ◌≡◌, List}
pub mod Refusal
pub mod Wire
pub mod Crc
pub mod Script
pub mod Header
pub mod Format
pub mod Ring
pub mod Queue
pub mod Writing
pub mod Exports

abbrev pub NoSecond : {A : Type 0} → (A → Type 0) → Type 0
NoSecond {A = A} P = (a b : A) → P a → P b → a ≡ b

-- the same of an answer and the bytes beside it
abbrev pub NoSecondPair : {A : Type 0} → (A → List ℕ → Type 0) → Type 0
NoSecondPair {A = A} P = (r r' : A) (s s' : List ℕ) → P r s → P r' s' → ◌≡◌ {A = A × List ℕ} (r, s) (r', s')

-- what an `impl` of `Number` in the crate `wire` tells of a type: the number that a value is, and back
pub record Numbers (A : Type 0) : Type 0 where
  pub value : A → ℕ
  pub with_value : ℕ → A
