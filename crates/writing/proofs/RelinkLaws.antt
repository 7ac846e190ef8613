-- The walk that changes backlinks: one step of it, as the code counts it, and that the image stays as long as it was. Assumes nothing.
use mathlib.Core.Path.{◌≡◌, refl, sym, ◌∙◌}
use mathlib.Core.List.{List}
use Prim.Native.Nat.{ℕ, zero, suc, ◌+◌, ◌-◌, ◌≤◌, ◌<◌}
use native.Mathlib.Omega.{arith}
use lib.ListN.{length}
use Rattle.ring.proofs.Writing.{length_write}
use Rattle.format.specs.Element.{stored_header}
use Rattle.format.specs.declared.element.V2ElementHeader.{V2ElementHeader}
use Rattle.queue.specs.Element.{capacity, header_at, read_header}
use Rattle.queue.proofs.Headers.{header_read}
use Rattle.queue.proofs.Steps.{one_less}
use Rattle.writing.specs.Expansion.{names_moved, relinked_header, relink_step, relink_from}
use Rattle.writing.proofs.Choices.{either}
use Rattle.std.specs.Prelude.{Result, Ok, Err}
use Rattle.refusal.specs.declared.Refusal.{Refusal}

-- ---- the walk

-- a header that was read, in an image that is as long as one with a ring was, is the header there
pub header_there : (img : List ℕ) (file p len : ℕ) (d e : Result V2ElementHeader Refusal) → 8192 < file → file ≤ len → length img ≡ len →
    d ≡ read_header img file p → d ≡ e → header_at img file p ≡ e
header_there img file p len d e h l s r g = sym (header_read img file p h (omega (arith, l, s))) ∙ sym r ∙ g

-- what is left at step i, of n, is one step and what is left at i + 1
pub relink_unroll : (file old end n i : ℕ) (img : List ℕ) (p : ℕ) → i < n →
    relink_from file old end (n - i) img p ≡ relink_step file old end img p (header_at img file p) (relink_from file old end (n - (i + 1)))
unfolding relink_from
relink_unroll file old end n i img p h = rw (one_less n i h)

-- ---- lengths

pub length-relinked : (file old end : ℕ) (img : List ℕ) (p : ℕ) (h : V2ElementHeader) → length (relinked_header file old end img p h) ≡ length img
unfolding relinked_header
length-relinked file old end img p h =
    let s : List ℕ = stored_header h.seq (h.prev_pos + (old - 8192)) h.payload_len in
    either (λ (l : List ℕ). length l ≡ length img) (names_moved end h.prev_pos) _ _ (λ _. length_write 8192 (capacity file) img p s) refl

length_step : (file old end : ℕ) (img : List ℕ) (p : ℕ) (d : Result V2ElementHeader Refusal) (rest : List ℕ → ℕ → List ℕ) →
    ((i : List ℕ) (q : ℕ) → length (rest i q) ≡ length i) → length (relink_step file old end img p d rest) ≡ length img
length_step file old end img p (Err r) rest k = refl
length_step file old end img p (Ok h) rest k = k _ _ ∙ length-relinked file old end img p h

pub length_relink : (file old end n : ℕ) (img : List ℕ) (p : ℕ) → length (relink_from file old end n img p) ≡ length img
unfolding relink_from
length_relink file old end zero img p = refl
length_relink file old end (suc n) img p =
    length_step file old end img p (header_at img file p) (relink_from file old end n) (length_relink file old end n)
