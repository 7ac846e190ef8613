-- `writing::adding::write_element` meets its contract: header, payload and footer are written one behind the other, so as one. Assumes
-- nothing.
use mathlib.Core.Path.{◌≡◌, sym, ap, ◌∙◌}
use mathlib.Core.List.{List, ◌++◌}
use Prim.Native.Nat.{ℕ, ◌+◌, ◌-◌, ◌≤◌, ◌<◌}
use native.Mathlib.Omega.{arith}
use lib.ListN.{length}
use Rattle.refusal.specs.Answer.{after}
use Rattle.ring.specs.Ring.{ring_write, judge_ring}
use Rattle.ring.proofs.Calls.{on_ring, ring_ok}
use Rattle.ring.proofs.Writing.{length_write, write_append}
use Rattle.format.proofs.ElementLaws.{length_stored_header}
use Rattle.writing.proofs.adding.write_element.Goals as goal
use Rattle.std.specs.Prelude.{Result}
use Rattle.refusal.specs.declared.Refusal.{Refusal}

-- what a write leaves, and that there is a ring in it as before
written : (r : Result (Unit {0}) Refusal) (file pos : ℕ) (img buf l : List ℕ) → 8192 < file → file ≤ length img → r ≡ judge_ring 8192 (length img) file
    → l ≡ after r (ring_write 8192 (file - 8192) img pos buf) img
    → (l ≡ ring_write 8192 (file - 8192) img pos buf) × (file ≤ length l)
written r file pos img buf l h k v e =
    let w = on_ring r 8192 (length img) file l (ring_write 8192 (file - 8192) img pos buf) img v e h k in
    (w, omega (arith, k, ap length w, length_write 8192 (file - 8192) img pos buf))

-- three writes one behind the other, the first of them of 28 bytes
joined : (size pos : ℕ) (img header payload footer : List ℕ) → length header ≡ 28
    → ring_write 8192 size (ring_write 8192 size (ring_write 8192 size img pos header) (pos + 28) payload) (pos + 28 + length payload) footer
    ≡ ring_write 8192 size img pos (header ++ (payload ++ footer))
joined size pos img header payload footer e =
    sym
    (write_append 8192 size img pos header (payload ++ footer)
    ∙ write_append 8192 size (ring_write 8192 size img pos header) (pos + length header) payload footer
    ∙ rw e)

pub unwrap-requires : goal.unwrap-requires
unwrap-requires c = ring_ok _ _ _ _ c.write_at.ensures.value c.requires.0 c.requires.1

pub returns : goal.returns
returns c =
    let a = written _ _ _ _ _ _ c.requires.0 c.requires.1 c.write_at.ensures.value c.write_at.ensures.image_after in
    let b = written _ _ _ _ _ _ c.requires.0 a.1 c.write_at-2.ensures.value c.write_at-2.ensures.image_after in
    let d = written _ _ _ _ _ _ c.requires.0 b.1 c.write_at-3.ensures.value c.write_at-3.ensures.image_after in
    let payload = c.args.payload.now in
    rw (d.0, b.0, a.0, c.encode_v2_footer-footer.ensures, c.unwrap_or-header.ensures, c.encode_v2_element_header.ensures)
    (joined (c.args.file_len - 8192) c.args.pos c.args.image.now _ payload _
    (length_stored_header c.args.seq c.args.prev_phys (length payload)))
