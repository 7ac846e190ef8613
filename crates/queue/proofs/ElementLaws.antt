-- What the workers on an element's bytes go by. Assumes nothing.
use mathlib.Core.Path.{◌≡◌, ◌∙◌}
use mathlib.Core.List.{List, ◌++◌}
use Prim.Native.Nat.{ℕ, ◌-◌, ◌≤◌, ◌<◌}
use native.Mathlib.Omega.{arith}
use borrow.Author.Tests.{le-leb}
use lib.ListN.{length, drop}
use Rattle.refusal.proofs.Laws.{pass}
use Rattle.wire.specs.Wire.{put_at}
use Rattle.wire.proofs.Stores.{put_at_mid}
use Rattle.ring.specs.Ring.{ring_read, parts_of, ring_parts, front_bytes, wrapped_bytes}
use Rattle.ring.proofs.Places.{ring_there}
use Rattle.ring.proofs.Segments.{split_joins}
use Rattle.std.specs.Prelude.{Ok}

-- the two parts of an interval that fits the ring are its bytes
pub parts_joined : (img : List ℕ) (file p n : ℕ) → 8192 < file → file ≤ length img → n ≤ file - 8192
    → front_bytes img (ring_parts 8192 (length img) file p n) ++ wrapped_bytes 8192 img (ring_parts 8192 (length img) file p n)
    ≡ ring_read 8192 (file - 8192) img p n
parts_joined img file p n h l s =
    let e : ring_parts 8192 (length img) file p n ≡ Ok (parts_of 8192 (file - 8192) p n) =
    pass _ _ _ (ring_there 8192 (length img) file h l) ∙ pass _ _ _ (le-leb n (file - 8192) s) in
    rw e (split_joins 8192 img file p n _ e)

-- bytes that take the place of an output's first are stored at its front
pub put_front : (out src : List ℕ) (n : ℕ) → length src ≡ n → n ≤ length out → src ++ drop n out ≡ put_at out 0 src
put_front out src n e h = rw (← e) (put_at_mid out 0 src (omega (arith, e, h)))
