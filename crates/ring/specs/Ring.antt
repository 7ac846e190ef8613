-- The ring of bytes that lies in an image from `start` on: of a ring of `size` bytes the place p is the image's byte start + p mod
-- size. Places are not bounded: one that passes the ring's end goes on at its start.
-- Assumes nothing.
use Rattle.std.specs.Prelude.{ℕ, zero, suc, ◌+◌, ◌-◌, ◌%◌, ◌^◌, min, Bool, ◌&&◌, List, [], ◌∷◌, get_or, set, take, drop, replicate, ltb, leb, Result, Ok, Err}
use Rattle.refusal.specs.declared.Refusal.TheVariants.{Overflow, Unsound}
use Rattle.refusal.specs.Demand.{demand}
use Rattle.refusal.specs.declared.Refusal.{Refusal}
use Rattle.wire.specs.Wire.{bytes_at, put_at}
use Rattle.ring.specs.declared.parts.Parts.{Parts}

-- ---- its bytes

-- where the place p lies in the image
abbrev pub phys_pos : ℕ → ℕ → ℕ → ℕ
phys_pos start size p = start + p % size

-- the n bytes of the ring from the place p on
unfoldable pub ring_read : ℕ → ℕ → List ℕ → ℕ → ℕ → List ℕ
ring_read start size img p zero = []
ring_read start size img p (suc n) = get_or img (phys_pos start size p) 0 ∷ ring_read start size img (suc p) n

-- the image once the bytes s are stored in the ring from the place p on, one after the other
unfoldable pub ring_write : ℕ → ℕ → List ℕ → ℕ → List ℕ → List ℕ
ring_write start size img p [] = img
ring_write start size img p (b ∷ s) = ring_write start size (set img (phys_pos start size p) b) (suc p) s

-- the image once n zeros are stored so
abbrev pub ring_erase : ℕ → ℕ → List ℕ → ℕ → ℕ → List ℕ
ring_erase start size img p n = ring_write start size img p (replicate n 0)

-- the image once its c bytes from `start` on are copied to `old`
abbrev pub relocated : ℕ → List ℕ → ℕ → ℕ → List ℕ
relocated start img old c = put_at img old (bytes_at c img start)

-- ---- which calls are answered

-- there is a ring, and the image holds the file that it ends with
unfoldable pub has_ring : ℕ → ℕ → ℕ → Bool
has_ring start len file = ltb start file && leb file len

-- what a read, a write or an erasure answers, in an image of len bytes
abbrev pub judge_ring : ℕ → ℕ → ℕ → Result (Unit {0}) Refusal
judge_ring start len file = demand (has_ring start len file) (Err Unsound) (Ok tt)

-- what a relocation of c bytes answers: they lie before `old`, and the image has room for them there
abbrev pub judge_relocation : ℕ → ℕ → ℕ → ℕ → Result (Unit {0}) Refusal
judge_relocation start len old c =
    demand (leb (start + c) old) (Err Unsound)
    (demand (leb (old + c) len) (Err Unsound)
    (Ok tt))

-- ---- places

-- the place that is d past p
abbrev pub ring_add : ℕ → ℕ → ℕ → ℕ
ring_add size p d = (p + d) % size

-- how many places q is past p
abbrev pub ring_distance : ℕ → ℕ → ℕ → ℕ
ring_distance size p q = (q + (size - p % size)) % size

-- the two as calls answer them, on an image of len bytes: a sum has to fit a u64, a distance is between places of the ring
abbrev pub add_places : ℕ → ℕ → ℕ → ℕ → ℕ → Result ℕ Refusal
add_places start len file p d =
    demand (has_ring start len file) (Err Unsound)
    (demand (leb (p + d) (2 ^ 64 - 1)) (Err Overflow)
    (Ok (ring_add (file - start) p d)))

abbrev pub distance_of_places : ℕ → ℕ → ℕ → ℕ → ℕ → Result ℕ Refusal
distance_of_places start len file p q =
    demand (has_ring start len file) (Err Unsound)
    (demand (ltb p (file - start)) (Err Unsound)
    (demand (ltb q (file - start)) (Err Unsound)
    (Ok (ring_distance (file - start) p q))))

-- ---- the parts of an interval that is no longer than the ring

-- of n places from p on, those before the ring's end, and those that go on at its start
abbrev pub front_len : ℕ → ℕ → ℕ → ℕ
front_len size p n = min n (size - p % size)

abbrev pub wrapped_len : ℕ → ℕ → ℕ → ℕ
wrapped_len size p n = n - front_len size p n

-- where they lie in the image: the first from this offset on, the second from the ring's start on
abbrev pub parts_of : ℕ → ℕ → ℕ → ℕ → Parts
parts_of start size p n =
    record { offset = phys_pos start size p; front_len = front_len size p n; wrapped_len = wrapped_len size p n }

abbrev pub ring_parts : ℕ → ℕ → ℕ → ℕ → ℕ → Result Parts Refusal
ring_parts start len file p n =
    demand (has_ring start len file) (Err Unsound)
    (demand (leb n (file - start)) (Err Unsound)
    (Ok (parts_of start (file - start) p n)))

-- the bytes of each part; none where the parts are refused
abbrev pub front_bytes : List ℕ → Result Parts Refusal → List ℕ
front_bytes img (Ok p) = take p.front_len (drop p.offset img)
front_bytes img (Err r) = []

abbrev pub wrapped_bytes : ℕ → List ℕ → Result Parts Refusal → List ℕ
wrapped_bytes start img (Ok p) = take p.wrapped_len (drop start img)
wrapped_bytes start img (Err r) = []
