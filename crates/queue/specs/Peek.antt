-- The first element's payload, into an output or in place. Assumes nothing.
use Rattle.std.specs.Prelude.{ℕ, ◌+◌, cond, List, [], length, take, drop, leb, eqb, Result, Ok, Err, Option, Some, None}
use Rattle.refusal.specs.declared.Refusal.TheVariants.{Unsound, OutputTooSmall, CrossesEnd}
use Rattle.refusal.specs.Demand.{demand}
use Rattle.refusal.specs.declared.Refusal.{Refusal}
use Rattle.wire.specs.Wire.{put_at}
use Rattle.ring.specs.Ring.{ring_add}
use Rattle.refusal.specs.Answer.{on_verdict}
use Rattle.queue.specs.Element.{capacity, footer_verdict}
use Rattle.queue.specs.State.{sound}
use Rattle.queue.specs.declared.state.QueueFile.{QueueFile}
use Rattle.queue.specs.declared.peek.Part.{Part}

-- ---- into an output of `room` bytes

-- 28, then empty, then 29
unfoldable pub fit_peek : QueueFile → ℕ → ℕ → Result (Option ℕ) Refusal
fit_peek q len room =
    demand (sound q len) (Err Unsound)
    (cond (eqb q.elem_cnt 0) (Ok None)
    (demand (leb q.first.len room) (Err OutputTooSmall)
    (Ok (Some q.first.len))))

-- then the footer
abbrev pub check_peek : List ℕ → QueueFile → Result (Option ℕ) Refusal → Result (Option ℕ) Refusal
check_peek img q (Err r) = Err r
check_peek img q (Ok None) = Ok None
check_peek img q (Ok (Some n)) = on_verdict Err (footer_verdict img q.file_len q.first) (Ok (Some n))

unfoldable pub judge_peek : QueueFile → List ℕ → ℕ → Result (Option ℕ) Refusal
judge_peek q img room = check_peek img q (fit_peek q (length img) room)

-- the output then: the payload at its front, or what it was
abbrev pub peeked_output : Result (Option ℕ) Refusal → List ℕ → List ℕ → List ℕ
peeked_output (Ok (Some n)) payload out = put_at out 0 payload
peeked_output (Ok None) payload out = out
peeked_output (Err r) payload out = out

-- ---- in place

-- where the payload starts in the ring
abbrev pub payload_start : QueueFile → ℕ
payload_start q = ring_add (capacity q.file_len) q.first.pos 28

-- 28, then empty, then 33 where the payload crosses the ring's end, then the footer
unfoldable pub judge_peek_place : QueueFile → List ℕ → Result (Option Part) Refusal
judge_peek_place q img =
    demand (sound q (length img)) (Err Unsound)
    (cond (eqb q.elem_cnt 0) (Ok None)
    (demand (leb (payload_start q + q.first.len) (capacity q.file_len)) (Err CrossesEnd)
    (on_verdict Err (footer_verdict img q.file_len q.first)
    (Ok (Some (record { offset = 8192 + payload_start q; len = q.first.len }))))))

-- that part of the image, or no bytes
abbrev pub peeked_part : List ℕ → Result (Option Part) Refusal → List ℕ
peeked_part img (Ok (Some p)) = take p.len (drop p.offset img)
peeked_part img (Ok None) = []
peeked_part img (Err r) = []
