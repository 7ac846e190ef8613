-- The table of refusals: the number and the two values of each. docs/REFUSALS.md says when each is given. Assumes nothing.
use Rattle.std.specs.Prelude.{ℕ}
use Rattle.refusal.specs.declared.Refusal.{Refusal}
use Rattle.refusal.specs.declared.Refusal.TheVariants.{Short, HeaderMagic, HeaderLength, HeaderSequence, HeaderCrc, HeaderSpan, FooterMagic, FooterSequence, FooterCrc, NoSlot, SlotLength, SlotTruncated, SlotSequence, EmptyPointer, ZeroPointer, PointerBounds, SequenceMismatch, BacklinkZero, BacklinkLow, RecoveryEmpty, RecoverySequence, FieldTooLarge, UnsupportedVersion, ElementTooBig, TooManyElements, BufferTooSmall, Overflow, Unsound, OutputTooSmall, Exhausted, NotASlot, BrokenLink, CrossesEnd}

abbrev pub number_of : Refusal → ℕ
-- bytes that are too few for the layout they are to hold
number_of Short = 1
-- element header: other magic bytes
number_of HeaderMagic = 2
-- element header: a negative payload length
number_of HeaderLength = 3
-- element header: sequence 0
number_of HeaderSequence = 4
-- element header: another CRC
number_of HeaderCrc = 5
-- element header: a span above the capacity
number_of HeaderSpan = 6
-- footer: other magic bytes
number_of FooterMagic = 7
-- footer: another sequence than the header
number_of FooterSequence = 8
-- footer: another CRC
number_of FooterCrc = 9
-- no slot is valid
number_of NoSlot = 10
-- slot: file length below 8192
number_of SlotLength = 11
-- slot: file length above the real length
number_of SlotTruncated = 12
-- slot: next sequence 0
number_of SlotSequence = 13
-- slot: count 0 with a pointer that is not 0
number_of EmptyPointer = 14
-- slot: count above 0 with a pointer that is 0
number_of ZeroPointer = 15
-- slot: a pointer below 8192 or not below the file length
number_of PointerBounds = 16
-- another sequence than the one that its place asks for
number_of (SequenceMismatch expected found) = 17
-- recovery: a backlink that is 0
number_of BacklinkZero = 18
-- recovery: a backlink from 1 to 8191
number_of BacklinkLow = 19
-- recovery asked with count 0
number_of RecoveryEmpty = 20
-- recovery: a step above the tail sequence
number_of RecoverySequence = 21
-- a field of a file header or a slot too large: 1 file length, 2 count, 3 first, 4 last
number_of (FieldTooLarge field) = 22
-- another version of a versioned file header than 1
number_of (UnsupportedVersion version) = 23
-- payload above 2147483647 bytes
number_of ElementTooBig = 24
-- count + 1 not below 2147483647
number_of TooManyElements = 25
-- new length above the length of the lent buffer; listing input above 65536 bytes
number_of BufferTooSmall = 26
-- growth above 2^63 - 1; place plus distance, or a span, above 2^64 - 1
number_of Overflow = 27
-- unsound state, file length or place
number_of Unsound = 28
-- output too small
number_of OutputTooSmall = 29
-- generation or next sequence would pass 2^63 - 1
number_of Exhausted = 30
-- not a valid slot
number_of NotASlot = 31
-- strict linkage
number_of BrokenLink = 32
-- payload crosses the end of the ring
number_of CrossesEnd = 33

-- 0 and 0 where there is nothing to tell
abbrev pub values_of : Refusal → ℕ × ℕ
values_of (SequenceMismatch expected found) = (expected, found)
values_of (FieldTooLarge field) = (field, 0)
values_of (UnsupportedVersion version) = (version, 0)
values_of _ = (0, 0)
