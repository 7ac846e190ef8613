-- A CRC-32 fits 32 bits. Assumes nothing.
use mathlib.Core.List.{List}
use Prim.Native.Nat.{ℕ, ◌^◌, ◌<◌}
use native.Mathlib.Omega.{arith}
use Rattle.crc.specs.Crc.{crc_of}

pub crc_of_lt : (bs : List ℕ) → crc_of bs < 2 ^ 32
unfolding crc_of
crc_of_lt bs = omega arith
