-- The places that a file's pointers and backlinks name. Assumes nothing.
use Rattle.std.specs.Prelude.{ℕ, ◌-◌, leb, Result, Ok, Err}
use Rattle.refusal.specs.declared.Refusal.TheVariants.{BacklinkLow}
use Rattle.refusal.specs.Demand.{demand}
use Rattle.refusal.specs.declared.Refusal.{Refusal}

-- a physical place as a logical one, which is not bounded
abbrev pub to_logical : ℕ → Result ℕ Refusal
to_logical phys = demand (leb 8192 phys) (Err BacklinkLow) (Ok (phys - 8192))
