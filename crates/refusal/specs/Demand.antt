-- How a definition refuses: a list of demands in order, of which the first that is not met gives the answer.
-- Assumes nothing.
use Rattle.std.specs.Prelude.{Bool, true, false}

-- where the test fails, `stops`; else what comes next
unfoldable pub demand : {A : Type 0} → Bool → A → A → A
demand true stops next = next
demand false stops next = stops
