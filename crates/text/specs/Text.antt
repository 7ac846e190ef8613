-- What a text holds.
use Rattle.std.specs.Prelude.{ℕ, List, Option}
use Rattle.std.specs.Io.KnownBytes.{append_known}
use Rattle.text.specs.declared.Text.{Text}

-- what the writer behind it holds, and then what waits, where that is known
abbrev pub contents_of : {W : Type 0} → (W → Option (List ℕ)) → Text W → Option (List ℕ)
contents_of contents t = append_known (contents t.out.now) t.waiting.items
