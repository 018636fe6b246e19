-- A set's bounds, narrowed both at once. Assumes nothing.
use Rattle.std.specs.Prelude.{ℕ, List, [], ◌∷◌}
use Rattle.model.specs.Entries.{Entry, claim, bar}

-- hi loses one mask, lo gains another
abbrev pub bound_entries : ℕ → ℕ → ℕ → List Entry
bound_entries a out sure = bar a out ∷ claim a sure ∷ []
