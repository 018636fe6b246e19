-- What the coverings do with a sensor. Assumes nothing.
use Rattle.std.specs.Prelude.{ℕ, Bool, Option, MatchOption}
use Rattle.covering.specs.Covering.{Avoidable, Needed}

-- some covering leaves sensor i out, or all give it one of the slots of the group
abbrev pub Plays : (ℕ → ℕ → Bool) → ℕ → ℕ → ℕ → Option ℕ → Type 0
Plays can sensors claimed i role = MatchOption role (Avoidable can sensors claimed i) (λ group. Needed can sensors claimed i group)
