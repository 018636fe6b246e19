-- Why a rule does not fit a board, where kinds share the reasons. Assumes nothing.
use Rattle.std.specs.Prelude.{ℕ, ◌^◌, not, List, [], ◌∷◌, nat_le}
use Rattle.masks.specs.Masks.{has}
use Rattle.model.specs.Board.{Board}
use Rattle.model.specs.Refusals.{Cause}

-- a mask of its sensors, a set of sensors and a set of slots
abbrev pub group_causes : Board → ℕ → ℕ → ℕ → List Cause
group_causes bd g s t =
    (3, nat_le bd.sets s) ∷ (3, nat_le bd.sets t) ∷ (4, nat_le (2 ^ bd.sensors) g) ∷ (5, has bd.kinds s) ∷ (5, not (has bd.kinds t)) ∷ []
