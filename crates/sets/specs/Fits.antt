-- Which rules on sets fit a board. Assumes nothing.
use Rattle.std.specs.Prelude.{ℕ, Bool, cond, not, List, [], ◌∷◌, ◌==◌, nat_le}
use Rattle.masks.specs.Masks.{has}
use Rattle.model.specs.Board.{Board}
use Rattle.model.specs.Refusals.{Cause}

abbrev pub differ : Bool → Bool → Bool
differ p q = cond p (not q) q

-- a set
abbrev pub set_causes : Board → ℕ → List Cause
set_causes bd a = (3, nat_le bd.sets a) ∷ []

-- two sets of one kind
abbrev pub pair_causes : Board → ℕ → ℕ → List Cause
pair_causes bd a b = (3, nat_le bd.sets a) ∷ (3, nat_le bd.sets b) ∷ (5, differ (has bd.kinds a) (has bd.kinds b)) ∷ (6, (a == b)) ∷ []
