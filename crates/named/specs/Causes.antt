-- Why a named constraint is refused. Assumes nothing.
use Rattle.std.specs.Prelude.{ℕ, ◌^◌, Bool, false, not, ◌||◌, List, [], ◌∷◌, ◌==◌, nat_le, nat_lt}
use Rattle.masks.specs.Masks.{has}
use Rattle.model.specs.Board.{Board}
use Rattle.model.specs.Refusals.{Cause}

-- one cause for each number
abbrev pub six : Bool → Bool → Bool → Bool → Bool → Bool → List Cause
six set mask kind twice count room = (3, set) ∷ (4, mask) ∷ (5, kind) ∷ (6, twice) ∷ (7, count) ∷ (8, room) ∷ []

-- one of two sets is not there
abbrev pub absent : Board → ℕ → ℕ → Bool
absent bd s t = nat_le bd.sets s || nat_le bd.sets t

-- s is no sensor set, or t no slot set
abbrev pub misfit : Board → ℕ → ℕ → Bool
misfit bd s t = has bd.kinds s || not (has bd.kinds t)

-- a mask has a number at n or above
abbrev pub beyond : ℕ → ℕ → Bool
beyond n mask = nat_le (2 ^ n) mask

-- the least count is over the greatest, or the greatest over 64
abbrev pub no_range : ℕ → ℕ → Bool
no_range p q = nat_lt q p || nat_lt 64 q

-- of four sets one is named twice
abbrev pub repeated : ℕ → ℕ → ℕ → ℕ → Bool
repeated s t u w = (s == t || u == w) || ((s == u || t == w) || (s == w || t == u))

-- ---- the causes of each call, `free` being how many more rules the table has places for

abbrev pub n_value_causes : Board → ℕ → ℕ → ℕ → ℕ → ℕ → ℕ → List Cause
n_value_causes bd free g p q s t = six (absent bd s t) (beyond bd.sensors g) (misfit bd s t) (s == t) (no_range p q) (nat_lt free 2)

abbrev pub all_different_causes : Board → ℕ → ℕ → ℕ → ℕ → List Cause
all_different_causes bd free g s t = six (absent bd s t) (beyond bd.sensors g) (misfit bd s t) (s == t) false (nat_lt free 2)

abbrev pub among_causes : Board → ℕ → ℕ → ℕ → ℕ → ℕ → ℕ → ℕ → List Cause
among_causes bd free g v p q s t = six (absent bd s t) (beyond bd.sensors g || beyond bd.slots v) (misfit bd s t) (s == t) (no_range p q) (nat_lt free 2)

-- of Disjoint and of Uses
abbrev pub two_groups_causes : Board → ℕ → ℕ → ℕ → ℕ → ℕ → ℕ → ℕ → List Cause
two_groups_causes bd free g h s t u w =
    six (absent bd s t || absent bd u w) (beyond bd.sensors g || beyond bd.sensors h) (misfit bd s t || misfit bd u w) (repeated s t u w) false (nat_lt free 3)
