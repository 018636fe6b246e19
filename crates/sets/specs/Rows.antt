-- Row A: A has members, and they are consecutive numbers. Assumes nothing.
use Rattle.std.specs.Prelude.{ℕ, ◌-◌, ◌^◌, Bool, cond, not, ◌&&◌, ◌||◌, List, ◌==◌, count_ones, nat_le}
use Rattle.masks.specs.Masks.{has, without, lowest, past, stretch}
use Rattle.model.specs.Board.{Board, room}
use Rattle.model.specs.Layout.{Layout, set_of}
use Rattle.model.specs.Box.{Box, lo, hi, every}
use Rattle.model.specs.Tight.{tight}
use Rattle.model.specs.Refusals.{refusal}
use Rattle.model.specs.Entries.{Entry}
use Rattle.sets.specs.Fits.{set_causes}
use Rattle.sets.specs.Bounds.{bound_entries}
use Rattle.sets.specs.declared.row.Row.{Row}

abbrev pub row_fault : Board → Row → ℕ
row_fault bd r = refusal (set_causes bd r.a)

-- whatever lies between two members is a member
unfoldable pub gapless : ℕ → ℕ → Bool
gapless k m = every (λ i. every (λ v. every (λ j. not ((has m i && has m j) && (nat_le i v && nat_le v j)) || has m v) k) k) k

-- a row among the numbers below k
unfoldable pub is_row : ℕ → ℕ → Bool
is_row k m = not (m == 0) && gapless k m

abbrev pub row_holds : Board → Row → Layout → Bool
row_holds bd r x = is_row (room bd r.a) (set_of x r.a)

abbrev pub row_run : Board → Row → Box → Box
row_run bd r = tight bd (row_holds bd r)

-- the block of h around l: from past the last gap before l up to the first gap after it
abbrev pub block : ℕ → ℕ → ℕ
block l h = stretch (past (without (stretch 0 (lowest l)) h)) (lowest (without (stretch (past l) 64) h))

-- what hi loses: where lo has members, all that no row through them reaches
unfoldable pub row_out : ℕ → ℕ → ℕ
row_out l h = cond (l == 0) 0 (without h (block l h))

-- what lo gains: all between its members; where it has none, hi if that has one, and every number, so that the box dies, if that has none
unfoldable pub row_in : ℕ → ℕ → ℕ
row_in l h = cond (l == 0) (cond (h == 0) (2 ^ 64 - 1) (cond (count_ones h == 1) h 0)) (stretch (lowest l) (past l))

abbrev pub row_entries : Row → Box → List Entry
row_entries r x = bound_entries r.a (row_out (lo x r.a) (hi x r.a)) (row_in (lo x r.a) (hi x r.a))
