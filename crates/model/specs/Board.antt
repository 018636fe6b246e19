-- A board: how many sensors, slots and sets it has, and what its sets hold. All are numbered from 0. Assumes nothing.
use Rattle.std.specs.Prelude.{ℕ, ◌^◌, ◌<◌, ◌≤◌, cond}
use Rattle.masks.specs.Masks.{has}
use Rattle.model.specs.Capacity.{most_sensors, most_slots, most_sets}

-- the kinds are a mask: the sets that hold slots; the others hold sensors
pub record Board : Type 0 where
  pub sensors : ℕ
  pub slots : ℕ
  pub sets : ℕ
  pub kinds : ℕ

abbrev pub board_of : ℕ → ℕ → ℕ → ℕ → Board
board_of n m k w = record { sensors = n; slots = m; sets = k; kinds = w }

-- how many numbers there are of the kind that set j holds
abbrev pub room : Board → ℕ → ℕ
room bd j = cond (has bd.kinds j) bd.slots bd.sensors

-- within the capacity, with at least one sensor and one slot, and no kind for a set that is not there
abbrev pub Sized : ℕ → ℕ → ℕ → ℕ → Type 0
Sized n m k w = ((0 < n) × (n ≤ most_sensors)) × ((0 < m) × (m ≤ most_slots)) × ((k ≤ most_sets) × (w < 2 ^ k))
