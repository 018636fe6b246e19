-- What the candidates alone say of sensors and slots, as far as the sensors of `left` have not been gone through. Assumes nothing.
use Rattle.std.specs.Prelude.{◌≡◌, ℕ, true, false, List, ◌==◌, bit_and, count_ones, slice_index}
use Rattle.masks.specs.Masks.{has}
use Rattle.model.specs.Box.{Box, cand, lo, hi}

-- the candidates of sensor i among some slots
abbrev pub common : List ℕ → ℕ → ℕ → ℕ
common cands slots i = bit_and (slice_index cands i) slots

-- the sensors with a candidate among the slots
pub record Able (cands : List ℕ) (sensors slots left found : ℕ) : Type 0 where
  pub inside : (i : ℕ) → has left i ≡ true → has sensors i ≡ true
  pub only : (i : ℕ) → has found i ≡ true → (has sensors i ≡ true) × ((common cands slots i == 0) ≡ false)
  pub all : (i : ℕ) → has sensors i ≡ true → has left i ≡ false → (common cands slots i == 0) ≡ false → has found i ≡ true

-- the slots that are the only such candidate of some sensor
pub record Sure (cands : List ℕ) (sensors slots left found : ℕ) : Type 0 where
  pub inside : (i : ℕ) → has left i ≡ true → has sensors i ≡ true
  pub only : (v : ℕ) → has found v ≡ true → (i : ℕ) × (has sensors i ≡ true) × (count_ones (common cands slots i) ≡ 1) × (has (common cands slots i) v ≡ true)
  pub all : (i v : ℕ) → has sensors i ≡ true → has left i ≡ false → count_ones (common cands slots i) ≡ 1 → has (common cands slots i) v ≡ true → has found v ≡ true

-- what a run reads of box x
pub record Read (g s t : ℕ) (x : Box) (cands : List ℕ) (lower claimed upper sensors : ℕ) : Type 0 where
  pub same : (i : ℕ) → slice_index cands i ≡ cand x i
  pub lower_is : lower ≡ lo x s
  pub claimed_is : claimed ≡ lo x t
  pub upper_is : upper ≡ hi x t
  pub far : Able cands (bit_and (hi x s) g) (hi x t) 0 sensors
