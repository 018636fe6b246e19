-- The candidates of the sensors of some slots, slot by slot. Assumes nothing.
use Rattle.std.specs.Prelude.{◌≡◌, ℕ, ◌<◌, true, false, List, length, bit_and, slice_index}
use Rattle.masks.specs.Masks.{has}

-- for each of the slots those among them that its sensor has as candidates, as far as the slots of `left` have not been gone through
pub record Rowed (cands : List ℕ) (on : ℕ → ℕ) (slots left : ℕ) (rows : List ℕ) : Type 0 where
  pub long : length rows ≡ 64
  pub inside : (v : ℕ) → has left v ≡ true → has slots v ≡ true
  pub each : (v : ℕ) → has slots v ≡ true → has left v ≡ false → slice_index rows v ≡ bit_and (slice_index cands (on v)) slots
  pub none : (v : ℕ) → v < 64 → has slots v ≡ false → slice_index rows v ≡ 0
