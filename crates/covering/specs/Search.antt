-- The search for a free sensor, from a bare slot w. A sensor is seen from a slot; a slot is reached by its sensor being seen.
-- `from` has for each sensor seen the slot that it was seen from. Assumes nothing.
use Rattle.std.specs.Prelude.{◌≡◌, ℕ, ◌+◌, ◌<◌, ◌≤◌, true, false, ◌⊎◌, List, length, ◌≢◌, count_ones, slice_index, slice_index_or}
use Rattle.masks.specs.Masks.{has, without}

-- what a search needs of the owners: no two sensors have one slot, and none has w
pub record Owners (owner : List ℕ) (sensors w : ℕ) : Type 0 where
  pub one : (i j : ℕ) → has sensors i ≡ true → has sensors j ≡ true → slice_index owner i < 64 → slice_index owner i ≡ slice_index owner j → i ≡ j
  pub other : (i : ℕ) → has sensors i ≡ true → slice_index owner i ≢ w
  pub low : (i : ℕ) → has sensors i ≡ true → slice_index owner i ≤ 64

-- the marks lead back from each sensor seen to w, by sensors that were seen earlier
pub record Marks (takers owner : List ℕ) (sensors w : ℕ) (from : List ℕ) (seen : ℕ) : Type 0 where
  pub when : ℕ → ℕ
  pub edge : (i : ℕ) → has seen i ≡ true → (has sensors i ≡ true) × (slice_index from i < 64) × (has (slice_index takers (slice_index from i)) i ≡ true)
  pub back : (i : ℕ) → has seen i ≡ true
      → (slice_index from i ≡ w) ⊎ ((j : ℕ) × (has seen j ≡ true) × (slice_index owner j ≡ slice_index from i) × (when j < when i))
  pub old : (i : ℕ) → has seen i ≡ true → when i < count_ones seen

-- the search under way: the sensors of `unseen` have not been seen, the slots of `pending` have sensors that were not looked at
pub record Hunt (takers owner : List ℕ) (sensors w : ℕ) (from : List ℕ) (unseen reached pending : ℕ) : Type 0 where
  pub marks : Marks takers owner sensors w from (without sensors unseen)
  pub long : length from ≡ 64
  pub fresh : (i : ℕ) → has unseen i ≡ true → has sensors i ≡ true
  pub came : (v : ℕ) → has reached v ≡ true → (v ≡ w) ⊎ ((i : ℕ) × (has (without sensors unseen) i ≡ true) × (slice_index owner i ≡ v))
  pub low : (v : ℕ) → has reached v ≡ true → v < 64
  pub inside : (v : ℕ) → has pending v ≡ true → has reached v ≡ true
  pub shut : (v : ℕ) → has reached v ≡ true → has pending v ≡ false → (i : ℕ) → has sensors i ≡ true → has (slice_index takers v) i ≡ true
      → has unseen i ≡ false
  pub count : count_ones (without sensors unseen) + 1 ≡ count_ones reached

-- the search found a free sensor
pub record Led (takers owner : List ℕ) (sensors w : ℕ) (from : List ℕ) (free : ℕ) : Type 0 where
  pub seen : ℕ
  pub marks : Marks takers owner sensors w from seen
  pub last : has seen free ≡ true
  pub idle : slice_index_or owner free 0 ≡ 64

-- the search came to its end, with the slots of the group reached
pub record Stuck (takers owner : List ℕ) (sensors w group : ℕ) : Type 0 where
  pub from : List ℕ
  pub unseen : ℕ
  pub hunt : Hunt takers owner sensors w from unseen group 0
