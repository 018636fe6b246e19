-- A covering as the code holds it. `takers` has for each slot the mask of the sensors that may take it, `notes` for each slot its
-- sensor, `owner` for each sensor its slot, each 64 where there is none. Assumes nothing.
use Rattle.std.specs.Prelude.{◌≡◌, ℕ, ◌<◌, ◌≤◌, Bool, true, false, ◌&&◌, List, length, bit_and, slice_index}
use Rattle.masks.specs.Masks.{has, without}

-- the masks of takers say what `can` says
abbrev pub Tells : (ℕ → ℕ → Bool) → ℕ → ℕ → List ℕ → Type 0
Tells can sensors claimed takers = (i v : ℕ) → has sensors i ≡ true → has claimed v ≡ true → has (slice_index takers v) i ≡ can i v

abbrev pub Noted : List ℕ → ℕ → ℕ → List ℕ → List ℕ → Type 0
Noted takers sensors claimed notes owner =
    (v : ℕ) → has claimed v ≡ true
    → (has sensors (slice_index notes v) ≡ true) × (has (slice_index takers v) (slice_index notes v) ≡ true) × (slice_index owner (slice_index notes v) ≡ v)

abbrev pub Owned : ℕ → List ℕ → Type 0
Owned claimed owner = (i : ℕ) → i < 64 → slice_index owner i < 64 → has claimed (slice_index owner i) ≡ true

abbrev pub Returned : List ℕ → List ℕ → Type 0
Returned notes owner = (i : ℕ) → i < 64 → slice_index owner i < 64 → slice_index notes (slice_index owner i) ≡ i

abbrev pub Bare : ℕ → List ℕ → Type 0
Bare claimed notes = (v : ℕ) → v < 64 → has claimed v ≡ false → slice_index notes v ≡ 64

abbrev pub Marked : List ℕ → Type 0
Marked owner = (i : ℕ) → i < 64 → slice_index owner i ≤ 64

-- a sensor that is not idle has a slot
abbrev pub Busy : ℕ → ℕ → List ℕ → Type 0
Busy sensors idle owner = (j : ℕ) → has sensors j ≡ true → has idle j ≡ false → slice_index owner j < 64

abbrev pub Long : List ℕ → List ℕ → Type 0
Long notes owner = (length notes ≡ 64) × (length owner ≡ 64)

-- the notes cover just the claimed slots
pub record Matching (takers : List ℕ) (sensors claimed : ℕ) (notes owner : List ℕ) : Type 0 where
  pub noted : Noted takers sensors claimed notes owner
  pub owned : Owned claimed owner
  pub returned : Returned notes owner
  pub bare : Bare claimed notes
  pub marked : Marked owner
  pub long : Long notes owner

-- the takers of each slot, as far as the sensors of `left` have not been gone through
pub record Turned (cands : List ℕ) (sensors claimed left : ℕ) (takers : List ℕ) : Type 0 where
  pub each : (v i : ℕ) → v < 64 → has (slice_index takers v) i ≡ (has (without sensors left) i && has (bit_and (slice_index cands i) claimed) v)
  pub inside : (i : ℕ) → has left i ≡ true → has sensors i ≡ true
  pub long : length takers ≡ 64
