-- What the coverings do with every sensor. Assumes nothing.
use Rattle.std.specs.Prelude.{◌≡◌, ℕ, ◌<◌, ◌≤◌, Bool, true, false, slice_index}
use Rattle.masks.specs.Masks.{has}
use Rattle.covering.specs.Covering.{Avoidable, Needed}
use Rattle.spares.specs.declared.spares.Spares.{Spares}

-- the slot of sensor i, and 64 where it has none
abbrev pub slot_in_lem : Spares → ℕ → ℕ
slot_in_lem s i = slice_index s.owner i

-- every covering uses a sensor exactly where its slot is bound; it then has a slot of the group
pub record SparesOf (can : ℕ → ℕ → Bool) (sensors claimed : ℕ) (s : Spares) : Type 0 where
  pub beyond : (i : ℕ) → 64 ≤ i → Avoidable can sensors claimed i
  pub free : (i : ℕ) → i < 64 → has s.bound (slot_in_lem s i) ≡ false → Avoidable can sensors claimed i
  pub tied : (i : ℕ) → i < 64 → has s.bound (slot_in_lem s i) ≡ true → Needed can sensors claimed i (slice_index s.groups (slot_in_lem s i))
