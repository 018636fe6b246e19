-- Coverings: every claimed slot gets a sensor of its own that has the slot as a candidate. Assumes nothing.
-- `can i v` says that slot v is a candidate of sensor i; sensors, claimed slots and groups of slots are masks.
use Rattle.std.specs.Prelude.{◌≡◌, ℕ, ◌^◌, ◌<◌, Bool, true, List, ◌≢◌, count_ones, slice_index}
use Rattle.masks.specs.Masks.{has, without}

-- the candidates as a board holds them: for each sensor the mask of its slots
abbrev pub candidate : List ℕ → ℕ → ℕ → Bool
candidate cands i v = has (slice_index cands i) v

-- slot v is covered by the sensor `on v`
pub record Covering (can : ℕ → ℕ → Bool) (sensors claimed : ℕ) (on : ℕ → ℕ) : Type 0 where
  pub among : (v : ℕ) → has claimed v ≡ true → has sensors (on v) ≡ true
  pub fits : (v : ℕ) → has claimed v ≡ true → can (on v) v ≡ true
  pub apart : (v u : ℕ) → has claimed v ≡ true → has claimed u ≡ true → on v ≡ on u → v ≡ u

-- a group of claimed slots with more slots than sensors that have one of them as a candidate: a mask `near` with fewer members
-- holds all those sensors
pub record Short (can : ℕ → ℕ → Bool) (sensors claimed group : ℕ) : Type 0 where
  pub inside : (v : ℕ) → has group v ≡ true → has claimed v ≡ true
  pub near : ℕ
  pub all : (i v : ℕ) → has sensors i ≡ true → has group v ≡ true → can i v ≡ true → has near i ≡ true
  pub fewer : count_ones near < count_ones group

-- no covering
abbrev pub Uncoverable : (ℕ → ℕ → Bool) → ℕ → ℕ → Type 0
Uncoverable can sensors claimed = (on : ℕ → ℕ) → Covering can sensors claimed on → ⊥

-- some covering does not use sensor i
pub record Avoidable (can : ℕ → ℕ → Bool) (sensors claimed i : ℕ) : Type 0 where
  pub on : ℕ → ℕ
  pub covers : Covering can sensors claimed on
  pub unused : (v : ℕ) → has claimed v ≡ true → on v ≢ i

-- some covering has slot v on sensor i
pub record Allowed (can : ℕ → ℕ → Bool) (sensors claimed i v : ℕ) : Type 0 where
  pub on : ℕ → ℕ
  pub covers : Covering can sensors claimed on
  pub claims : has claimed v ≡ true
  pub here : on v ≡ i

-- every covering uses sensor i; the slots that a covering may give it are its candidates in the group, which is short without it
pub record Needed (can : ℕ → ℕ → Bool) (sensors claimed i group : ℕ) : Type 0 where
  pub always : Avoidable can sensors claimed i → ⊥
  pub may : (v : ℕ) → has group v ≡ true → can i v ≡ true → Allowed can sensors claimed i v
  pub only : (v : ℕ) → Allowed can sensors claimed i v → (has group v ≡ true) × (can i v ≡ true)
  pub short : Short can (without sensors (2 ^ i)) claimed group
