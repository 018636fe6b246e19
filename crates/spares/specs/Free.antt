-- The slots whose sensor some covering leaves out, read off one covering, which has slot v on sensor `on v`. Assumes nothing.
use Rattle.std.specs.Prelude.{◌≡◌, ℕ, Bool, true, false, List, ◌≢◌, slice_index}
use Rattle.masks.specs.Masks.{has}
use Rattle.covering.specs.Covering.{Covering, candidate}

-- the claimed slots that the sensors without a slot have as candidates, as far as the sensors of `left` have not been gone through
pub record Offered (cands owner : List ℕ) (sensors claimed left found : ℕ) : Type 0 where
  pub inside : (j : ℕ) → has left j ≡ true → has sensors j ≡ true
  pub all : (j v : ℕ) → has sensors j ≡ true → has left j ≡ false → slice_index owner j ≡ 64 → has claimed v ≡ true → candidate cands j v ≡ true
      → has found v ≡ true
  pub from : (v : ℕ) → has found v ≡ true
      → (j : ℕ) × (has sensors j ≡ true) × (slice_index owner j ≡ 64) × (has claimed v ≡ true) × (candidate cands j v ≡ true)

-- no slot is on sensor j
abbrev pub Idle : ℕ → (ℕ → ℕ) → ℕ → Type 0
Idle claimed on j = (v : ℕ) → has claimed v ≡ true → on v ≢ j

-- a covering that leaves out the sensor of slot u, and is as before at the slots that are not free
pub record Without (can : ℕ → ℕ → Bool) (sensors claimed : ℕ) (on : ℕ → ℕ) (free u : ℕ) : Type 0 where
  pub over : ℕ → ℕ
  pub covers : Covering can sensors claimed over
  pub unused : (v : ℕ) → has claimed v ≡ true → over v ≢ on u
  pub same : (v : ℕ) → has claimed v ≡ true → has free v ≡ false → over v ≡ on v

-- some coverings leave out the sensors of the free slots; what a sensor without a slot, or the sensor of a slot of `done`, could take is free
pub record Freed (can : ℕ → ℕ → Bool) (sensors claimed : ℕ) (on : ℕ → ℕ) (done free : ℕ) : Type 0 where
  pub inside : (v : ℕ) → has free v ≡ true → has claimed v ≡ true
  pub out : (u : ℕ) → has free u ≡ true → Without can sensors claimed on free u
  pub idle : (j u : ℕ) → has sensors j ≡ true → Idle claimed on j → has claimed u ≡ true → can j u ≡ true → has free u ≡ true
  pub shut : (v u : ℕ) → has done v ≡ true → has claimed u ≡ true → can (on v) u ≡ true → has free u ≡ true
