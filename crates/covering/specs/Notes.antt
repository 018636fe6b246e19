-- What a covering that the code holds is a covering of. Assumes nothing.
use Rattle.std.specs.Prelude.{◌≡◌, ℕ, Bool, slice_index}
use Rattle.covering.specs.Covering.{Covering}
use Rattle.covering.specs.Matching.{Tells, Bare}
use Rattle.covering.specs.declared.notes.Notes.{Notes}

-- the sensor that covers slot v, and 64 where v is not claimed
abbrev pub sensor_of : Notes → ℕ → ℕ
sensor_of n v = slice_index n.pairs.notes v

pub record NotesOf (can : ℕ → ℕ → Bool) (sensors claimed : ℕ) (n : Notes) : Type 0 where
  pub among : n.pairs.sensors ≡ sensors
  pub slots : n.pairs.claimed ≡ claimed
  pub takers : Tells can sensors claimed n.pairs.takers
  pub covers : Covering can sensors claimed (sensor_of n)
  pub bare : Bare claimed n.pairs.notes
