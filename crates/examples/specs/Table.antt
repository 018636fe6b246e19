-- The table of the code, read as cases. Assumes nothing.
use Rattle.std.specs.Prelude.{ℕ, take}
use Rattle.model.specs.Board.{board_of}
use Rattle.model.specs.Box.{Box}
use Rattle.examples.specs.Cases.{Case}
use Rattle.examples.specs.declared.table.Boxed.{Boxed}
use Rattle.examples.specs.declared.table.Example.{Example}

-- the bounds of n sensors and k sets
abbrev boxed : ℕ → ℕ → Boxed → Box
boxed n k b = record { cands = take n b.0; lows = take k b.1; highs = take k b.2 }

abbrev pub as_case : Example → Case
as_case e = record {
  on = board_of e.sensors 5 e.sets e.kinds;
  rule = e.rule;
  given = boxed e.sensors e.sets e.given;
  gives = boxed e.sensors e.sets e.gives;
}
