-- A layout: a slot for each sensor, and members for each set. Assumes nothing.
use Rattle.std.specs.Prelude.{◌≡◌, ℕ, ◌^◌, ◌<◌, List, length, slice_index}
use Rattle.model.specs.Board.{Board, room}

-- the members of a set as a mask
pub record Layout : Type 0 where
  pub slot : List ℕ
  pub members : List ℕ

abbrev pub layout : List ℕ → List ℕ → Layout
layout s t = record { slot = s; members = t }

abbrev pub slot_of : Layout → ℕ → ℕ
slot_of x i = slice_index x.slot i

abbrev pub set_of : Layout → ℕ → ℕ
set_of x j = slice_index x.members j

-- a layout of the board: slots of the board, and numbers of each set's kind
pub record On (bd : Board) (x : Layout) : Type 0 where
  pub slots_many : length x.slot ≡ bd.sensors
  pub sets_many : length x.members ≡ bd.sets
  pub slots_on : (i : ℕ) → i < bd.sensors → slot_of x i < bd.slots
  pub sets_on : (j : ℕ) → j < bd.sets → set_of x j < 2 ^ room bd j
