-- What the rows of a stored box keep, one field for each ghost field. Assumes nothing.
use Rattle.std.proofs.Common.{ℕ, List}
use Rattle.model.specs.Board.{Board, Sized}
use Rattle.board.specs.Shape.{Canon, Fitted, Long, Padded}

pub record Rows (bd : Board) (c l h : List ℕ) : Type 0 where
  pub sized : Sized bd.sensors bd.slots bd.sets bd.kinds
  pub long : Long c l h
  pub padded : Padded bd c l h
  pub fitted : Fitted bd c h
  pub canon : Canon bd c l h
