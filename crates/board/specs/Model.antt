-- The board and the box that a stored box stands for. Assumes nothing.
use Rattle.model.specs.Board.{Board, board_of}
use Rattle.model.specs.Box.{Box}
use Rattle.board.specs.Shape.{box_of}
use Rattle.board.specs.declared.domains.Domains.{Domains}

abbrev pub board : Domains → Board
board d = board_of d.sensors d.slots d.sets d.kinds

abbrev pub model : Domains → Box
model d = box_of (board d) d.cands d.lo d.hi
