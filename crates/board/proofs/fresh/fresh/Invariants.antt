use Rattle.std.proofs.Common.{◌-◌, ◌^◌}
use Rattle.model.specs.Capacity.{most_sensors, most_sets}
use Rattle.model.specs.Board.{board_of, room}
use Rattle.board.proofs.Fills.{Filled}
use Rattle.board.proofs.fresh.fresh.Given as goal

abbrev pub invariant-loop-j : goal.invariant-loop-j
invariant-loop-j l = Filled (λ _. 2 ^ l.m - 1) most_sensors l.n l.cands × Filled (λ j. 2 ^ room (board_of l.n l.m l.k l.kinds) j - 1) most_sets l.j l.hi
