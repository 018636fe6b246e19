use Rattle.std.proofs.Common.{◌≡◌}
use Rattle.model.specs.Settled.{Progress}
use Rattle.board.specs.Model.{board, model}
use Rattle.range.specs.Entered.{Limited}
use Rattle.range.proofs.enter.limit_all.Given as goal

abbrev pub invariant-loop-i : goal.invariant-loop-i
invariant-loop-i l =
    (board l.d ≡ board l.initial.d) × Limited (board l.initial.d) l.sensors l.keep l.i-iterator.left (model l.initial.d) (model l.d)
    × Progress (board l.initial.d) l.moved (model l.initial.d) (model l.d)
