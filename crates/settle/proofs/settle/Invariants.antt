use Rattle.model.specs.Box.{size}
use Rattle.board.specs.Model.{board, model}
use Rattle.settle.proofs.Rounds.{Settles}
use Rattle.settle.proofs.settle.Given as goal

abbrev pub invariant-loop-moved : goal.invariant-loop-moved
invariant-loop-moved g l = Settles g.met.R.Rule.lawful l.rules l.initial.d l.d l.moved

abbrev pub decreases-loop-moved : goal.decreases-loop-moved
decreases-loop-moved g l = size (board l.initial.d) (model l.d)
