use Rattle.std.proofs.Common.{map}
use Rattle.plan.specs.States.{SameLoan, state_of}
use Rattle.mix.proofs.Plays.{SoFar}
use Rattle.mix.proofs.play.Given as goal

abbrev pub invariant-loop-i : goal.invariant-loop-i
invariant-loop-i g l = SameLoan l.initial.held l.held × SoFar g.R.Rule.fault g.R.Rule.run l.steps (state_of l.initial.held) l.i (state_of l.held) (map g.A.Answer.number l.answers)
