use Rattle.std.proofs.Common.{take}
use Rattle.settle.proofs.Rounds.{Sofar}
use Rattle.settle.proofs.round.Given as goal

abbrev pub invariant-loop-rule : goal.invariant-loop-rule
invariant-loop-rule g l = let m = g.R.Rule in Sofar m.fault m.run (take l.rule-index l.rules) l.initial.d l.d l.changed
