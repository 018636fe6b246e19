use Rattle.spares.proofs.Closings.{Passed}
use Rattle.spares.proofs.close.pass.Given as goal

abbrev pub invariant-loop-own : goal.invariant-loop-own
invariant-loop-own l = Passed l.initial.own-items l.k l.row l.own-index l.own-items
