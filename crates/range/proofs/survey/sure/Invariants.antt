use Rattle.range.specs.Survey.{Sure}
use Rattle.range.proofs.survey.sure.Given as goal

abbrev pub invariant-loop-i : goal.invariant-loop-i
invariant-loop-i l = Sure l.cands l.sensors l.slots l.i-iterator.left l.found
