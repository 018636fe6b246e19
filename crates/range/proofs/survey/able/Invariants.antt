use Rattle.range.specs.Survey.{Able}
use Rattle.range.proofs.survey.able.Given as goal

abbrev pub invariant-loop-i : goal.invariant-loop-i
invariant-loop-i l = Able l.cands l.sensors l.slots l.i-iterator.left l.found
