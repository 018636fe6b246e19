use Rattle.covering.specs.Matching.{Turned}
use Rattle.covering.proofs.takers.takers_of.Given as goal

abbrev pub invariant-loop-i : goal.invariant-loop-i
invariant-loop-i l = Turned l.cands l.sensors l.claimed l.i-iterator.left l.takers
