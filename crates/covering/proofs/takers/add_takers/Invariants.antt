use Rattle.covering.proofs.Turns.{Added}
use Rattle.covering.proofs.takers.add_takers.Given as goal

abbrev pub invariant-loop-v : goal.invariant-loop-v
invariant-loop-v l = Added l.slots l.v-iterator.left l.who l.initial.takers l.takers
