use Rattle.masks.specs.Masks.{past}
use Rattle.spares.specs.Closure.{Closing}
use Rattle.spares.proofs.close.close.Given as goal

abbrev pub invariant-loop-k : goal.invariant-loop-k
invariant-loop-k l = Closing (past l.among) l.initial.next l.among l.k-iterator.left l.next
