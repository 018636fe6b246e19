use Rattle.text.proofs.Rising.{Listed}
use Rattle.text.proofs.pen.Pen.members.Given as goal

abbrev pub invariant-loop-i : goal.invariant-loop-i
invariant-loop-i l = Listed l.mask l.i-iterator.left l.initial.self l.self
