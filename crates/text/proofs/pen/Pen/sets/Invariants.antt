use Rattle.board.specs.Model.{model}
use Rattle.text.specs.Lines.{set_lines}
use Rattle.text.specs.Pens.{Puts}
use Rattle.text.proofs.pen.Pen.sets.Given as goal

abbrev pub invariant-loop-j : goal.invariant-loop-j
invariant-loop-j l = Puts (set_lines (model l.d).lows (model l.d).highs l.j) l.initial.self l.self
