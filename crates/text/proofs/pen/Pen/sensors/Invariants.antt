use Rattle.board.specs.Model.{model}
use Rattle.text.specs.Lines.{sensor_lines}
use Rattle.text.specs.Pens.{Puts}
use Rattle.text.proofs.pen.Pen.sensors.Given as goal

abbrev pub invariant-loop-i : goal.invariant-loop-i
invariant-loop-i l = Puts (sensor_lines (model l.d).cands l.i) l.initial.self l.self
