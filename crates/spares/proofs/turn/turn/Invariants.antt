use Rattle.std.proofs.Common.{◌*◌}
use Rattle.spares.proofs.Turns.{Turning}
use Rattle.spares.proofs.turn.turn.Given as goal

abbrev pub invariant-loop-two : goal.invariant-loop-two
invariant-loop-two l = Turning l.rows (2 * l.two) l.turned
