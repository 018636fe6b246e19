use Rattle.covering.specs.Notes.{sensor_of}
use Rattle.spares.specs.Rows.{Rowed}
use Rattle.spares.proofs.spares.rows.Given as goal

abbrev pub invariant-loop-v : goal.invariant-loop-v
invariant-loop-v l = Rowed l.cands (sensor_of l.notes) l.slots l.v-iterator.left l.rows
