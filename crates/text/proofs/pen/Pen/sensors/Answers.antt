use Rattle.text.proofs.Puts.{sensors_none, sensors_more}
use Rattle.text.proofs.pen.Pen.sensors.Goals as goal

pub loop-i-init : goal.loop-i-init
loop-i-init c = sensors_none _ _

pub loop-i-preserved : goal.loop-i-preserved
loop-i-preserved c = sensors_more _ _ c.loop-i.invariant (rw c.candidates.ensures at c.sensor.ensures)
