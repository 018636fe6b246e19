use Rattle.text.proofs.Puts.{puts_join}
use Rattle.text.proofs.pen.Pen.sensor.Goals as goal

pub returns : goal.returns
returns c = puts_join c.put.ensures (puts_join c.number.ensures (puts_join c.put-2.ensures (puts_join c.bound.ensures c.put-3.ensures)))
