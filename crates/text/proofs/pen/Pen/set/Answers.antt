use Rattle.text.proofs.Puts.{puts_join}
use Rattle.text.proofs.pen.Pen.set.Goals as goal

pub returns : goal.returns
returns c =
    puts_join c.put.ensures (puts_join c.number.ensures (puts_join c.put-2.ensures
    (puts_join c.bound.ensures (puts_join c.put-3.ensures (puts_join c.bound-2.ensures c.put-4.ensures)))))
