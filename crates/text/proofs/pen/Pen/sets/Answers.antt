use Rattle.text.proofs.Puts.{sets_none, sets_more}
use Rattle.text.proofs.pen.Pen.sets.Goals as goal

pub loop-j-init : goal.loop-j-init
loop-j-init c = sets_none _ _ _

pub loop-j-preserved : goal.loop-j-preserved
loop-j-preserved c = sets_more _ _ _ c.loop-j.invariant (rw (c.lower.ensures, c.upper.ensures) at c.set.ensures)
