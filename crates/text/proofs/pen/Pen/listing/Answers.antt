use Rattle.std.proofs.Common.{sym}
use Rattle.std.proofs.lemmas.Bool.{not-false}
use Rattle.text.proofs.Puts.{puts_join}
use Rattle.text.proofs.pen.Pen.listing.Goals as goal

pub returns : goal.returns
returns c = rw (not-false _ (sym c.if-is_dead.ensures)) (puts_join c.sensors.ensures c.sets.ensures)
