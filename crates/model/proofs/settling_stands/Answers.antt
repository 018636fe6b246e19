use Rattle.model.proofs.Tight.{settling-stands}
use Rattle.model.proofs.settling_stands.Goals as goal

pub returns : goal.returns
returns c = settling-stands
