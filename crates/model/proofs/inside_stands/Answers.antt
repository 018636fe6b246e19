use Rattle.model.proofs.Tight.{inside-stands}
use Rattle.model.proofs.inside_stands.Goals as goal

pub returns : goal.returns
returns c = inside-stands
