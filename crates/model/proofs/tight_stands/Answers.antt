use Rattle.model.proofs.Tight.{tight-stands}
use Rattle.model.proofs.tight_stands.Goals as goal

pub returns : goal.returns
returns c = tight-stands
