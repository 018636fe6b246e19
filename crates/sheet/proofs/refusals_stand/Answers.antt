use Rattle.sheet.proofs.Causes.{refusals, writes}
use Rattle.sheet.proofs.refusals_stand.Goals as goal

pub returns : goal.returns
returns c = record { reader = refusals; writer = writes }
