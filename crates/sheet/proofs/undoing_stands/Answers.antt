use Rattle.sheet.proofs.Whole.{undone}
use Rattle.sheet.proofs.undoing_stands.Goals as goal

pub returns : goal.returns
returns c = undone
