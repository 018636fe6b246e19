use Rattle.masks.proofs.Laws.{masks}
use Rattle.masks.proofs.masks_stand.Goals as goal

pub returns : goal.returns
returns c = masks
