use Rattle.std.proofs.Common.{rules}
use Rattle.masks.specs.Masks.{stretch}
use Rattle.masks.proofs.stretch.Goals as goal

pub returns : goal.returns
unfolding stretch
returns c = search rules
