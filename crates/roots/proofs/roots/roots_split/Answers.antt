use Rattle.roots.specs.Parts.{all_hold, each_holds}
use Rattle.roots.proofs.roots.roots_split.Goals as goal

pub returns : goal.returns
returns c bd r x = record { there = each_holds bd r x; back = all_hold bd r x }
