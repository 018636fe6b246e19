use mathlib.Core.Path.{refl}
use lib.Count.{ones, ones_in}
use Rattle.masks.specs.Masks.{has}
use Rattle.model.specs.Box.{tab, live, dead, size}
use Rattle.model.specs.Tight.{below, before, choose, pairs, layouts, keep, union, shared, hull, tight}
use Rattle.model.specs.Settled.{round, rounds, settled_by}
use Rattle.sets.specs.Rows.{gapless, is_row}
use Rattle.roots.specs.Roots.{implications}
use Rattle.examples.proofs.examples_stand.Goals as goal

-- one refl for each case
pub returns : goal.returns
unfolding ones ones_in has tab live dead size below before choose pairs layouts keep union shared hull tight round rounds settled_by gapless is_row implications
returns c = (refl, (refl, (refl, (refl, (refl, (refl, (refl, (refl, (refl, (refl, (refl, (refl, (refl, (refl, (refl, (refl, (refl, (refl, tt))))))))))))))))))
