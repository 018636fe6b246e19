use Rattle.std.proofs.Common.{sym, rules}
use Rattle.masks.proofs.Masks.{has-below}
use Rattle.spares.proofs.spares.role.Goals as goal

pub bounds-spares-u : goal.bounds-spares-u
bounds-spares-u c = has-below 64 c.args.spares.now.bound _ (search rules) (sym c.if-contains.ensures)
