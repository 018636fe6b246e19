use Rattle.std.proofs.Common.{rules}
use Rattle.masks.proofs.Partings.{least-parted}
use Rattle.covering.proofs.bits.split.Goals as goal

pub returns-else-mask-eq0 : goal.returns-else-mask-eq0
returns-else-mask-eq0 c = least-parted c.args.mask (search rules) c.if-mask-eq0.false
