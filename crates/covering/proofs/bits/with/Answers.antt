use Rattle.std.proofs.Common.{rules}
use Rattle.covering.proofs.Singles.{with-low}
use Rattle.covering.proofs.bits.with.Goals as goal

pub returns : goal.returns
returns c = record { any = search rules; low = λ l. with-low c.args.mask c.args.i l (search rules) }
