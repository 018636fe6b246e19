use Rattle.std.proofs.Common.{rules}
use Rattle.covering.proofs.Singles.{drop-low}
use Rattle.covering.proofs.bits.drop_one.Goals as goal

pub returns : goal.returns
returns c = record { any = search rules; low = λ l. drop-low c.args.mask c.args.i l (search rules) }
