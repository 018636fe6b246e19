use Rattle.std.proofs.Common.{rules}
use Rattle.masks.proofs.Masks.{and-not}
use Rattle.masks.proofs.take_out.Goals as goal

pub returns : goal.returns
returns c = and-not 64 c.args.a c.args.b (search rules) (search rules)
