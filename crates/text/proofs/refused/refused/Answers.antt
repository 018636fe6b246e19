use Rattle.std.proofs.Common.{arith}
use Rattle.text.proofs.Lengths.{refused-most}
use Rattle.text.proofs.refused.refused.Goals as goal

pub returns-clause-enough : goal.returns-clause-enough
returns-clause-enough c = refused-most c.args.number c.args.position (omega arith) (omega arith)
