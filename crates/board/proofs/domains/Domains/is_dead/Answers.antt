use Rattle.board.proofs.Shapes.{dead-test}
use Rattle.board.proofs.domains.Domains.is_dead.Goals as goal

pub returns : goal.returns
returns c = dead-test c.args.self.now
