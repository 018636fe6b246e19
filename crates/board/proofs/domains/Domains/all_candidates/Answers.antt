use Rattle.std.proofs.Common.{sym}
use Rattle.board.proofs.Shapes.{cand-of}
use Rattle.board.proofs.domains.Domains.all_candidates.Goals as goal

pub returns : goal.returns
returns c i = sym (cand-of c.args.self.now i)
