use Rattle.roots.proofs.Exact.{decided-exact}
use Rattle.roots.proofs.roots.decided_stands.Goals as goal

pub returns : goal.returns
returns c = decided-exact
