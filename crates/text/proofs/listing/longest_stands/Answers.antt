use Rattle.text.proofs.Lengths.{longest}
use Rattle.text.proofs.listing.longest_stands.Goals as goal

pub returns-clause-longest : goal.returns-clause-longest
returns-clause-longest c = longest
