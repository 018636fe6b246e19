use Rattle.std.proofs.Common.{sym, ◌∙◌}
use Rattle.board.specs.Model.{board}
use Rattle.plan.specs.States.{free_places, state_of}
use Rattle.named.proofs.Meant.{all-different-so}
use Rattle.named.proofs.values.all_different.Goals as goal

pub returns-clause-means : goal.returns-clause-means
returns-clause-means c = λ e.
    let d = c.args.draft.now in
    all-different-so (board d.plan) (free_places (state_of d)) c.args.g c.args.s c.args.t d.plan.sized.0.1 (sym c.n_value.ensures.whole.answer ∙ e)
