use Rattle.std.proofs.Common.{ℕ, ap, ◌∙◌}
use Rattle.masks.specs.Masks.{without}
use Rattle.model.specs.Entries.{bar, narrow}
use Rattle.board.specs.Model.{board, model}
use Rattle.board.proofs.Shapes.{is-kept, some}
use Rattle.range.proofs.Entering.{confined}
use Rattle.range.proofs.enter.confine.Goals as goal

pub returns-clause-model : goal.returns-clause-model
returns-clause-model c =
    let d = c.args.d.now in
    confined (board d) (some d) c.args.set c.args.mask (model d) _ (is-kept d) (c.bar.ensures.model ∙ ap (λ (m : ℕ). narrow (board d) (bar c.args.set m) (model d)) (c.take_out-outside.ensures ∙ ap (λ (m : ℕ). without m c.args.mask) c.upper.ensures))
