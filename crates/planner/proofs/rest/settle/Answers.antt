use Rattle.std.proofs.Common.{ap, subst}
use Rattle.model.specs.Box.{Kept}
use Rattle.board.specs.Model.{model}
use Rattle.board.proofs.Shapes.{is-kept}
use Rattle.plan.specs.States.{state_of}
use Rattle.planner.proofs.Supporting.{supporting}
use Rattle.planner.proofs.rest.settle.Goals as goal

pub returns-clause-supports : goal.returns-clause-supports
returns-clause-supports c =
    let d = c.args.draft in
    let e = c.settle.ensures in
    let q = c.settle.result.plan in
    supporting (state_of d) d.plan.sized.0.0 d.plan.sized.1.0 (model q) (ap (λ z. z.box) e.plan) (subst (λ bd. Kept bd (model q)) (ap (λ z. z.board) e.plan) (is-kept q))
