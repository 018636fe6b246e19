use Rattle.std.proofs.Common.{true, length, take}
use Rattle.model.proofs.Mixes.{mixes-stand}
use Rattle.plan.specs.States.{state_of}
use Rattle.plan.proofs.Trusting.{trusted}
use Rattle.plan.proofs.draft.Draft.settle.Goals as goal

pub returns-clause-plan : goal.returns-clause-plan
returns-clause-plan g c =
    let s = c.args.self in
    let e = c.settle_table.ensures in
    λ i. record { board = e.board i; places = length s.places.now; box = e.model i; rules = take s.count s.places.now; done = true }

pub returns-clause-trusted : goal.returns-clause-trusted
returns-clause-trusted g c =
    let s = c.args.self in
    trusted g.met.R.Rule.lawful (state_of s) s.plan.sized.0.0 s.plan.sized.1.0 _ c.settle_table.ensures.model

pub returns-clause-mixes : goal.returns-clause-mixes
returns-clause-mixes g c = mixes-stand g.met.R.Rule.lawful
