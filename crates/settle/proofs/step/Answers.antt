use Rattle.std.proofs.Common.{sym, ◌∙◌}
use Rattle.settle.proofs.Rounds.{dead-rests}
use Rattle.settle.proofs.step.Goals as goal

pub returns-then-is_dead-clause-model : goal.returns-then-is_dead-clause-model
returns-then-is_dead-clause-model g c =
    dead-rests g.met.R.Rule.lawful c.args.rule.now c.args.d.now (sym c.is_dead.ensures ∙ c.if-is_dead.true)
