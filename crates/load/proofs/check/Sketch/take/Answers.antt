use Rattle.std.proofs.Common.{sym, ap, ◌∙◌}
use Rattle.load.specs.declared.act.Act.{Act}
use Rattle.load.specs.Acts.{verdict}
use Rattle.load.proofs.check.Sketch.take.Goals as goal

pub returns-in-New-clause-answer : goal.returns-in-New-clause-answer
returns-in-New-clause-answer c = λ s h. c.new.ensures.answer s ∙ ap (λ (a : Act). verdict a s) (sym c.in-New.is)
