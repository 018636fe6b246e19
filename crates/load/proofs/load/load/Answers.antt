use Rattle.std.proofs.Common.{sym, ap, ◌∙◌}
use Rattle.plan.specs.States.{state_of}
use Rattle.load.specs.Loads.{load_fault}
use Rattle.load.proofs.Walking.{opened}
use Rattle.load.proofs.Faults.{loads, not_opened}
use Rattle.load.proofs.load.load.Goals as goal

pub returns-in-Ok-clause-accepted : goal.returns-in-Ok-clause-accepted
returns-in-Ok-clause-accepted c =
    let xs = c.args.file.now in
    let x = c.in-Ok.reader in
    let e = c.in-Ok.ensures.value in
    let a = c.in_ok-check.ensures ∙ ap (load_fault xs) c.places.ensures in
    λ z. loads xs (state_of c.args.draft.now) (state_of c.enter_records.new.draft) x e.0 (opened xs x e.1 e.2) (sym a) c.enter_records.ensures.plan

pub returns-in_default-clause-accepted : goal.returns-in_default-clause-accepted
returns-in_default-clause-accepted c = λ z. absurd (not_opened c.args.file.now c.places.result c.in_default.ensures.value.0 (sym c.in_ok-check.ensures))
