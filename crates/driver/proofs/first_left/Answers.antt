use Rattle.std.proofs.Common.{◌≡◌, length, refl, ap, ◌∙◌}
use Rattle.model.specs.Box.{cand}
use Rattle.model.specs.Calls.{State}
use Rattle.model.specs.Capacity.{most_places}
use Rattle.kinds.specs.declared.SheetRule.{SheetRule}
use Rattle.plan.specs.States.{state_of}
use Rattle.load.specs.Loads.{cause_number}
use Rattle.driver.proofs.Firsts.{first-left, first-refused}
use Rattle.driver.proofs.first_left.Goals as goal

pub returns-in-Ok : goal.returns-in-Ok
returns-in-Ok c =
    let d = c.begin-draft.result in
    let e = c.in-Ok.ensures in
    let size : length d.places.now ≡ most_places = ap length c.begin-draft.ensures.places in
    c.first_of.ensures
    ∙ ap (λ (s : State SheetRule). cand s.box 0) c.settle.ensures.plan
    ∙ first-left c.args.file.now (length d.places.now) (state_of c.load.new.draft) size e.answer (e.accepted refl)

pub returns-in-Err : goal.returns-in-Err
returns-in-Err c =
    let d = c.begin-draft.result in
    let f = c.in-Err.field-0 in
    let size : length d.places.now ≡ most_places = ap length c.begin-draft.ensures.places in
    first-refused c.args.file.now (length d.places.now) (cause_number f.cause, f.position) size c.in-Err.ensures.answer
