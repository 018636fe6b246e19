use Rattle.std.proofs.Common.{◌≡◌, None, Ok, Option, sym, ap, ◌∙◌, rules}
use Rattle.sheet.specs.declared.format.Record.{Record}
use Rattle.sheet.specs.Steps as sheet
use Rattle.load.specs.declared.act.Act.{Act}
use Rattle.load.specs.Acts.{act_of_lem, verdict, taken}
use Rattle.plan.specs.States.{state_of}
use Rattle.load.proofs.Faults.{enters, closes-end, closes-stop}
use Rattle.load.proofs.enter.enter_records.Goals as goal

pub loop-one-preserved : goal.loop-one-preserved
loop-one-preserved c =
    let x = c.loop-one.reader in
    let y = c.next.new.self in
    let s = state_of c.loop-one.draft in
    let t = state_of c.enter.new.draft in
    let e = c.in-Ok-Some.ensures in
    let v = ap (λ (o : Option Record). Ok (sheet.meant_if o)) (sym c.in-Ok-Some.field-0-is) ∙ e.value in
    let r = sheet.meant c.in-Ok-Some.one in
    let a : c.from.result ≡ act_of_lem r = c.from.ensures in (
      c.enter.ensures.lent ∙ c.loop-one.invariant.0,
      λ z.
          let i = c.loop-one.invariant.1 z in
          let k = enters s x y e.moved r t v i.0 (λ q. c.enter.ensures.plan (ap (λ (b : Act). verdict b s) a ∙ q) ∙ ap (λ (b : Act). taken b s) a) in
          (k.0, i.1 ∙ k.1),
    )

pub returns-in_default-clause-plan : goal.returns-in_default-clause-plan
returns-in_default-clause-plan c =
    let e = c.next.ensures in
    let n : c.in_default.field-0 ≡ None = search rules in
    let v = ap (λ (o : Option Record). Ok (sheet.meant_if o)) (sym n) ∙ ap sheet.answer (sym c.in_default.is) ∙ e.value in
    λ z. sym ((c.loop-one.invariant.1 z).1 ∙ closes-end (state_of c.loop-one.draft) c.loop-one.reader c.next.new.self e.moved v)

pub returns-in_default-2-clause-plan : goal.returns-in_default-2-clause-plan
returns-in_default-2-clause-plan c =
    let e = c.next.ensures in
    let v = ap sheet.answer (sym c.in_default.is) ∙ e.value in
    λ z. sym ((c.loop-one.invariant.1 z).1 ∙ closes-stop (state_of c.loop-one.draft) c.loop-one.reader c.next.new.self e.moved _ v)
