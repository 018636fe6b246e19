use Rattle.std.proofs.lemmas.Bool.{eq-eqb, ne_eqb}
use Rattle.range.proofs.Surveys.{able-all, able-in, able-out, able-start}
use Rattle.range.proofs.survey.able.Goals as goal

pub loop-i-init : goal.loop-i-init
loop-i-init c = simp (c.into_iter-i-iterator.ensures.into_iter_gives, c.members-i-items.ensures) (able-start _ _ _)

pub loop-i-preserved-then-cands-i-ne0 : goal.loop-i-preserved-then-cands-i-ne0
loop-i-preserved-then-cands-i-ne0 c =
    let p = c.in-Some.ensures.steps.1 in
    simp (c.with-found.ensures.low p.low) (able-in p c.loop-i.invariant (ne_eqb _ 0 c.if-cands-i-ne0.true))

pub loop-i-preserved : goal.loop-i-preserved
loop-i-preserved c = able-out c.in-Some.ensures.steps.1 c.loop-i.invariant (eq-eqb _ 0 c.if-cands-i-ne0.false)

pub returns : goal.returns
returns c = able-all c.in-None.ensures.steps.0 c.loop-i.invariant
