use Rattle.std.proofs.Common.{sym}
use Rattle.std.proofs.lemmas.Bool.{eqb-true, eqb-false}
use Rattle.range.proofs.Surveys.{sure-all, sure_in, sure-out, sure-start}
use Rattle.range.proofs.survey.sure.Goals as goal

pub loop-i-init : goal.loop-i-init
loop-i-init c = simp (c.into_iter-i-iterator.ensures.into_iter_gives, c.members-i-items.ensures) (sure-start _ _ _)

pub loop-i-preserved-then-is_single : goal.loop-i-preserved-then-is_single
loop-i-preserved-then-is_single c = sure_in c.in-Some.ensures.steps.1 c.loop-i.invariant (eqb-true _ 1 (sym c.if-is_single.ensures))

pub loop-i-preserved : goal.loop-i-preserved
loop-i-preserved c = sure-out c.in-Some.ensures.steps.1 c.loop-i.invariant (eqb-false _ 1 (sym c.if-is_single.ensures))

pub returns : goal.returns
returns c = sure-all c.in-None.ensures.steps.0 c.loop-i.invariant
