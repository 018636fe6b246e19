use Rattle.std.proofs.Common.{◌+◌, map, refl, ap, ◌∙◌, sym, subst, arith}
use Rattle.std.proofs.lemmas.List.{map-set}
use Rattle.plan.specs.States.{state_of}
use Rattle.mix.specs.Played.{calls_all}
use Rattle.mix.proofs.Plays.{SoFar, none_yet, one_more, all-played, leads-on}
use Rattle.mix.proofs.play.Goals as goal

pub loop-i-init : goal.loop-i-init
loop-i-init g c = (refl, none_yet g.R.Rule.fault g.R.Rule.run c.args.steps.now _ _)

pub loop-i-preserved : goal.loop-i-preserved
loop-i-preserved g c = (
  c.act-held.ensures.lent ∙ c.loop-i.invariant.0,
  subst (SoFar g.R.Rule.fault g.R.Rule.run c.args.steps.now (state_of c.args.draft) (c.loop-i.i + 1) (state_of c.act-held.result)) (sym (ap (map g.A.Answer.number) c.write.ensures ∙ map-set g.A.Answer.number c.loop-i.answers c.loop-i.i c.told.result))
      (one_more _ _ _ _ _ _ _ _ _ c.loop-i-test.true c.index-steps-i.is c.loop-i.invariant.1 c.act-held.ensures.plan _ (c.told.ensures ∙ c.act-held.ensures.answer)),
)

pub returns-clause-leads : goal.returns-clause-leads
returns-clause-leads g c = λ h l. leads-on g.R.Rule.fault g.R.Rule.run g.R.Rule.holds h (calls_all c.args.steps.now) _ _ (all-played g.R.Rule.fault g.R.Rule.run _ _ _ _ _ (omega arith) c.loop-i.invariant.1).0 l
