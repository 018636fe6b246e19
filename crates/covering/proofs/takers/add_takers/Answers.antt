use Rattle.std.proofs.Common.{rules}
use Rattle.covering.proofs.Turns.{added-start, added_more, added-all}
use Rattle.covering.proofs.takers.add_takers.Goals as goal

pub loop-v-init : goal.loop-v-init
loop-v-init c = simp (c.into_iter-v-iterator.ensures.into_iter_gives, c.members-v-items.ensures) (added-start c.args.slots c.args.who c.args.takers.now (search rules))

pub loop-v-preserved : goal.loop-v-preserved
loop-v-preserved c = added_more c.in-Some.ensures.steps.1 c.loop-v.invariant

pub returns : goal.returns
returns c = added-all c.in-None.ensures.steps.0 c.loop-v.invariant
