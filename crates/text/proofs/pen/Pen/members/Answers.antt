use Rattle.text.proofs.Puts.{puts_join}
use Rattle.text.proofs.Rising.{listed_none, listed_more, listed_all}
use Rattle.text.proofs.pen.Pen.members.Goals as goal

pub loop-i-init : goal.loop-i-init
loop-i-init c = simp (c.into_iter-i-iterator.ensures.into_iter_gives, c.members-i-items.ensures) (listed_none c.args.mask c.args.self.now)

pub loop-i-preserved : goal.loop-i-preserved
loop-i-preserved c =
    let s = c.in-Some.ensures.steps in
    listed_more s.0 s.1 (puts_join c.put.ensures c.number.ensures) c.loop-i.invariant

pub returns : goal.returns
returns c = listed_all c.in-None.ensures.steps.0 c.loop-i.invariant
