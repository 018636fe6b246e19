use Rattle.spares.proofs.Moves.{offered-start, offered-more, offered-less, offered-full, offered-all}
use Rattle.spares.proofs.free.offered.Goals as goal

pub loop-i-init : goal.loop-i-init
loop-i-init c = simp (c.into_iter-i-iterator.ensures.into_iter_gives, c.members-i-items.ensures) (offered-start _ _ _ _)

pub loop-i-preserved-then-notes-i-eq-NONE : goal.loop-i-preserved-then-notes-i-eq-NONE
loop-i-preserved-then-notes-i-eq-NONE c = offered-more c.in-Some.ensures.steps.1 c.loop-i.invariant c.if-notes-i-eq-NONE.true

pub loop-i-preserved : goal.loop-i-preserved
loop-i-preserved c = offered-less c.in-Some.ensures.steps.1 c.loop-i.invariant c.if-notes-i-eq-NONE.false

pub returns-then-found-claimed : goal.returns-then-found-claimed
returns-then-found-claimed c = offered-full c.if-found-claimed.true c.loop-i.invariant

pub returns : goal.returns
returns c = offered-all c.in-None.ensures.steps.0 c.loop-i.invariant
