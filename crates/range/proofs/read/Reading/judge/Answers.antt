use Rattle.std.proofs.Common.{get_or, sym, ◌∙◌, rules}
use Rattle.std.specs.Prelude.{is_some}
use Rattle.covering.specs.Covering.{candidate}
use Rattle.range.specs.Judged.{Looked}
use Rattle.range.proofs.Judging.{judged-all, judged-freed, judged-held, judged-start}
use Rattle.range.proofs.read.Reading.judge.Goals as goal
use Rattle.range.proofs.read.Reading.judge.Goals.{After-kept}

-- what the sensor keeps, by its role
looked : (c : After-kept) → Looked (candidate c.args.self.now.cands) c.args.self.now.sensors c.args.self.now.claimed c.args.self.now.lower c.args.self.now.upper
    (get_or c.args.self.now.cands c.in-Some.i 0) c.kept.result c.in-Some.i (is_some c.role-role.result)
looked c =
    let was = c.args.self.now in
    let can = candidate was.cands in
    let n = c.in-Ok.ensures in
    c.kept.ensures can was.sensors was.claimed (c.role-role.ensures can was.sensors was.claimed (c.spare_all-spares.ensures was.sensors was.claimed n.covers n.busy))

pub loop-i-init : goal.loop-i-init
loop-i-init c =
    simp (c.into_iter-i-iterator.ensures.into_iter_gives, c.members-i-items.ensures)
    (judged-start c.args.self.now.cands _ _ _ _ (search rules) _ c.in-Ok.ensures.covers.covers)

pub loop-i-preserved-then-is_some : goal.loop-i-preserved-then-is_some
loop-i-preserved-then-is_some c =
    let p = c.in-Some.ensures.steps.1 in
    let l = looked (goal.at.loop-i-preserved-then-is_some c).After-kept in
    simp (c.with-bound.ensures.low p.low) (judged-held p c.loop-i.invariant c.kept.result (rw (sym c.is_some.ensures ∙ c.if-is_some.true) at l))

pub loop-i-preserved : goal.loop-i-preserved
loop-i-preserved c =
    let l = looked (goal.at.loop-i-preserved c).After-kept in
    judged-freed c.in-Some.ensures.steps.1 c.loop-i.invariant c.kept.result (rw (sym c.is_some.ensures ∙ c.if-is_some.false) at l)

pub returns : goal.returns
returns c = judged-all c.in-None.ensures.steps.0 c.loop-i.invariant
