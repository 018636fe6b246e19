use Rattle.settle.proofs.Rounds.{alone, none_yet, one_more, whole}
use Rattle.settle.proofs.round.Goals as goal

pub loop-rule-init : goal.loop-rule-init
loop-rule-init g c = none_yet c.args.rules.now _

pub loop-rule-preserved : goal.loop-rule-preserved
loop-rule-preserved g c =
    let e = c.step-changed.ensures in
    one_more c.args.rules.now c.loop-rule.rule-index c.rule-item.result _ _ _ _ _ c.loop-rule-test.true c.rule-item.is c.loop-rule.invariant
    (alone c.rule-item.result _ _ _ e.board e.model e.moved)

pub returns : goal.returns
returns g c =
    let w = whole c.args.rules.now c.loop-rule.rule-index _ _ _ c.loop-rule-test.false c.loop-rule.invariant in
    record { board = w.board_same; model = w.result; moved = w.progress }
