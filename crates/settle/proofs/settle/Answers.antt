use Rattle.std.proofs.Common.{◌∙◌}
use Rattle.settle.proofs.Rounds.{start, again, ends, falls, rests}
use Rattle.settle.proofs.settle.Goals as goal

pub loop-moved-init : goal.loop-moved-init
loop-moved-init g c = start g.met.R.Rule.lawful c.args.rules.now c.args.d.now

pub loop-moved-smaller : goal.loop-moved-smaller
loop-moved-smaller g c =
    let e = c.round.ensures in
    falls g.met.R.Rule.lawful c.args.rules.now c.args.d.now c.loop-moved.d c.round.new.d c.loop-moved.moved c.round.result c.loop-moved.invariant (record { board_same = e.board; result = e.model; progress = e.moved }) c.loop-moved-test.true

pub loop-moved-preserved : goal.loop-moved-preserved
loop-moved-preserved g c =
    let e = c.round.ensures in
    again g.met.R.Rule.lawful c.args.rules.now c.args.d.now c.loop-moved.d c.round.new.d c.loop-moved.moved c.round.result c.loop-moved.invariant (record { board_same = e.board; result = e.model; progress = e.moved }) c.loop-moved-test.true

pub returns : goal.returns
returns g c =
    let e = c.round.ensures in
    record {
      board = e.board ∙ c.loop-moved.invariant.board_same;
      model = rests g.met.R.Rule.lawful c.args.rules.now c.args.d.now c.loop-moved.d c.round.new.d c.loop-moved.moved c.round.result c.loop-moved.invariant (record { board_same = e.board; result = e.model; progress = e.moved }) c.loop-moved-test.false;
      moved = ends g.met.R.Rule.lawful c.args.rules.now c.args.d.now c.loop-moved.d c.round.new.d c.loop-moved.moved c.round.result c.loop-moved.invariant (record { board_same = e.board; result = e.model; progress = e.moved }) c.loop-moved-test.false;
    }
