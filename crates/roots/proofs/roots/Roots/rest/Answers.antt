use Rattle.roots.proofs.Sweeps.{at-rest, brought}
use Rattle.roots.proofs.roots.Roots.rest.Goals as goal

pub returns-then-stirred-clause-model : goal.returns-then-stirred-clause-model
returns-then-stirred-clause-model c =
    let e = c.sweep-stirred.ensures in
    brought c.args.self.now c.args.d.now c.requires c.sweep-stirred.new.d c.settle_parts.new.d c.sweep-stirred.result
    (record { board_same = e.board; result = e.model; progress = e.moved }) c.if-stirred.true c.settle_parts.ensures.model

pub returns-else-stirred-clause-model : goal.returns-else-stirred-clause-model
returns-else-stirred-clause-model c =
    let e = c.sweep-stirred.ensures in
    at-rest c.args.self.now c.args.d.now c.requires c.sweep-stirred.new.d c.sweep-stirred.result
    (record { board_same = e.board; result = e.model; progress = e.moved }) c.if-stirred.false
