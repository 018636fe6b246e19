use Rattle.roots.proofs.Sweeps.{more-swept, none-swept}
use Rattle.roots.proofs.roots.Roots.sweep.Goals as goal

pub loop-sensor-init : goal.loop-sensor-init
loop-sensor-init c = none-swept c.args.self.now c.args.d.now

pub loop-sensor-preserved : goal.loop-sensor-preserved
loop-sensor-preserved c =
    let e = c.stir-moved.ensures in
    more-swept c.args.self.now c.loop-sensor.sensor _ _ _ _ _ c.loop-sensor.invariant (record { board_same = e.board; result = e.model; progress = e.moved })
