use Rattle.std.proofs.Common.{◌≡◌}
use Rattle.covering.proofs.Flips.{Flipping, Placed}
use Rattle.covering.proofs.flip.flip.Given as goal

abbrev pub invariant-loop-step : goal.invariant-loop-step
invariant-loop-step l =
    (l.pairs.takers ≡ l.initial.pairs.takers) × (l.pairs.sensors ≡ l.initial.pairs.sensors) × (l.pairs.claimed ≡ l.initial.pairs.claimed)
    × Flipping l.initial.pairs.takers l.initial.pairs.sensors l.initial.pairs.claimed l.w l.from l.initial.pairs.owner
    l.pairs.notes l.pairs.owner l.i l._step
    × (l.pairs.idle ≡ l.initial.pairs.idle) × Placed l.initial.pairs.owner l.pairs.owner l.free l.i
