use Rattle.std.proofs.Common.{◌≡◌}
use Rattle.covering.specs.Paired.{AllBusy}
use Rattle.covering.proofs.Coverings.{Under}
use Rattle.covering.proofs.cover.cover.Given as goal

abbrev pub invariant-loop-w : goal.invariant-loop-w
invariant-loop-w l =
    (l.pairs.takers ≡ l.initial.pairs.takers) × (l.pairs.sensors ≡ l.sensors)
    × Under l.pairs.takers l.pairs.sensors l.claimed l.w-iterator.left l.pairs.claimed l.pairs.notes l.pairs.owner
    × AllBusy l.pairs
