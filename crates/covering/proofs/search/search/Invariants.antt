use Rattle.std.proofs.Common.{◌≡◌, ◌+◌}
use lib.Bits.{bit_or}
use lib.Count.{ones}
use Rattle.covering.specs.Search.{Hunt}
use Rattle.covering.proofs.Hunts.{Round}
use Rattle.covering.proofs.search.search.Given as goal

abbrev pub invariant-search : goal.invariant-search
invariant-search l = Hunt l.pairs.takers l.pairs.owner l.sensors l.w l.from l.unseen l.reached l.pending

-- the sensors not seen, and the slots whose sensors were not looked at
abbrev pub decreases-search : goal.decreases-search
decreases-search l = ones l.unseen + ones l.pending

abbrev pub invariant-loop-i : goal.invariant-loop-i
invariant-loop-i l =
    Round l.pairs.takers l.pairs.owner l.sensors l.w l.from l.unseen l.fresh l.reached l.pending l.u
    × (ones (bit_or l.unseen l.fresh) + ones l.pending ≡ ones (bit_or l.initial.unseen l.initial.fresh) + ones l.initial.pending)

abbrev pub decreases-loop-i : goal.decreases-loop-i
decreases-loop-i l = ones l.fresh
