use lib.Bits.{bit_and}
use Rattle.spares.specs.Free.{Offered}
use Rattle.spares.proofs.free.offered.Given as goal

abbrev pub invariant-loop-i : goal.invariant-loop-i
invariant-loop-i l = Offered l.cands l.notes.pairs.owner (bit_and l.notes.pairs.sensors l.notes.pairs.idle) l.notes.pairs.claimed l.i-iterator.left l.found
