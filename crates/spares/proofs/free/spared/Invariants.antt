use Rattle.std.proofs.Common.{◌≡◌, ℕ, true}
use lib.Count.{ones}
use Rattle.masks.specs.Masks.{has, without}
use Rattle.covering.specs.Covering.{candidate}
use Rattle.covering.specs.Paired.{AllBusy}
use Rattle.covering.specs.Notes.{NotesOf, sensor_of}
use Rattle.spares.specs.Free.{Freed}
use Rattle.spares.proofs.free.spared.Given as goal

-- the slots that are no more left have been gone through
abbrev pub invariant-loop-v : goal.invariant-loop-v
invariant-loop-v l =
    ((v : ℕ) → has l.left v ≡ true → has l.claimed v ≡ true)
    × (NotesOf (candidate l.cands) l.notes.pairs.sensors l.claimed l.notes → AllBusy l.notes.pairs
    → Freed (candidate l.cands) l.notes.pairs.sensors l.claimed (sensor_of l.notes) (without l.claimed l.left) l.free)

abbrev pub decreases-loop-v : goal.decreases-loop-v
decreases-loop-v l = ones l.left
