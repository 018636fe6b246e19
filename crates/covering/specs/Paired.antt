-- The facts on a covering as the code holds it, by the name of its pairs. Assumes nothing.
use Rattle.covering.specs.Matching.{Matching, Busy}
use Rattle.covering.specs.declared.notes.Pairs.{Pairs}

-- the notes cover just the claimed slots
abbrev pub Matched : Pairs → Type 0
Matched p = Matching p.takers p.sensors p.claimed p.notes p.owner

-- a sensor that is not idle has a slot
abbrev pub AllBusy : Pairs → Type 0
AllBusy p = Busy p.sensors p.idle p.owner
