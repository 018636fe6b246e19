use Rattle.std.proofs.Common.{◌≡◌, length, None}
use Rattle.sheet.specs.Files.{unread}
use Rattle.load.specs.Walks.{walks_on}
use Rattle.plan.specs.States.{state_of}
use Rattle.load.specs.Loads.{first_fault, closing}
use Rattle.load.proofs.enter.enter_records.Given as goal

abbrev pub invariant-loop-one : goal.invariant-loop-one
invariant-loop-one l =
    (l.draft.places.ghost_name ≡ l.initial.draft.places.ghost_name)
    × (first_fault (state_of l.initial.draft) (walks_on l.initial.reader) ≡ None
    → (first_fault (state_of l.draft) (walks_on l.reader) ≡ None) × (closing (state_of l.initial.draft) (walks_on l.initial.reader) ≡ closing (state_of l.draft) (walks_on l.reader)))

abbrev pub decreases-loop-one : goal.decreases-loop-one
decreases-loop-one l = length (unread l.reader)
