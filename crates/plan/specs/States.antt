-- The plan that a draft or a settled plan stands for, and what the calls on it promise. Assumes nothing.
use Rattle.std.specs.Prelude.{◌≡◌, ℕ, ◌-◌, min, Bool, true, false, cond, List, length, take, ◌==◌, slice_set}
use Rattle.model.specs.Capacity.{most_places}
use Rattle.model.specs.Calls.{State}
use Rattle.board.specs.declared.domains.Domains.{Domains}
use Rattle.board.specs.Model.{board, model}
use Rattle.plan.specs.declared.draft.Draft.{Draft}
use Rattle.plan.specs.declared.settled.Settled.{Settled}

-- a box over a table: the first `count` of its places hold rules
abbrev pub state : {R : Type 0} → Domains → List R → ℕ → Bool → State R
state d places count done = record { board = board d; places = length places; box = model d; rules = take count places; done = done }

-- the plan of a draft
abbrev pub state_of : {R : Type 0} → Draft R → State R
state_of x = state x.plan x.places.now x.count false

-- the plan of a settled plan
abbrev pub settled_of : {R : Type 0} → Settled R → State R
settled_of x = state x.plan x.places.now x.count true

-- the places of both are one loan, so that the caller gets them back
abbrev pub SameLoan : {R : Type 0} → Draft R → Draft R → Type 0
SameLoan x y = y.places.ghost_name ≡ x.places.ghost_name

-- all that a draft holds, the places without a rule too, is as it was
abbrev pub Unchanged : {R : Type 0} → Draft R → Draft R → Type 0
Unchanged x y = (y.plan ≡ x.plan) × (y.places.now ≡ x.places.now) × (y.count ≡ x.count)

-- what a post leaves in the places, those that hold no rule too
abbrev pub posted_places : {R : Type 0} → ℕ → List R → ℕ → R → List R
posted_places number places count r = cond (number == 0) (slice_set places count r) places

-- how many more rules the table has places for
abbrev pub free_places : {R : Type 0} → State R → ℕ
free_places s = min s.places most_places - length s.rules
