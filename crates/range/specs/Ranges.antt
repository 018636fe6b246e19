-- Range G S T: S lies within G, and T is exactly the set of the slots of the sensors in S. Assumes nothing.
use Rattle.std.specs.Prelude.{ℕ, ◌^◌, Bool, ◌&&◌, List, ◌==◌}
use Rattle.masks.specs.Masks.{has, within}
use Rattle.model.specs.Board.{Board}
use Rattle.model.specs.Layout.{Layout, slot_of, set_of}
use Rattle.model.specs.Box.{Box}
use Rattle.model.specs.Tight.{tight, union, below}
use Rattle.model.specs.Refusals.{Cause, refusal}
use Rattle.model.specs.Fits.{group_causes}
use Rattle.range.specs.declared.range.Range.{Range}

-- two sets that are there, sensors of the board, and then a sensor set and a slot set
abbrev pub range_causes : Board → ℕ → ℕ → ℕ → List Cause
range_causes = group_causes

-- the slots of the sensors in a mask
abbrev pub slots_of_all : Board → Layout → ℕ → ℕ
slots_of_all bd x m = union (λ i. 2 ^ slot_of x i) (below (has m) bd.sensors)

abbrev pub ranged : Board → ℕ → ℕ → ℕ → Layout → Bool
ranged bd g s t x = within (set_of x s) g && set_of x t == slots_of_all bd x (set_of x s)

abbrev pub range_fault : Board → Range → ℕ
range_fault bd r = refusal (range_causes bd r.g r.s r.t)

abbrev pub range_holds : Board → Range → Layout → Bool
range_holds bd r = ranged bd r.g r.s r.t

abbrev pub range_run : Board → Range → Box → Box
range_run bd r = tight bd (range_holds bd r)
