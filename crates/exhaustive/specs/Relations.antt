-- Where the rules hold at a layout of a small board, said anew and apart from the planner's definitions. Assumes nothing.
use Rattle.std.specs.Prelude.{ℕ, Bool, cond, not, ◌&&◌, ◌||◌, ◌==◌, bit_or, count_ones, nat_le}
use Rattle.roots.specs.declared.implication.Implication.{Implication}
use Rattle.roots.specs.declared.implication.Implication.TheVariants.{Excluded, Implies, ImpliedBy}
use Rattle.kinds.specs.declared.SheetRule.{SheetRule}
use Rattle.kinds.specs.declared.SheetRule.TheVariants as kind
use Rattle.exhaustive.specs.declared.small.Layout.{Layout}
use Rattle.exhaustive.specs.Small.{single, meeting, inside, slot_at, set_at}

-- the slot of sensor i if that is in s
abbrev pub slot_in_lem : Layout → ℕ → ℕ → ℕ
slot_in_lem x s i = cond (meeting s (single i)) (slot_at x i) 0

-- the slots of the sensors in s
abbrev pub slots_of : Layout → ℕ → ℕ
slots_of x s = bit_or (bit_or (slot_in_lem x s 0) (slot_in_lem x s 1)) (slot_in_lem x s 2)

-- sensor i if it is in g and its slot is in t
abbrev pub root_in_lem : Layout → ℕ → ℕ → ℕ → ℕ
root_in_lem x g t i = cond (meeting g (single i) && meeting (slot_at x i) t) (single i) 0

-- the sensors of g whose slot is in t
abbrev pub roots_of_lem : Layout → ℕ → ℕ → ℕ
roots_of_lem x g t = bit_or (bit_or (root_in_lem x g t 0) (root_in_lem x g t 1)) (root_in_lem x g t 2)

-- p to q members
abbrev pub counted : ℕ → ℕ → ℕ → Bool
counted m p q = nat_le p (count_ones m) && nat_le (count_ones m) q

-- members without a gap: below three, only 0 and 2 without 1 leave one
abbrev pub rowed : ℕ → Bool
rowed m = not (m == 0) && not (m == 5)

abbrev pub sheet_kept : SheetRule → Layout → Bool
sheet_kept (kind.Range r) x = inside (set_at x r.s) r.g && set_at x r.t == slots_of x (set_at x r.s)
sheet_kept (kind.Roots r) x = set_at x r.s == roots_of_lem x r.g (set_at x r.t)
sheet_kept (kind.Within r) x = inside (set_at x r.a) (set_at x r.b)
sheet_kept (kind.Apart r) x = not (meeting (set_at x r.a) (set_at x r.b))
sheet_kept (kind.Count r) x = counted (set_at x r.a) r.least r.most
sheet_kept (kind.Row r) x = rowed (set_at x r.a)

abbrev pub part_kept : Implication → Layout → Bool
part_kept (Excluded i s) x = not (meeting (set_at x s) (single i))
part_kept (Implies i s t) x = not (meeting (set_at x s) (single i)) || meeting (slot_at x i) (set_at x t)
part_kept (ImpliedBy i s t) x = not (meeting (slot_at x i) (set_at x t)) || meeting (set_at x s) (single i)
