-- Count A least most: A has least to most members. Assumes nothing.
use Rattle.std.specs.Prelude.{ℕ, ◌-◌, ◌^◌, Bool, cond, ◌&&◌, List, [], ◌∷◌, ◌==◌, count_ones, nat_le, nat_lt}
use Rattle.masks.specs.Masks.{without}
use Rattle.model.specs.Board.{Board}
use Rattle.model.specs.Layout.{Layout, set_of}
use Rattle.model.specs.Box.{Box, lo, hi}
use Rattle.model.specs.Tight.{tight}
use Rattle.model.specs.Refusals.{Cause, refusal}
use Rattle.model.specs.Entries.{Entry}
use Rattle.sets.specs.Bounds.{bound_entries}
use Rattle.sets.specs.declared.count.Count.{Count}

-- no such set; no range, or one past the most numbers that a set may have; how many numbers the board has is not asked
abbrev pub count_causes : Board → ℕ → ℕ → ℕ → List Cause
count_causes bd a least most = (3, nat_le bd.sets a) ∷ (7, nat_lt most least) ∷ (7, nat_lt 64 most) ∷ []

abbrev pub count_fault : Board → Count → ℕ
count_fault bd r = refusal (count_causes bd r.a r.least r.most)

-- as many as that
abbrev pub counted : ℕ → ℕ → ℕ → Bool
counted least most m = nat_le least (count_ones m) && nat_le (count_ones m) most

abbrev pub count_holds : Board → Count → Layout → Bool
count_holds bd r x = counted r.least r.most (set_of x r.a)

abbrev pub count_run : Board → Count → Box → Box
count_run bd r = tight bd (count_holds bd r)

-- what hi loses: all but lo where lo has the most already, all where it has more
unfoldable pub count_out : ℕ → ℕ → ℕ → ℕ
count_out l h most = cond (nat_lt (count_ones l) most) 0 (cond (count_ones l == most) (without h l) h)

-- what lo gains: hi where that has just the least, every number there can be, so that the box dies, where it has fewer
unfoldable pub count_in : ℕ → ℕ → ℕ
count_in h least = cond (nat_lt least (count_ones h)) 0 (cond (count_ones h == least) h (2 ^ 64 - 1))

abbrev pub count_entries : Count → Box → List Entry
count_entries r x = bound_entries r.a (count_out (lo x r.a) (hi x r.a) r.most) (count_in (hi x r.a) r.least)
