-- Within A B: A lies in B. Assumes nothing.
use Rattle.std.specs.Prelude.{ℕ, Bool, List, [], ◌∷◌}
use Rattle.masks.specs.Masks.{within, without}
use Rattle.model.specs.Board.{Board}
use Rattle.model.specs.Layout.{Layout, set_of}
use Rattle.model.specs.Box.{Box, lo, hi}
use Rattle.model.specs.Tight.{tight}
use Rattle.model.specs.Refusals.{refusal}
use Rattle.model.specs.Entries.{Entry, claim, bar}
use Rattle.sets.specs.Fits.{pair_causes}
use Rattle.sets.specs.declared.within.Within.{Within}

abbrev pub within_fault : Board → Within → ℕ
within_fault bd r = refusal (pair_causes bd r.a r.b)

abbrev pub within_holds : Board → Within → Layout → Bool
within_holds bd r x = within (set_of x r.a) (set_of x r.b)

abbrev pub within_run : Board → Within → Box → Box
within_run bd r = tight bd (within_holds bd r)

-- what the run enters: A loses what B cannot have, B gains what A surely has
abbrev pub within_entries : Within → Box → List Entry
within_entries r x = bar r.a (without (hi x r.a) (hi x r.b)) ∷ claim r.b (lo x r.a) ∷ []
