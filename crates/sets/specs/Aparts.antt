-- Apart A B: A and B share no member. Assumes nothing.
use Rattle.std.specs.Prelude.{ℕ, Bool, List, [], ◌∷◌, ◌==◌, bit_and}
use Rattle.model.specs.Board.{Board}
use Rattle.model.specs.Layout.{Layout, set_of}
use Rattle.model.specs.Box.{Box, lo}
use Rattle.model.specs.Tight.{tight}
use Rattle.model.specs.Refusals.{refusal}
use Rattle.model.specs.Entries.{Entry, bar}
use Rattle.sets.specs.Fits.{pair_causes}
use Rattle.sets.specs.declared.apart.Apart.{Apart}

abbrev pub apart_fault : Board → Apart → ℕ
apart_fault bd r = refusal (pair_causes bd r.a r.b)

abbrev pub apart_holds : Board → Apart → Layout → Bool
apart_holds bd r x = bit_and (set_of x r.a) (set_of x r.b) == 0

abbrev pub apart_run : Board → Apart → Box → Box
apart_run bd r = tight bd (apart_holds bd r)

-- what the run enters: each loses what the other surely has
abbrev pub apart_entries : Apart → Box → List Entry
apart_entries r x = bar r.a (lo x r.b) ∷ bar r.b (lo x r.a) ∷ []
