-- Limits, claims and bars. Assumes nothing.
use Rattle.std.specs.Prelude.{ℕ, ◌^◌, Bool, true, false, List, [], ◌∷◌, ◌==◌, bit_and, bit_or, nat_le, nat_lt, slice_set}
use Rattle.masks.specs.Masks.{has, within, without}
use Rattle.model.specs.Board.{Board, room}
use Rattle.model.specs.Layout.{Layout, slot_of, set_of}
use Rattle.model.specs.Box.{Box, cand, lo, hi, live, dead}
use Rattle.model.specs.Refusals.{Cause}

-- of a sensor or a set, by a mask
pub data Entry : Type 0 where
  limit : ℕ → ℕ → Entry
  claim : ℕ → ℕ → Entry
  bar : ℕ → ℕ → Entry

-- a layout keeps a limit when the sensor's slot is in the mask, a claim when the set contains the mask, a bar when the two share nothing
unfoldable pub keeps : Entry → Layout → Bool
keeps (limit i m) x = has m (slot_of x i)
keeps (claim j m) x = within m (set_of x j)
keeps (bar j m) x = bit_and (set_of x j) m == 0

-- why an entry is refused: no such sensor or set, or a number that is not on the board
abbrev pub entry_causes : Board → Entry → List Cause
entry_causes bd (limit i m) = (2, nat_le bd.sensors i) ∷ (4, nat_le (2 ^ bd.slots) m) ∷ []
entry_causes bd (claim j m) = (3, nat_le bd.sets j) ∷ (4, nat_le (2 ^ room bd j) m) ∷ []
entry_causes bd (bar j m) = (3, nat_le bd.sets j) ∷ (4, nat_le (2 ^ room bd j) m) ∷ []

-- it names a sensor or a set of the board
abbrev pub placed : Board → Entry → Bool
placed bd (limit i m) = nat_lt i bd.sensors
placed bd (claim j m) = nat_lt j bd.sets
placed bd (bar j m) = nat_lt j bd.sets

-- a limit keeps the candidates in the mask, a claim adds the mask to lo, a bar takes it out of hi
unfoldable pub cut : Entry → Box → Box
cut (limit i m) b = record { cands = slice_set b.cands i (bit_and (cand b i) m); lows = b.lows; highs = b.highs }
cut (claim j m) b = record { cands = b.cands; lows = slice_set b.lows j (bit_or (lo b j) m); highs = b.highs }
cut (bar j m) b = record { cands = b.cands; lows = b.lows; highs = slice_set b.highs j (without (hi b j) m) }

-- a box as it is stored: where it is dead, the dead box
unfoldable pub stored : Board → Box → Box
stored bd b = elim (live bd b) [ true ↦ b | false ↦ dead bd ]

-- what an entry makes of a box; one that names nothing on the board makes nothing of it
unfoldable pub narrow : Board → Entry → Box → Box
narrow bd e b = elim (placed bd e) [ true ↦ stored bd (cut e b) | false ↦ b ]

-- several, one after the other
abbrev pub narrowed : {B E : Type 0} → (E → B → B) → List E → B → B
narrowed narrow [] b = b
narrowed narrow (e ∷ es) b = narrowed narrow es (narrow e b)
