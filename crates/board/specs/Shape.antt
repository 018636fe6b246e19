-- What a stored box keeps, over its rows. Assumes nothing.
use Rattle.std.specs.Prelude.{◌≡◌, ℕ, ◌^◌, ◌<◌, ◌≤◌, Bool, false, List, length, take, slice_index}
use Rattle.model.specs.Capacity.{most_sensors, most_sets}
use Rattle.model.specs.Board.{Board, room}
use Rattle.model.specs.Box.{Box, live}

-- the box that padded rows stand for
abbrev pub box_of : Board → List ℕ → List ℕ → List ℕ → Box
box_of bd c l h = record { cands = take bd.sensors c; lows = take bd.sets l; highs = take bd.sets h }

-- zeros from place n on
abbrev pub Beyond : ℕ → List ℕ → Type 0
Beyond n xs = (i : ℕ) → n ≤ i → slice_index xs i ≡ 0

abbrev pub Long : List ℕ → List ℕ → List ℕ → Type 0
Long c l h = (length c ≡ most_sensors) × (length l ≡ most_sets) × (length h ≡ most_sets)

abbrev pub Padded : Board → List ℕ → List ℕ → List ℕ → Type 0
Padded bd c l h = Beyond bd.sensors c × Beyond bd.sets l × Beyond bd.sets h

-- candidates and upper bounds lie on the board
abbrev pub Fitted : Board → List ℕ → List ℕ → Type 0
Fitted bd c h = ((i : ℕ) → i < bd.sensors → slice_index c i < 2 ^ bd.slots) × ((j : ℕ) → j < bd.sets → slice_index h j < 2 ^ room bd j)

-- a dead box has zeros everywhere
abbrev pub Gone : Bool → List ℕ → Type 0
Gone t xs = (i : ℕ) → t ≡ false → slice_index xs i ≡ 0

abbrev pub Canon : Board → List ℕ → List ℕ → List ℕ → Type 0
Canon bd c l h = let t = live bd (box_of bd c l h) in Gone t c × Gone t l × Gone t h
