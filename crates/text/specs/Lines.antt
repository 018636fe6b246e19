-- The planner's texts, as ASCII bytes: numbers in decimal, parts divided by one space, each line ended by a newline. Assumes nothing.
use Rattle.std.specs.Prelude.{◌≡◌, ℕ, zero, suc, ◌+◌, ◌-◌, ◌^◌, ◌<◌, ◌≤◌, cond, List, [], ◌∷◌, ◌++◌, length, take, drop, replicate, codes, decimal, ◌==◌, slice_index}
use Rattle.masks.specs.Masks.{has}
use Rattle.model.specs.Capacity.{most_sensors, most_sets}
use Rattle.model.specs.Board.{Board}
use Rattle.model.specs.Box.{Box, live}

-- the members of the mask m below a number, rising, a space before each
unfoldable pub members : ℕ → ℕ → List ℕ
members m zero = []
members m (suc i) = members m i ++ cond (has m i) (32 ∷ decimal i) []

-- the members of a mask of 64 bits, or a dash where it has none
abbrev pub bound : ℕ → List ℕ
bound m = cond (m == 0) (codes " -") (members m 64)

-- a sensor's number and its candidates
abbrev pub sensor_line : ℕ → ℕ → List ℕ
sensor_line i m = codes "sensor " ++ (decimal i ++ (codes ":" ++ (bound m ++ codes "\n")))

-- a set's number and its two bounds
abbrev pub set_line : ℕ → ℕ → ℕ → List ℕ
set_line j lo hi = codes "set " ++ (decimal j ++ (codes ":" ++ (bound lo ++ (codes " /" ++ (bound hi ++ codes "\n")))))

-- the lines of the first sensors, from the list of their candidates
unfoldable pub sensor_lines : List ℕ → ℕ → List ℕ
sensor_lines cands zero = []
sensor_lines cands (suc i) = sensor_lines cands i ++ sensor_line i (slice_index cands i)

-- the lines of the first sets, from the lists of their bounds
unfoldable pub set_lines : List ℕ → List ℕ → ℕ → List ℕ
set_lines lo hi zero = []
set_lines lo hi (suc j) = set_lines lo hi j ++ set_line j (slice_index lo j) (slice_index hi j)

-- what is written of a plan that no layout meets
abbrev pub dead_text : List ℕ
dead_text = codes "dead end\n"

-- the number of a refusal, and the position of what was refused
abbrev pub refused_line : ℕ → ℕ → List ℕ
refused_line number position = codes "refused " ++ (decimal number ++ (codes " at " ++ (decimal position ++ codes "\n")))

-- a box: the lines of its sensors and of its sets, or the dead text where it is dead
abbrev pub listing : Board → Box → List ℕ
listing bd b = cond (live bd b) (sensor_lines b.cands bd.sensors ++ set_lines b.lows b.highs bd.sets) dead_text

-- a text was put at a place, if it fits there; r is the place after it
pub record Put (text : List ℕ) (at r : ℕ) (out out' : List ℕ) : Type 0 where
  pub after : r ≡ at + length text
  pub bytes : r ≤ length out → out' ≡ take at out ++ (text ++ drop r out)

-- the output begins with the whole text, n bytes, and is unchanged after it
pub record Written (text out out' : List ℕ) (n : ℕ) : Type 0 where
  pub size : n ≡ length text
  pub fits : n ≤ length out
  pub bytes : out' ≡ text ++ drop n out

-- the output is shorter than the text, and unchanged
pub record TooShort (text out out' : List ℕ) : Type 0 where
  pub short : length out < length text
  pub same : out' ≡ out

-- the length of the longest listing of any board
abbrev pub longest_listing : ℕ
longest_listing = 24300

-- no listing is longer; one is as long
pub record LongestHolds : Type 0 where
  pub most : (bd : Board) (b : Box) → bd.sensors ≤ most_sensors → bd.sets ≤ most_sets → length (listing bd b) ≤ longest_listing
  pub reached : let full : ℕ → List ℕ = λ n. replicate n (2 ^ 64 - 1) in
      length (sensor_lines (full most_sensors) most_sensors ++ set_lines (full most_sets) (full most_sets) most_sets) ≡ longest_listing
