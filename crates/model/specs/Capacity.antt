-- How large a board and a rule table may be. No lemma depends on these values. Assumes nothing.
use Rattle.std.specs.Prelude.{ℕ}

abbrev pub most_sensors : ℕ
most_sensors = 64

abbrev pub most_slots : ℕ
most_slots = 64

abbrev pub most_sets : ℕ
most_sets = 32

-- bits of the kind word
abbrev pub kind_bits : ℕ
kind_bits = 32

-- places of a rule table that are used at the most
abbrev pub most_places : ℕ
most_places = 256
