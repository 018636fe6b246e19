-- Layouts of small boards, read by number. Assumes nothing.
use Rattle.std.specs.Prelude.{ℕ, Bool, cond, not, ◌==◌, bit_and, slice_index}
use Rattle.exhaustive.specs.declared.small.Layout.{Layout}

-- the mask of one number below three
abbrev pub single : ℕ → ℕ
single i = cond (i == 0) 1 (cond (i == 1) 2 4)

abbrev pub meeting : ℕ → ℕ → Bool
meeting a b = not (bit_and a b == 0)

abbrev pub inside : ℕ → ℕ → Bool
inside a b = bit_and a b == a

-- the slot of a sensor, as a mask
abbrev pub slot_at : Layout → ℕ → ℕ
slot_at x i = cond (i == 0) (slice_index x.slots 0) (cond (i == 1) (slice_index x.slots 1) (slice_index x.slots 2))

-- the members of a set
abbrev pub set_at : Layout → ℕ → ℕ
set_at x j = cond (j == 0) (slice_index x.sets 0) (slice_index x.sets 1)
