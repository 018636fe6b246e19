-- What a sensor and its slot have to do with two sets: the parts of a Roots rule. Assumes nothing.
use Rattle.std.specs.Prelude.{ℕ, ◌^◌, Bool, cond, not, ◌&&◌, ◌||◌, List, [], ◌∷◌, ◌==◌, bit_and, count_ones, nat_le}
use Rattle.masks.specs.Masks.{has, without}
use Rattle.model.specs.Board.{Board}
use Rattle.model.specs.Layout.{Layout, slot_of, set_of}
use Rattle.model.specs.Box.{Box, cand, lo, hi}
use Rattle.model.specs.Tight.{tight}
use Rattle.model.specs.Refusals.{Cause, refusal}
use Rattle.model.specs.Entries.{Entry, limit, claim, bar}
use Rattle.roots.specs.declared.implication.Implication.{Implication}
use Rattle.roots.specs.declared.implication.Implication.TheVariants.{Excluded, Implies, ImpliedBy}

-- a sensor and a set of sensors
abbrev pub excluded_causes : Board → ℕ → ℕ → List Cause
excluded_causes bd i s = (2, nat_le bd.sensors i) ∷ (3, nat_le bd.sets s) ∷ (5, has bd.kinds s) ∷ []

-- a sensor, a set of sensors and a set of slots
abbrev pub linked_causes : Board → ℕ → ℕ → ℕ → List Cause
linked_causes bd i s t =
    (2, nat_le bd.sensors i) ∷ (3, nat_le bd.sets s) ∷ (3, nat_le bd.sets t) ∷ (5, has bd.kinds s) ∷ (5, not (has bd.kinds t)) ∷ []

abbrev pub implication_fault : Board → Implication → ℕ
implication_fault bd (Excluded i s) = refusal (excluded_causes bd i s)
implication_fault bd (Implies i s t) = refusal (linked_causes bd i s t)
implication_fault bd (ImpliedBy i s t) = refusal (linked_causes bd i s t)

-- the sensor that it is about
abbrev pub subject : Implication → ℕ
subject (Excluded i s) = i
subject (Implies i s t) = i
subject (ImpliedBy i s t) = i

-- of a sensor i, its slot w and the members p and q of two sets
abbrev pub implies : ℕ → ℕ → ℕ → ℕ → Bool
implies i w p q = not (has p i) || has q w

abbrev pub implied_by : ℕ → ℕ → ℕ → ℕ → Bool
implied_by i w p q = not (has q w) || has p i

abbrev pub implied : Board → Implication → Layout → Bool
implied bd (Excluded i s) x = not (has (set_of x s) i)
implied bd (Implies i s t) x = implies i (slot_of x i) (set_of x s) (set_of x t)
implied bd (ImpliedBy i s t) x = implied_by i (slot_of x i) (set_of x s) (set_of x t)

abbrev pub implication_run : Board → Implication → Box → Box
implication_run bd q = tight bd (implied bd q)

-- ---- what the runs enter

-- the sensor's slot is one of `left`, and where that is just one, the entry `sole` of it is made too
abbrev pub confined : (ℕ → Entry) → ℕ → ℕ → List Entry
confined sole i left = limit i left ∷ cond (count_ones left == 1) (sole left ∷ []) []

-- the sensor is surely in s: its slot is in t; it has no candidate for t: it is not in s
abbrev pub implies_entries : ℕ → ℕ → ℕ → Box → List Entry
implies_entries i s t x =
    let left = bit_and (cand x i) (hi x t) in
    cond (has (lo x s) i) (confined (claim t) i left) (cond (left == 0) (bar s (2 ^ i) ∷ []) [])

-- the sensor is surely not in s: its slot is not in t; all its candidates are surely in t: it is in s
abbrev pub implied_by_entries : ℕ → ℕ → ℕ → Box → List Entry
implied_by_entries i s t x =
    let left = without (cand x i) (lo x t) in
    cond (has (hi x s) i) (cond (left == 0) (claim s (2 ^ i) ∷ []) []) (confined (bar t) i left)

abbrev pub entries : Implication → Box → List Entry
entries (Excluded i s) x = bar s (2 ^ i) ∷ []
entries (Implies i s t) x = implies_entries i s t x
entries (ImpliedBy i s t) x = implied_by_entries i s t x

-- the sensor may be in s or not, and its slot in t or not: its implications say nothing
abbrev pub unsure : ℕ → ℕ → ℕ → Box → Bool
unsure i s t x = not (has (lo x s) i) && has (hi x s) i && not (bit_and (cand x i) (hi x t) == 0) && not (without (cand x i) (lo x t) == 0)
