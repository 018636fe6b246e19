-- The calls that each named constraint is. Assumes nothing.
use Rattle.std.specs.Prelude.{◌≡◌, ℕ, List, [], ◌∷◌, ◌++◌, count_ones}
use Rattle.masks.specs.Masks.{without, numbers}
use Rattle.model.specs.Board.{Board, room}
use Rattle.model.specs.Entries.{claim, bar}
use Rattle.model.specs.Calls.{State, Call, enter, post, answer, does, after}
use Rattle.model.specs.Refusals.{Cause, refusal}
use Rattle.kinds.specs.SheetRules.{sheet_fault, sheet_run}
use Rattle.kinds.specs.declared.SheetRule.{SheetRule}
use Rattle.kinds.specs.declared.SheetRule.TheVariants as kind

-- ---- rules by their fields

abbrev pub range_rule : ℕ → ℕ → ℕ → SheetRule
range_rule g s t = kind.Range (record { g = g; s = s; t = t })

abbrev pub roots_rule : ℕ → ℕ → ℕ → SheetRule
roots_rule g s t = kind.Roots (record { g = g; s = s; t = t })

abbrev pub count_rule : ℕ → ℕ → ℕ → SheetRule
count_rule a p q = kind.Count (record { a = a; least = p; most = q })

abbrev pub apart_rule : ℕ → ℕ → SheetRule
apart_rule a b = kind.Apart (record { a = a; b = b })

abbrev pub within_rule : ℕ → ℕ → SheetRule
within_rule a b = kind.Within (record { a = a; b = b })

-- ---- the parts

-- the numbers of the set's kind that are not in the mask
abbrev pub others : Board → ℕ → ℕ → ℕ
others bd j mask = without (numbers (room bd j)) mask

-- "set j is the mask": a claim of the mask, and a bar of the other numbers
abbrev pub is_calls : Board → ℕ → ℕ → List (Call SheetRule)
is_calls bd j mask = enter (claim j mask) ∷ enter (bar j (others bd j mask)) ∷ []

-- S is G, and T is the slots of S
abbrev pub range_calls : Board → ℕ → ℕ → ℕ → List (Call SheetRule)
range_calls bd g s t = is_calls bd s g ++ (post (range_rule g s t) ∷ [])

-- ---- the constraints

-- the sensors of G have p to q slots
abbrev pub n_value_calls : Board → ℕ → ℕ → ℕ → ℕ → ℕ → List (Call SheetRule)
n_value_calls bd g p q s t = range_calls bd g s t ++ (post (count_rule t p q) ∷ [])

-- the sensors of G have as many slots as they are
abbrev pub all_different_calls : Board → ℕ → ℕ → ℕ → List (Call SheetRule)
all_different_calls bd g s t = range_calls bd g s t ++ (post (count_rule t (count_ones g) (count_ones g)) ∷ [])

-- p to q sensors of G are on slots of V
abbrev pub among_calls : Board → ℕ → ℕ → ℕ → ℕ → ℕ → ℕ → List (Call SheetRule)
among_calls bd g v p q s t = is_calls bd t v ++ (post (roots_rule g s t) ∷ post (count_rule s p q) ∷ [])

-- T is the slots of G, W those of H, and a rule
abbrev pub groups_calls : Board → ℕ → ℕ → ℕ → ℕ → ℕ → ℕ → SheetRule → List (Call SheetRule)
groups_calls bd g h s t u w r = range_calls bd g s t ++ (range_calls bd h u w ++ (post r ∷ []))

-- the sensors of G and those of H have no slot in common
abbrev pub disjoint_calls : Board → ℕ → ℕ → ℕ → ℕ → ℕ → ℕ → List (Call SheetRule)
disjoint_calls bd g h s t u w = groups_calls bd g h s t u w (apart_rule t w)

-- the slots of the sensors of H are among those of the sensors of G
abbrev pub uses_calls : Board → ℕ → ℕ → ℕ → ℕ → ℕ → ℕ → List (Call SheetRule)
uses_calls bd g h s t u w = groups_calls bd g h s t u w (within_rule w t)

-- ---- what a named call does

-- the calls, one after the other
abbrev pub afterwards : List (Call SheetRule) → State SheetRule → State SheetRule
afterwards calls s = after sheet_fault sheet_run calls s

-- each of them is accepted
unfoldable pub Accepts : List (Call SheetRule) → State SheetRule → Type 0
Accepts [] s = Unit {0}
Accepts (c ∷ cs) s = (answer sheet_fault sheet_run c s ≡ 0) × Accepts cs (does sheet_fault sheet_run c s)

-- n is the answer: the first of the causes; where there is none, the plan is what the calls make of it, and each of them is accepted
pub record Whole (causes : List Cause) (calls : List (Call SheetRule)) (n : ℕ) (s t : State SheetRule) : Type 0 where
  pub answer : n ≡ refusal causes
  pub accepted : n ≡ 0 → t ≡ afterwards calls s
  pub each : n ≡ 0 → Accepts calls s
