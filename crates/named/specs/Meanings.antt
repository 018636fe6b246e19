-- What the named constraints mean. Assumes nothing.
use Rattle.std.specs.Prelude.{◌≡◌, ℕ, zero, suc, ◌≤◌, Bool, true, false, ◌&&◌, ◌||◌, List, [], ◌∷◌, ◌==◌, ◌≢◌, slice_set}
use Rattle.masks.specs.Masks.{has, tally}
use Rattle.model.specs.Board.{Board}
use Rattle.model.specs.Layout.{Layout, On, layout, slot_of}
use Rattle.model.specs.Entries.{keeps}
use Rattle.model.specs.Calls.{Call, enter, post, settle, reopen}
use Rattle.kinds.specs.SheetRules.{sheet_holds}
use Rattle.kinds.specs.declared.SheetRule.{SheetRule}
use Rattle.named.specs.Parts.{all_different_calls, n_value_calls, among_calls, disjoint_calls, uses_calls}

-- ---- the constraints, in terms of the sensors' slots

-- some number below n passes
abbrev pub some : (ℕ → Bool) → ℕ → Bool
some p zero = false
some p (suc n) = p n || some p n

-- a sensor of g is on slot v
abbrev pub used : Board → Layout → ℕ → ℕ → Bool
used bd x g v = some (λ i. has g i && slot_of x i == v) bd.sensors

-- least to most
abbrev pub Between : ℕ → ℕ → ℕ → Type 0
Between p q n = (p ≤ n) × (n ≤ q)

-- no two sensors of g share a slot
abbrev pub AllDifferent : ℕ → Layout → Type 0
AllDifferent g x = (i j : ℕ) → has g i ≡ true → has g j ≡ true → slot_of x i ≡ slot_of x j → i ≡ j

-- p to q slots have a sensor of g
abbrev pub NValue : Board → ℕ → ℕ → ℕ → Layout → Type 0
NValue bd g p q x = Between p q (tally (used bd x g) bd.slots)

-- p to q sensors of g are on slots of v
abbrev pub Among : Board → ℕ → ℕ → ℕ → ℕ → Layout → Type 0
Among bd g v p q x = Between p q (tally (λ i. has g i && has v (slot_of x i)) bd.sensors)

-- no sensor of g is on the slot of a sensor of h
abbrev pub Disjoint : ℕ → ℕ → Layout → Type 0
Disjoint g h x = (i j : ℕ) → has g i ≡ true → has h j ≡ true → slot_of x i ≢ slot_of x j

-- the slot of each sensor of h is that of a sensor of g
abbrev pub Uses : ℕ → ℕ → Layout → Type 0
Uses g h x = (j : ℕ) → has h j ≡ true → (i : ℕ) × (has g i ≡ true) × (slot_of x i ≡ slot_of x j)

-- ---- the parts

-- an entry that the layout keeps, a rule that holds there
abbrev pub KeepsCall : Board → Layout → Call SheetRule → Type 0
KeepsCall bd x (enter e) = keeps e x ≡ true
KeepsCall bd x (post r) = sheet_holds bd r x ≡ true
KeepsCall bd x settle = Unit {0}
KeepsCall bd x reopen = Unit {0}

abbrev pub KeepsCalls : Board → Layout → List (Call SheetRule) → Type 0
KeepsCalls bd x [] = Unit {0}
KeepsCalls bd x (c ∷ cs) = KeepsCall bd x c × KeepsCalls bd x cs

-- the layout with other members of one set
abbrev pub chosen : Layout → ℕ → ℕ → Layout
chosen x j mask = layout x.slot (slice_set x.members j mask)

-- members for the helper sets, so that it is a layout of the board that keeps every part
pub record Two (bd : Board) (calls : List (Call SheetRule)) (s t : ℕ) (x : Layout) : Type 0 where
  pub s_mask : ℕ
  pub t_mask : ℕ
  pub on : On bd (chosen (chosen x s s_mask) t t_mask)
  pub kept : KeepsCalls bd (chosen (chosen x s s_mask) t t_mask) calls

pub record Four (bd : Board) (calls : List (Call SheetRule)) (s t u w : ℕ) (x : Layout) : Type 0 where
  pub s_mask : ℕ
  pub t_mask : ℕ
  pub u_mask : ℕ
  pub w_mask : ℕ
  pub on : On bd (chosen (chosen (chosen (chosen x s s_mask) t t_mask) u u_mask) w w_mask)
  pub kept : KeepsCalls bd (chosen (chosen (chosen (chosen x s s_mask) t t_mask) u u_mask) w w_mask) calls

-- ---- the constraint holds exactly where the helper sets can be chosen

pub record Exactly (p q : Type 0) : Type 0 where
  pub there : p → q
  pub back : q → p

abbrev pub AllDifferentMeans : Board → ℕ → ℕ → ℕ → Type 0
AllDifferentMeans bd g s t = (x : Layout) → On bd x → Exactly (AllDifferent g x) (Two bd (all_different_calls bd g s t) s t x)

abbrev pub NValueMeans : Board → ℕ → ℕ → ℕ → ℕ → ℕ → Type 0
NValueMeans bd g p q s t = (x : Layout) → On bd x → Exactly (NValue bd g p q x) (Two bd (n_value_calls bd g p q s t) s t x)

abbrev pub AmongMeans : Board → ℕ → ℕ → ℕ → ℕ → ℕ → ℕ → Type 0
AmongMeans bd g v p q s t = (x : Layout) → On bd x → Exactly (Among bd g v p q x) (Two bd (among_calls bd g v p q s t) s t x)

abbrev pub DisjointMeans : Board → ℕ → ℕ → ℕ → ℕ → ℕ → ℕ → Type 0
DisjointMeans bd g h s t u w = (x : Layout) → On bd x → Exactly (Disjoint g h x) (Four bd (disjoint_calls bd g h s t u w) s t u w x)

abbrev pub UsesMeans : Board → ℕ → ℕ → ℕ → ℕ → ℕ → ℕ → Type 0
UsesMeans bd g h s t u w = (x : Layout) → On bd x → Exactly (Uses g h x) (Four bd (uses_calls bd g h s t u w) s t u w x)
