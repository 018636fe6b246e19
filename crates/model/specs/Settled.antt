-- The settled box: the largest box inside a given one that no run of a list changes. Assumes nothing.
use Rattle.std.specs.Prelude.{◌≡◌, ℕ, zero, suc, ◌<◌, Bool, true, false, List, [], ◌∷◌, nat_lt}
use Rattle.std.specs.List.{AllByRecursion}
use Rattle.model.specs.Board.{Board}
use Rattle.model.specs.Box.{Box, Kept, Inside, size}
use Rattle.model.specs.Laws.{Narrows}

-- said as a relation
pub record Largest (bd : Board) (runs : List (Box → Box)) (b s : Box) : Type 0 where
  pub kept : Kept bd s
  pub inside : Inside bd s b
  pub still : AllByRecursion (λ r. r s ≡ s) runs
  pub largest : (t : Box) → Kept bd t → Inside bd t b → AllByRecursion (λ r. r t ≡ t) runs → Inside bd t s

-- ---- it is there, by rounds under a falling size

-- each run once, in the order of the list
unfoldable pub round : {B : Type 0} → List (B → B) → B → B
round [] b = b
round (r ∷ rs) b = round rs (r b)

-- rounds, at most f of them, until one does not lessen the size
unfoldable pub rounds : {B : Type 0} → (B → ℕ) → List (B → B) → ℕ → B → B
rounds size rs zero b = b
rounds size rs (suc f) b =
    let after = round rs b in
    elim (nat_lt (size after) (size b)) [ true ↦ rounds size rs f after | false ↦ b ]

unfoldable pub settled_by : {B : Type 0} → (B → ℕ) → List (B → B) → B → B
settled_by size rs b = rounds size rs (size b) b

abbrev pub settled : Board → List (Box → Box) → Box → Box
settled bd rs b = settled_by (size bd) rs b

-- what a step from box a to box b tells: not moved, the box is as it was; moved, its size has fallen
pub record Progress (bd : Board) (moved : Bool) (a b : Box) : Type 0 where
  pub still : moved ≡ false → b ≡ a
  pub falls : moved ≡ true → size bd b < size bd a

-- what is proved of settling, for runs that shrink and are monotone
pub record Settling (bd : Board) : Type 0 where
  pub made : (runs : List (Box → Box)) → AllByRecursion (Narrows bd) runs → (b : Box) → Kept bd b → Largest bd runs b (settled bd runs b)
  pub one : (runs : List (Box → Box)) (b s t : Box) → Largest bd runs b s → Largest bd runs b t → s ≡ t

abbrev pub SettlingStands : Type 0
SettlingStands = (bd : Board) → 0 < bd.sensors → Settling bd
