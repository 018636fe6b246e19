-- Roots G S T: S is exactly the set of the sensors of G whose slot is in T. Assumes nothing.
use Rattle.std.specs.Prelude.{◌≡◌, ℕ, zero, suc, Bool, true, cond, not, ◌&&◌, List, [], ◌∷◌, ◌++◌, map}
use Rattle.std.specs.List.{AllByRecursion}
use Rattle.masks.specs.Masks.{has}
use Rattle.model.specs.Board.{Board}
use Rattle.model.specs.Layout.{Layout, slot_of, set_of}
use Rattle.model.specs.Box.{Box, every}
use Rattle.model.specs.Settled.{settled}
use Rattle.model.specs.Laws.{asked}
use Rattle.model.specs.Refusals.{Cause, refusal}
use Rattle.model.specs.Fits.{group_causes}
use Rattle.roots.specs.Implications.{implied, implication_fault, implication_run}
use Rattle.roots.specs.declared.implication.Implication.{Implication}
use Rattle.roots.specs.declared.implication.Implication.TheVariants.{Excluded, Implies, ImpliedBy}
use Rattle.roots.specs.declared.roots.Roots.{Roots}

-- two sets of the board, a mask of its sensors, a set of sensors and a set of slots
abbrev pub roots_causes : Board → ℕ → ℕ → ℕ → List Cause
roots_causes = group_causes

abbrev pub roots_fault : Board → Roots → ℕ
roots_fault bd r = refusal (roots_causes bd r.g r.s r.t)

-- both or neither
abbrev pub agree : Bool → Bool → Bool
agree p q = cond p q (not q)

-- each sensor is in S just where it is in G and its slot is in T
unfoldable pub roots_holds : Board → Roots → Layout → Bool
roots_holds bd r x = every (λ i. agree (has (set_of x r.s) i) (has r.g i && has (set_of x r.t) (slot_of x i))) bd.sensors

-- those of sensor i: one of G is in S just where its slot is in T, any other is not in S
abbrev pub own : Roots → ℕ → List Implication
own r i = cond (has r.g i) (Implies i r.s r.t ∷ ImpliedBy i r.s r.t ∷ []) (Excluded i r.s ∷ [])

-- those of the sensors below n
unfoldable pub implications : Roots → ℕ → List Implication
implications r zero = []
implications r (suc i) = implications r i ++ own r i

abbrev pub parts : Board → Roots → List Implication
parts bd r = implications r bd.sensors

-- the run of a Roots rule settles its implications, each by its tight box
abbrev pub roots_run : Board → Roots → Box → Box
roots_run bd r b = settled bd (map (implication_run bd) (parts bd r)) b

-- the runs of implications that are each asked whether they fit
abbrev pub asking : Board → List Implication → List (Box → Box)
asking bd qs = map (asked implication_fault implication_run bd) qs

-- a Roots rule holds exactly where all its implications do
pub record Split (bd : Board) (r : Roots) (x : Layout) : Type 0 where
  pub there : roots_holds bd r x ≡ true → AllByRecursion (λ q. implied bd q x ≡ true) (parts bd r)
  pub back : AllByRecursion (λ q. implied bd q x ≡ true) (parts bd r) → roots_holds bd r x ≡ true

abbrev pub RootsSplits : Type 0
RootsSplits = (bd : Board) (r : Roots) (x : Layout) → Split bd r x
