-- What is left of a plan of sheet rules that has settled is supported. Assumes nothing.
use Rattle.std.specs.Prelude.{◌≡◌, true, List}
use Rattle.model.specs.Box.{Box, Choice, choice, live, decided}
use Rattle.model.specs.Tight.{Supported}
use Rattle.model.specs.Calls.{State, Call, posted, Mem}
use Rattle.plan.specs.Trust.{begun, Leads}
use Rattle.range.specs.declared.range.Range.{Range}
use Rattle.range.specs.Ranges.{range_holds}
use Rattle.roots.specs.declared.roots.Roots.{Roots}
use Rattle.roots.specs.Roots.{roots_holds}
use Rattle.kinds.specs.declared.SheetRule.{SheetRule}
use Rattle.kinds.specs.declared.SheetRule.TheVariants as kind
use Rattle.kinds.specs.SheetRules.{sheet_fault, sheet_holds, sheet_run}

abbrev pub Led : List (Call SheetRule) → State SheetRule → Type 0
Led h s = Leads sheet_fault sheet_holds sheet_run h s

-- the rules that the mix of calls h had accepted
abbrev pub accepted : List (Call SheetRule) → State SheetRule → List SheetRule
accepted h s = posted sheet_fault sheet_run h (begun sheet_fault sheet_holds sheet_run s.board s.places)

-- s is a draft, t the box that settling makes of it: settled and no dead end, no choice is left that is unsupported
pub record Supports (s : State SheetRule) (t : Box) : Type 0 where
  -- by a Range rule that was accepted
  pub range : (h : List (Call SheetRule)) → Led h s → live s.board t ≡ true → (r : Range) → Mem (kind.Range r) (accepted h s)
      → (c : Choice) → choice s.board t c ≡ true → Supported s.board (range_holds s.board r) t c
  -- or by such a Roots rule whose slot set is decided
  pub roots : (h : List (Call SheetRule)) → Led h s → live s.board t ≡ true → (r : Roots) → Mem (kind.Roots r) (accepted h s) → decided t r.t ≡ true
      → (c : Choice) → choice s.board t c ≡ true → Supported s.board (roots_holds s.board r) t c
