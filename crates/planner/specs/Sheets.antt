-- What may be trusted of a sheet that was loaded and settled: no history is left to assume, it is the sheet's own. Assumes nothing.
use Rattle.std.specs.Prelude.{◌≡◌, ℕ, List, ◌∷◌, None, Ok}
use Rattle.model.specs.Board.{Board, board_of}
use Rattle.model.specs.Box.{Box}
use Rattle.model.specs.Calls.{State, settle, does, after, entered, posted, Alike}
use Rattle.plan.specs.Trust.{begun, Trusted}
use Rattle.sheet.specs.Layout.{Rec, head}
use Rattle.sheet.specs.Files.{read_all}
use Rattle.kinds.specs.declared.SheetRule.{SheetRule}
use Rattle.kinds.specs.SheetRules.{sheet_fault, sheet_holds, sheet_run}
use Rattle.load.specs.Acts.{calls_of}
use Rattle.load.specs.Loads.{Loaded, load_fault, load_plan, sheet_text}
use Rattle.planner.specs.Support.{Led, Supports}

-- a new plan of a board
abbrev pub new : Board → ℕ → State SheetRule
new bd places = begun sheet_fault sheet_holds sheet_run bd places

-- the plan that the records after the head lead to
abbrev pub loaded : Board → ℕ → List Rec → State SheetRule
loaded bd places rest = after sheet_fault sheet_run (calls_of rest) (new bd places)

-- the box that an accepted file settles in
abbrev pub settled_box : List ℕ → ℕ → Box
settled_box file places = (does sheet_fault sheet_run settle (load_plan file places)).box

-- t is that box
pub record SheetTrusted (file : List ℕ) (places : ℕ) (t : Box) : Type 0 where
  pub n : ℕ
  pub m : ℕ
  pub k : ℕ
  pub kinds : ℕ
  pub rest : List Rec
  pub read : read_all file ≡ Ok (head n m k kinds ∷ rest)
  -- the sheet's entries in file order are the mix of calls that led to the plan
  pub leads : Led (calls_of rest) (loaded (board_of n m k kinds) places rest)
  -- so everything that is promised of such a mix holds of the sheet
  pub trusted : Trusted sheet_fault sheet_holds sheet_run (loaded (board_of n m k kinds) places rest) t
  pub supports : Supports (loaded (board_of n m k kinds) places rest) t
  -- another accepted sheet for the same board, with the same entries and rules in other orders or repeated, prints the same text
  pub alike : (other : List ℕ) (places' : ℕ) (s : State SheetRule) → load_fault other places' ≡ None → (w : Loaded other places' s) → board_of w.n w.m w.k w.kinds ≡ board_of n m k kinds
      → Alike (entered sheet_fault sheet_run (calls_of rest) (new (board_of n m k kinds) places)) (entered sheet_fault sheet_run (calls_of w.rest) (new (board_of n m k kinds) places'))
      → Alike (posted sheet_fault sheet_run (calls_of rest) (new (board_of n m k kinds) places)) (posted sheet_fault sheet_run (calls_of w.rest) (new (board_of n m k kinds) places'))
      → sheet_text file places ≡ sheet_text other places'
