-- What loading a file answers, and the plan that it leaves. Assumes nothing.
use Rattle.std.specs.Prelude.{◌≡◌, ℕ, false, cond, List, ◌∷◌, length, Some, None, Ok, Err, Option, Result, ◌==◌}
use Rattle.model.specs.Board.{board_of}
use Rattle.model.specs.Box.{full}
use Rattle.model.specs.Refusals.{refusal}
use Rattle.model.specs.Calls.{State, draft, new_causes, settle, does, after}
use Rattle.board.specs.Model.{board}
use Rattle.text.specs.Lines.{listing, refused_line}
use Rattle.kinds.specs.declared.SheetRule.{SheetRule}
use Rattle.kinds.specs.SheetRules.{sheet_fault, sheet_run}
use Rattle.sheet.specs.Layout.{Rec, head}
use Rattle.sheet.specs.Steps.{opens, number as sheet_number}
use Rattle.board.specs.Numbers.{number as plan_number}
use Rattle.sheet.specs.Files.{read_all}
use Rattle.load.specs.declared.check.Sketch.{Sketch}
use Rattle.load.specs.declared.fault.LoadCause.{LoadCause}
use Rattle.load.specs.declared.fault.LoadCause.TheVariants as cause
use Rattle.load.specs.declared.fault.LoadFault.{LoadFault}
use Rattle.load.specs.Acts.{act_of_lem, verdict, taken, calls_of, Unrefused}
use Rattle.load.specs.Walks.{Walk, end, stop, step, walk_on}

-- the first fault of a walk, from a plan on: the reader's, or what the planner answers to a record, with the record's position
unfoldable pub first_fault : State SheetRule → Walk → Option (ℕ × ℕ)
first_fault s end = None
first_fault s (stop e at) = Some (e, at)
first_fault s (step at r w) = cond (verdict (act_of_lem r) s == 0) (first_fault (taken (act_of_lem r) s) w) (Some (verdict (act_of_lem r) s, at))

-- the plan after all records of a walk
unfoldable pub closing : State SheetRule → Walk → State SheetRule
closing s end = s
closing s (stop e at) = s
closing s (step at r w) = closing (taken (act_of_lem r) s) w

-- the least plan; which one is taken does not show, since a head comes first
abbrev pub blank : ℕ → State SheetRule
blank places = draft (board_of 1 1 0 0) places (full (board_of 1 1 0 0))

-- what loading a file into so many places answers: nothing, or a number and a position
unfoldable pub load_fault : List ℕ → ℕ → Option (ℕ × ℕ)
load_fault file places = cond (opens file) (first_fault (blank places) (walk_on file 1 false)) (Some (10, 0))

-- the plan after a load that is accepted: that of the file's calls, one after the other, on the new plan of its head
pub record Loaded (file : List ℕ) (places : ℕ) (s : State SheetRule) : Type 0 where
  pub n : ℕ
  pub m : ℕ
  pub k : ℕ
  pub kinds : ℕ
  pub rest : List Rec
  pub read : read_all file ≡ Ok (head n m k kinds ∷ rest)
  -- neither the head nor a call is refused
  pub begins : refusal (new_causes n m k kinds) ≡ 0
  pub unrefused : Unrefused (calls_of rest) (draft (board_of n m k kinds) places (full (board_of n m k kinds)))
  pub plan : s ≡ after sheet_fault sheet_run (calls_of rest) (draft (board_of n m k kinds) places (full (board_of n m k kinds)))

-- the plan of a file that is accepted
unfoldable pub load_plan : List ℕ → ℕ → State SheetRule
load_plan file places = closing (blank places) (walk_on file 1 false)

-- the listing of a plan, or the line of a refusal
unfoldable pub text_of : State SheetRule → Option (ℕ × ℕ) → List ℕ
text_of s None = listing s.board s.box
text_of s (Some f) = refused_line f.0 f.1

-- what is printed of a file: the listing of its plan after a settle, or the line of the refusal
abbrev pub sheet_text : List ℕ → ℕ → List ℕ
sheet_text file places = text_of (does sheet_fault sheet_run settle (load_plan file places)) (load_fault file places)

-- the number of each refusal
abbrev pub cause_number : LoadCause → ℕ
cause_number (cause.Sheet c) = sheet_number c
cause_number (cause.Plan r) = plan_number r

-- an answer of the code, as a number and a position
abbrev pub fault_of : {X : Type 0} → Result X LoadFault → Option (ℕ × ℕ)
fault_of (Ok x) = None
fault_of (Err f) = Some (cause_number f.cause, f.position)

-- what the check keeps of a plan: its board, and how many places and rules it has
pub record Stands (s : State SheetRule) (t : Sketch) : Type 0 where
  pub board_is : s.board ≡ board t.board
  pub places_are : s.places ≡ t.places
  pub rules_are : length s.rules ≡ t.count
