-- Worked examples: a board, a rule and a box, and what the rule's run makes of the box. Slots are 0 to 4; a sensor that a rule does
-- not look at has one candidate, so that there are few layouts to go through. Assumes nothing.
use Rattle.std.specs.Prelude.{◌≡◌, List, [], ◌∷◌, ℕ}
use Rattle.model.specs.Board.{Board, board_of}
use Rattle.model.specs.Box.{Box}
use Rattle.kinds.specs.declared.SheetRule.{SheetRule}
use Rattle.kinds.specs.declared.SheetRule.TheVariants as kind
use Rattle.kinds.specs.SheetRules.{sheet_run}

abbrev box : List ℕ → List ℕ → List ℕ → Box
box c l h = record { cands = c; lows = l; highs = h }

abbrev range : ℕ → ℕ → ℕ → SheetRule
range g s t = kind.Range (record { g = g; s = s; t = t })

abbrev roots : ℕ → ℕ → ℕ → SheetRule
roots g s t = kind.Roots (record { g = g; s = s; t = t })

abbrev within : ℕ → ℕ → SheetRule
within a b = kind.Within (record { a = a; b = b })

abbrev apart : ℕ → ℕ → SheetRule
apart a b = kind.Apart (record { a = a; b = b })

abbrev count : ℕ → ℕ → ℕ → SheetRule
count a p q = kind.Count (record { a = a; least = p; most = q })

abbrev row : ℕ → SheetRule
row a = kind.Row (record { a = a })

pub record Case : Type 0 where
  pub on : Board
  pub rule : SheetRule
  pub given : Box
  pub gives : Box

abbrev case : Board → SheetRule → Box → Box → Case
case bd r b c = record { on = bd; rule = r; given = b; gives = c }

abbrev pub cases : List Case
cases =
    -- Range: the one sensor that can take a claimed slot takes it, and the slots that no sensor has left go
    case (board_of 2 5 2 2) (range 3 0 1) (box (10 ∷ 20 ∷ []) (3 ∷ 4 ∷ []) (3 ∷ 31 ∷ [])) (box (10 ∷ 4 ∷ []) (3 ∷ 4 ∷ []) (3 ∷ 14 ∷ [])) ∷
    -- two claimed slots take two sensors, whichever way round
    case (board_of 3 5 2 2) (range 7 0 1) (box (6 ∷ 28 ∷ 24 ∷ []) (7 ∷ 24 ∷ []) (7 ∷ 30 ∷ [])) (box (6 ∷ 24 ∷ 24 ∷ []) (7 ∷ 24 ∷ []) (7 ∷ 30 ∷ [])) ∷
    -- the only sensor that can serve a claimed slot is in S
    case (board_of 1 5 2 2) (range 1 0 1) (box (1 ∷ []) (0 ∷ 1 ∷ []) (1 ∷ 3 ∷ [])) (box (1 ∷ []) (1 ∷ 1 ∷ []) (1 ∷ 1 ∷ [])) ∷
    -- no sensor of G, and one claimed for S
    case (board_of 1 5 2 2) (range 0 0 1) (box (31 ∷ []) (1 ∷ 0 ∷ []) (1 ∷ 31 ∷ [])) (box (0 ∷ []) (0 ∷ 0 ∷ []) (0 ∷ 0 ∷ [])) ∷
    -- two claimed slots with one sensor between them
    case (board_of 2 5 2 2) (range 3 0 1) (box (3 ∷ 4 ∷ []) (3 ∷ 3 ∷ []) (3 ∷ 7 ∷ [])) (box (0 ∷ 0 ∷ []) (0 ∷ 0 ∷ []) (0 ∷ 0 ∷ [])) ∷
    -- three claimed slots that share two sensors, while another sensor stands elsewhere
    case (board_of 3 5 2 2) (range 7 0 1) (box (7 ∷ 7 ∷ 8 ∷ []) (7 ∷ 7 ∷ []) (7 ∷ 15 ∷ [])) (box (0 ∷ 0 ∷ 0 ∷ []) (0 ∷ 0 ∷ []) (0 ∷ 0 ∷ [])) ∷
    -- a claimed slot that is nobody's candidate
    case (board_of 1 5 2 2) (range 1 0 1) (box (1 ∷ []) (0 ∷ 2 ∷ []) (1 ∷ 3 ∷ [])) (box (0 ∷ []) (0 ∷ 0 ∷ []) (0 ∷ 0 ∷ [])) ∷
    -- Roots leaves a slot that has no support: slot 3 of sensor 1
    case (board_of 4 5 2 2) (roots 15 0 1) (box (6 ∷ 24 ∷ 10 ∷ 12 ∷ []) (12 ∷ 0 ∷ []) (12 ∷ 30 ∷ [])) (box (6 ∷ 24 ∷ 10 ∷ 12 ∷ []) (12 ∷ 0 ∷ []) (12 ∷ 30 ∷ [])) ∷
    -- sensors surely in S keep what T may have
    case (board_of 2 5 2 2) (roots 3 0 1) (box (14 ∷ 14 ∷ []) (3 ∷ 0 ∷ []) (3 ∷ 10 ∷ [])) (box (10 ∷ 10 ∷ []) (3 ∷ 0 ∷ []) (3 ∷ 10 ∷ [])) ∷
    -- a sensor that is only possible in S keeps its candidates outside hi of T
    case (board_of 1 5 2 2) (roots 1 0 1) (box (14 ∷ []) (0 ∷ 0 ∷ []) (1 ∷ 10 ∷ [])) (box (14 ∷ []) (0 ∷ 0 ∷ []) (1 ∷ 10 ∷ [])) ∷
    -- a set of two that may have two
    case (board_of 2 5 1 0) (count 0 2 2) (box (1 ∷ 1 ∷ []) (0 ∷ []) (3 ∷ [])) (box (1 ∷ 1 ∷ []) (3 ∷ []) (3 ∷ [])) ∷
    -- a set of none that has one
    case (board_of 2 5 1 0) (count 0 0 0) (box (1 ∷ 1 ∷ []) (2 ∷ []) (3 ∷ [])) (box (0 ∷ 0 ∷ []) (0 ∷ []) (0 ∷ [])) ∷
    -- a set of 64 on a board of two sensors
    case (board_of 2 5 1 0) (count 0 64 64) (box (1 ∷ 1 ∷ []) (0 ∷ []) (3 ∷ [])) (box (0 ∷ 0 ∷ []) (0 ∷ []) (0 ∷ [])) ∷
    -- a row is filled, and what it cannot reach goes
    case (board_of 6 5 1 0) (row 0) (box (1 ∷ 1 ∷ 1 ∷ 1 ∷ 1 ∷ 1 ∷ []) (10 ∷ []) (47 ∷ [])) (box (1 ∷ 1 ∷ 1 ∷ 1 ∷ 1 ∷ 1 ∷ []) (14 ∷ []) (15 ∷ [])) ∷
    -- a gap that cannot be filled
    case (board_of 6 5 1 0) (row 0) (box (1 ∷ 1 ∷ 1 ∷ 1 ∷ 1 ∷ 1 ∷ []) (10 ∷ []) (10 ∷ [])) (box (0 ∷ 0 ∷ 0 ∷ 0 ∷ 0 ∷ 0 ∷ []) (0 ∷ []) (0 ∷ [])) ∷
    -- no member is no row
    case (board_of 6 5 1 0) (row 0) (box (1 ∷ 1 ∷ 1 ∷ 1 ∷ 1 ∷ 1 ∷ []) (0 ∷ []) (0 ∷ [])) (box (0 ∷ 0 ∷ 0 ∷ 0 ∷ 0 ∷ 0 ∷ []) (0 ∷ []) (0 ∷ [])) ∷
    -- what one set has the other cannot
    case (board_of 4 5 2 0) (apart 0 1) (box (1 ∷ 1 ∷ 1 ∷ 1 ∷ []) (4 ∷ 0 ∷ []) (4 ∷ 12 ∷ [])) (box (1 ∷ 1 ∷ 1 ∷ 1 ∷ []) (4 ∷ 0 ∷ []) (4 ∷ 8 ∷ [])) ∷
    -- a set inside another: the one loses, the other gains
    case (board_of 4 5 2 0) (within 0 1) (box (1 ∷ 1 ∷ 1 ∷ 1 ∷ []) (4 ∷ 0 ∷ []) (15 ∷ 12 ∷ [])) (box (1 ∷ 1 ∷ 1 ∷ 1 ∷ []) (4 ∷ 4 ∷ []) (12 ∷ 12 ∷ [])) ∷
    []

abbrev pub Right : List Case → Type 0
Right [] = Unit {0}
Right (c ∷ cs) = (sheet_run c.on c.rule c.given ≡ c.gives) × Right cs

abbrev pub ExamplesStand : Type 0
ExamplesStand = Right cases
