-- What each record asks of a planner, what the planner answers, and the plan after it. Assumes nothing.
use Rattle.std.specs.Prelude.{◌≡◌, ℕ, List, [], ◌∷◌, ◌++◌, nat_le}
use Rattle.model.specs.Board.{board_of}
use Rattle.model.specs.Box.{full}
use Rattle.model.specs.Refusals.{refusal}
use Rattle.model.specs.Entries as entries
use Rattle.model.specs.Calls.{State, Call, draft, enter, post, new_causes, answer, does}
use Rattle.sheet.specs.Layout.{Rec, head, name, limit, claim, bar, range, roots, within, apart, count, row}
use Rattle.kinds.specs.declared.SheetRule.{SheetRule}
use Rattle.kinds.specs.declared.SheetRule.TheVariants as kind
use Rattle.kinds.specs.SheetRules.{sheet_fault, sheet_run}
use Rattle.load.specs.declared.act.Act.{Act}
use Rattle.load.specs.declared.act.Act.TheVariants as act

abbrev pub act_of_lem : Rec → Act
act_of_lem (head n m k w) = act.New n m k w
act_of_lem (name i t) = act.Name i
act_of_lem (limit i x) = act.Limit i x
act_of_lem (claim j x) = act.Claim j x
act_of_lem (bar j x) = act.Bar j x
act_of_lem (range g s t) = act.Post (kind.Range (record { g = g; s = s; t = t }))
act_of_lem (roots g s t) = act.Post (kind.Roots (record { g = g; s = s; t = t }))
act_of_lem (within a b) = act.Post (kind.Within (record { a = a; b = b }))
act_of_lem (apart a b) = act.Post (kind.Apart (record { a = a; b = b }))
act_of_lem (count a p q) = act.Post (kind.Count (record { a = a; least = p; most = q }))
act_of_lem (row a) = act.Post (kind.Row (record { a = a }))

-- 0, or the number of the refusal
unfoldable pub verdict : Act → State SheetRule → ℕ
verdict (act.New n m k w) s = refusal (new_causes n m k w)
verdict (act.Name i) s = refusal ((2, nat_le s.board.sensors i) ∷ [])
verdict (act.Limit i x) s = answer sheet_fault sheet_run (enter (entries.limit i x)) s
verdict (act.Claim j x) s = answer sheet_fault sheet_run (enter (entries.claim j x)) s
verdict (act.Bar j x) s = answer sheet_fault sheet_run (enter (entries.bar j x)) s
verdict (act.Post r) s = answer sheet_fault sheet_run (post r) s

-- the plan after it, where it is not refused
unfoldable pub taken : Act → State SheetRule → State SheetRule
taken (act.New n m k w) s = draft (board_of n m k w) s.places (full (board_of n m k w))
taken (act.Name i) s = s
taken (act.Limit i x) s = does sheet_fault sheet_run (enter (entries.limit i x)) s
taken (act.Claim j x) s = does sheet_fault sheet_run (enter (entries.claim j x)) s
taken (act.Bar j x) s = does sheet_fault sheet_run (enter (entries.bar j x)) s
taken (act.Post r) s = does sheet_fault sheet_run (post r) s

-- the calls that it is, after the head
unfoldable pub calls : Act → List (Call SheetRule)
calls (act.New n m k w) = []
calls (act.Name i) = []
calls (act.Limit i x) = enter (entries.limit i x) ∷ []
calls (act.Claim j x) = enter (entries.claim j x) ∷ []
calls (act.Bar j x) = enter (entries.bar j x) ∷ []
calls (act.Post r) = post r ∷ []

-- none of the calls is refused
abbrev pub Unrefused : List (Call SheetRule) → State SheetRule → Type 0
Unrefused [] s = Unit {0}
Unrefused (c ∷ cs) s = (answer sheet_fault sheet_run c s ≡ 0) × Unrefused cs (does sheet_fault sheet_run c s)

-- the calls of records, in their order
abbrev pub calls_of : List Rec → List (Call SheetRule)
calls_of [] = []
calls_of (r ∷ rs) = calls (act_of_lem r) ++ calls_of rs
