-- What each call of a plan answers and does, and what a mix of calls comes to. Assumes nothing.
use Rattle.std.specs.Prelude.{◌≡◌, ℕ, ◌^◌, ◌<◌, min, Bool, true, false, cond, ◌⊎◌, List, [], ◌∷◌, ◌++◌, map, length, ◌==◌, nat_le, nat_lt}
use Rattle.std.specs.List.{AllByRecursion}
use Rattle.model.specs.Capacity.{most_sensors, most_slots, most_sets, most_places}
use Rattle.model.specs.Board.{Board}
use Rattle.model.specs.Layout.{Layout, On}
use Rattle.model.specs.Box.{Box, In, Kept}
use Rattle.model.specs.Laws.{Only, asked}
use Rattle.model.specs.Settled.{settled}
use Rattle.model.specs.Refusals.{Cause, refusal, earlier}
use Rattle.model.specs.Entries.{Entry, entry_causes, keeps, narrow}

-- A plan: its board, the places of its rule table, its box, the rules in the table, and whether it is settled or a draft.
pub record State (R : Type 0) : Type 0 where
  pub board : Board
  pub places : ℕ
  pub box : Box
  pub rules : List R
  pub done : Bool

-- the draft with this box and no rules
abbrev pub draft : {R : Type 0} → Board → ℕ → Box → State R
draft bd places b = record { board = bd; places = places; box = b; rules = []; done = false }

-- ---- a new plan

-- why a board is refused: n or m not in its range, k too large, a kind for a set that is not there
abbrev pub new_causes : ℕ → ℕ → ℕ → ℕ → List Cause
new_causes n m k w =
    (1, (n == 0)) ∷ (1, nat_lt most_sensors n) ∷ (1, (m == 0)) ∷ (1, nat_lt most_slots m) ∷ (1, nat_lt most_sets k) ∷ (1, nat_le (2 ^ k) w) ∷ []

-- ---- the calls on a plan

pub data Call (R : Type 0) : Type 0 where
  enter : Entry → Call R
  post : R → Call R
  settle : Call R
  reopen : Call R

-- the table holds as many rules as it has places, and never more than the most
abbrev pub no_place : {R : Type 0} → State R → Bool
no_place s = nat_le (min s.places most_places) (length s.rules)

-- what an entry makes of a plan's box: nothing where it is refused
abbrev pub entered_box : Board → Entry → Box → Box
entered_box bd e b = cond (refusal (entry_causes bd e) == 0) (narrow bd e b) b

module _ {R : Type 0} (fault : Board → R → ℕ) (run : Board → R → Box → Box) where
  -- 0, or the number of the refusal
  abbrev pub answer : Call R → State R → ℕ
  answer (enter e) s = refusal (entry_causes s.board e)
  answer (post r) s = earlier (fault s.board r) (cond (no_place s) 8 0)
  answer settle s = 0
  answer reopen s = 0

  -- the plan after it
  abbrev pub does : Call R → State R → State R
  does (enter e) s = record { board = s.board; places = s.places; box = entered_box s.board e s.box; rules = s.rules; done = s.done }
  does (post r) s = record { board = s.board; places = s.places; box = s.box; rules = cond (answer (post r) s == 0) (s.rules ++ (r ∷ [])) s.rules; done = s.done }
  does settle s = record { board = s.board; places = s.places; box = settled s.board (map (asked fault run s.board) s.rules) s.box; rules = s.rules; done = true }
  does reopen s = record { board = s.board; places = s.places; box = s.box; rules = s.rules; done = false }

  -- ---- a mix of calls, the first first

  abbrev pub after : List (Call R) → State R → State R
  after [] s = s
  after (c ∷ cs) s = after cs (does c s)

  -- the entries that were accepted, and the rules
  unfoldable pub entered : List (Call R) → State R → List Entry
  entered [] s = []
  entered (enter e ∷ cs) s = let es = entered cs (does (enter e) s) in elim (answer (enter e) s == 0) [ true ↦ e ∷ es | false ↦ es ]
  entered (post r ∷ cs) s = entered cs (does (post r) s)
  entered (settle ∷ cs) s = entered cs (does settle s)
  entered (reopen ∷ cs) s = entered cs (does reopen s)

  unfoldable pub posted : List (Call R) → State R → List R
  posted [] s = []
  posted (enter e ∷ cs) s = posted cs (does (enter e) s)
  posted (post r ∷ cs) s = let rs = posted cs (does (post r) s) in elim (answer (post r) s == 0) [ true ↦ r ∷ rs | false ↦ rs ]
  posted (settle ∷ cs) s = posted cs (does settle s)
  posted (reopen ∷ cs) s = posted cs (does reopen s)

-- ---- what is proved of every mix, from any starting box on the board

-- x is one of the list
abbrev pub Mem : {X : Type 0} → X → List X → Type 0
Mem x [] = ⊥
Mem x (y ∷ ys) = (x ≡ y) ⊎ Mem x ys

-- the two lists have the same members, whatever their order and repeats
pub record Alike {X : Type 0} (xs ys : List X) : Type 0 where
  pub there : (x : X) → Mem x xs → Mem x ys
  pub back : (x : X) → Mem x ys → Mem x xs

module _ {R : Type 0} (fault : Board → R → ℕ) (holds : Board → R → Layout → Bool) (run : Board → R → Box → Box) where
  -- every entry and every rule that was accepted is kept by the layout
  pub record KeepsAll (bd : Board) (cs : List (Call R)) (s : State R) (x : Layout) : Type 0 where
    pub entries : AllByRecursion (λ e. keeps e x ≡ true) (entered fault run cs s)
    pub rules : AllByRecursion (λ r. holds bd r x ≡ true) (posted fault run cs s)

  pub record Mixes (bd : Board) (start : Box) : Type 0 where
    -- after a last settle the box depends only on the accepted entries and rules, whatever their order and repeats, and whatever was refused
    pub order : (p q : ℕ) (g h : List (Call R))
        → Alike (entered fault run g (draft bd p start)) (entered fault run h (draft bd q start)) → Alike (posted fault run g (draft bd p start)) (posted fault run h (draft bd q start))
        → (does fault run settle (after fault run g (draft bd p start))).box ≡ (does fault run settle (after fault run h (draft bd q start))).box
    -- a layout that keeps all of them is never lost
    pub never_lost : (p : ℕ) (g : List (Call R)) → (x : Layout) → On bd x → In bd x start → KeepsAll bd g (draft bd p start) x → In bd x (after fault run g (draft bd p start)).box
    -- and not by a last settle
    pub kept_to_the_end : (p : ℕ) (g : List (Call R)) → (x : Layout) → On bd x → In bd x start → KeepsAll bd g (draft bd p start) x → In bd x (does fault run settle (after fault run g (draft bd p start))).box
    -- where only one layout is left, it keeps all of them
    pub lone : (p : ℕ) (g : List (Call R)) → (x : Layout) → Only bd (does fault run settle (after fault run g (draft bd p start))).box x → KeepsAll bd g (draft bd p start) x

  abbrev pub MixesStand : Type 0
  MixesStand = (bd : Board) → 0 < bd.sensors → (start : Box) → Kept bd start → Mixes bd start
