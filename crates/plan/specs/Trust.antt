-- What a marker may trust of a settled plan, whatever mix of calls led to it. Assumes nothing.
use Rattle.std.specs.Prelude.{◌≡◌, ℕ, Bool, true, List, ◌++◌}
use Rattle.model.specs.Board.{Board}
use Rattle.model.specs.Layout.{Layout, On}
use Rattle.model.specs.Box.{Box, Choice, cand, lo, hi, live, full, choice, uses}
use Rattle.model.specs.Laws.{Only}
use Rattle.model.specs.Calls.{State, Call, draft, settle, does, after, entered, posted, Alike, KeepsAll}
use Rattle.text.specs.Lines.{listing}

-- two settled boxes answer alike: the listing as a whole text, and candidates, bounds and dead at equal numbers
pub record ReadsAlike (bd : Board) (a b : Box) : Type 0 where
  pub text : listing bd a ≡ listing bd b
  pub candidates : (i : ℕ) → cand a i ≡ cand b i
  pub lower : (j : ℕ) → lo a j ≡ lo b j
  pub upper : (j : ℕ) → hi a j ≡ hi b j
  pub dead : live bd a ≡ live bd b

module _ {R : Type 0} (fault : Board → R → ℕ) (holds : Board → R → Layout → Bool) (run : Board → R → Box → Box) where
  -- a new plan on a board, with this many places for rules
  abbrev pub begun : Board → ℕ → State R
  begun bd places = draft bd places (full bd)

  -- the calls, the first first, lead from a new plan to this one
  abbrev pub Leads : List (Call R) → State R → Type 0
  Leads h s = after fault run h (begun s.board s.places) ≡ s

  -- s is a draft, t the box that settling makes of it
  pub record Trusted (s : State R) (t : Box) : Type 0 where
    -- same entries, same answer: another mix on the same board, over a table of any size, whose accepted entries and rules are the same
    -- but for order and repeats, settles in a plan that reads alike; what was refused does not count
    pub same : (h : List (Call R)) → Leads h s → (places : ℕ) (g : List (Call R))
        → Alike (entered fault run h (begun s.board s.places)) (entered fault run g (begun s.board places))
        → Alike (posted fault run h (begun s.board s.places)) (posted fault run g (begun s.board places))
        → ReadsAlike s.board t (does fault run settle (after fault run g (begun s.board places))).box
    -- nothing without cause: at every point of the mix, no choice that a layout uses which keeps everything accepted so far has been struck
    pub no_loss : (g g' : List (Call R)) → Leads (g ++ g') s → (x : Layout) → On s.board x → KeepsAll fault holds run s.board g (begun s.board s.places) x
        → (c : Choice) → uses s.board x c ≡ true → choice s.board (after fault run g (begun s.board s.places)).box c ≡ true
    -- and none is struck by the last settle
    pub no_loss_settled : (h : List (Call R)) → Leads h s → (x : Layout) → On s.board x → KeepsAll fault holds run s.board h (begun s.board s.places) x
        → (c : Choice) → uses s.board x c ≡ true → choice s.board t c ≡ true
    -- where it settles in a box with exactly one layout, that layout keeps everything that was accepted
    pub lone : (h : List (Call R)) → Leads h s → (x : Layout) → Only s.board t x → KeepsAll fault holds run s.board h (begun s.board s.places) x
