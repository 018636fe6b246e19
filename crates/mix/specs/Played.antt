-- A list of steps as a mix of calls, and what the calls answer. Assumes nothing.
use Rattle.std.specs.Prelude.{◌≡◌, ℕ, ◌<◌, List, [], ◌∷◌, ◌++◌, length, slice_index}
use Rattle.model.specs.Board.{Board}
use Rattle.model.specs.Box.{Box}
use Rattle.model.specs.Entries.{limit, claim, bar}
use Rattle.model.specs.Calls.{State, Call, enter, post, settle, reopen, answer, after}
use Rattle.mix.specs.declared.Step.{Step}
use Rattle.mix.specs.declared.Step.TheVariants as step

-- the calls that a step is: a settle is followed by a reopen
abbrev pub calls_of : {R : Type 0} → Step R → List (Call R)
calls_of (step.Limit i m) = enter (limit i m) ∷ []
calls_of (step.Claim j m) = enter (claim j m) ∷ []
calls_of (step.Bar j m) = enter (bar j m) ∷ []
calls_of (step.Post r) = post r ∷ []
calls_of step.Settle = settle ∷ reopen ∷ []

unfoldable pub calls_all : {R : Type 0} → List (Step R) → List (Call R)
calls_all [] = []
calls_all (x ∷ xs) = calls_of x ++ calls_all xs

module _ {R : Type 0} (fault : Board → R → ℕ) (run : Board → R → Box → Box) where
  -- what a step is answered: 0, or the number of the refusal
  abbrev pub answer_of : Step R → State R → ℕ
  answer_of (step.Limit i m) s = answer fault run (enter (limit i m)) s
  answer_of (step.Claim j m) s = answer fault run (enter (claim j m)) s
  answer_of (step.Bar j m) s = answer fault run (enter (bar j m)) s
  answer_of (step.Post r) s = answer fault run (post r) s
  answer_of step.Settle s = 0

  unfoldable pub answers_all : List (Step R) → State R → List ℕ
  answers_all [] s = []
  answers_all (x ∷ xs) s = answer_of x s ∷ answers_all xs (after fault run (calls_of x) s)

  -- the answers stand one for one at the front, as far as there are places for them
  abbrev pub Answered : List (Step R) → State R → List ℕ → Type 0
  Answered xs s given = (i : ℕ) → i < length xs → i < length given → slice_index given i ≡ slice_index (answers_all xs s) i
