-- The laws of a rule kind, and that every tight box has them. Assumes nothing.
use Rattle.std.specs.Prelude.{◌≡◌, ℕ, ◌<◌, Bool, true, false, ◌==◌}
use Rattle.model.specs.Board.{Board}
use Rattle.model.specs.Layout.{Layout, On}
use Rattle.model.specs.Box.{Box, Choice, dead, choice, In, Kept, Inside}
use Rattle.model.specs.Tight.{tight, Supported}

-- x is the only layout in the box
pub record Only (bd : Board) (b : Box) (x : Layout) : Type 0 where
  pub on : On bd x
  pub inside : In bd x b
  pub alone : (y : Layout) → On bd y → In bd y b → y ≡ x

-- The laws of a run, for a rule that holds at some layouts. At rest stands apart.
pub record Laws (bd : Board) (holds : Layout → Bool) (run : Box → Box) : Type 0 where
  -- a plan's box stays one
  pub kept : (b : Box) → Kept bd b → Kept bd (run b)
  -- shrinks: the result is inside the given box
  pub shrinks : (b : Box) → Kept bd b → Inside bd (run b) b
  -- keeps-supports: every layout in the given box at which the rule holds lies in the result
  pub keeps_supports : (b : Box) → Kept bd b → (x : Layout) → On bd x → In bd x b → holds x ≡ true → In bd x (run b)
  -- monotone: if one box is inside another, so are their results
  pub monotone : (a b : Box) → Kept bd a → Kept bd b → Inside bd a b → Inside bd (run a) (run b)
  -- decides-single: a box with exactly one layout stays if the rule holds there and dies if not
  pub stays : (b : Box) → Kept bd b → (x : Layout) → Only bd b x → holds x ≡ true → run b ≡ b
  pub dies : (b : Box) → Kept bd b → (x : Layout) → Only bd b x → holds x ≡ false → run b ≡ dead bd

-- at-rest: running the result changes nothing more
abbrev pub Rests : Board → (Box → Box) → Type 0
Rests bd run = (b : Box) → Kept bd b → run (run b) ≡ run b

-- what settling asks of a run
pub record Narrows (bd : Board) (run : Box → Box) : Type 0 where
  pub kept : (b : Box) → Kept bd b → Kept bd (run b)
  pub shrinks : (b : Box) → Kept bd b → Inside bd (run b) b
  pub monotone : (a b : Box) → Kept bd a → Kept bd b → Inside bd a b → Inside bd (run a) (run b)

-- ---- a kind of rule: the number of a refusal where a rule does not fit a board, else 0; where it holds; its run

abbrev pub fits : {R : Type 0} → (Board → R → ℕ) → Board → R → Bool
fits fault bd r = fault bd r == 0

pub record Lawful {R : Type 0} (fault : Board → R → ℕ) (holds : Board → R → Layout → Bool) (run : Board → R → Box → Box) : Type 0 where
  pub laws : (bd : Board) → 0 < bd.sensors → (r : R) → fits fault bd r ≡ true → Laws bd (holds bd r) (run bd r)

pub record Restful {R : Type 0} (fault : Board → R → ℕ) (run : Board → R → Box → Box) : Type 0 where
  pub rests : (bd : Board) → 0 < bd.sensors → (r : R) → fits fault bd r ≡ true → Rests bd (run bd r)

-- the run of a rule that may not fit: a misfit is skipped
unfoldable pub asked : {R : Type 0} → (Board → R → ℕ) → (Board → R → Box → Box) → Board → R → Box → Box
asked fault run bd r b = elim (fits fault bd r) [ true ↦ run bd r b | false ↦ b ]

-- and asks nothing of a layout
unfoldable pub heeded : {R : Type 0} → (Board → R → ℕ) → (Board → R → Layout → Bool) → Board → R → Layout → Bool
heeded fault holds bd r x = elim (fits fault bd r) [ true ↦ holds bd r x | false ↦ true ]

-- ---- what is proved of the tight box, for every relation

pub record Tightness (bd : Board) (holds : Layout → Bool) : Type 0 where
  pub laws : Laws bd holds (tight bd holds)
  pub rests : Rests bd (tight bd holds)
  -- a choice is in it exactly where some support uses it
  pub used : (b : Box) → Kept bd b → (c : Choice) → choice bd (tight bd holds b) c ≡ true → Supported bd holds b c
  pub uses_all : (b : Box) → Kept bd b → (c : Choice) → Supported bd holds b c → choice bd (tight bd holds b) c ≡ true

abbrev pub TightStands : Type 0
TightStands = (bd : Board) → 0 < bd.sensors → (holds : Layout → Bool) → Tightness bd holds

-- ---- what is proved of 'inside': an order, and that it says that the one's choices are the other's

pub record Ordering (bd : Board) : Type 0 where
  pub itself : (a : Box) → Kept bd a → Inside bd a a
  pub chain : (a b c : Box) → Kept bd a → Kept bd b → Kept bd c → Inside bd a b → Inside bd b c → Inside bd a c
  pub one : (a b : Box) → Kept bd a → Kept bd b → Inside bd a b → Inside bd b a → a ≡ b
  pub choices : (a b : Box) → Kept bd a → Kept bd b → Inside bd a b → (c : Choice) → choice bd a c ≡ true → choice bd b c ≡ true
  pub from_choices : (a b : Box) → Kept bd a → Kept bd b → ((c : Choice) → choice bd a c ≡ true → choice bd b c ≡ true) → Inside bd a b

abbrev pub InsideStands : Type 0
InsideStands = (bd : Board) → 0 < bd.sensors → Ordering bd
