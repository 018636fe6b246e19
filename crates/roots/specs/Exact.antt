-- When a box at rest under a Roots rule is exact: each choice that is left is one of a support. Assumes nothing.
use Rattle.std.specs.Prelude.{◌≡◌, ℕ, ◌<◌, true}
use Rattle.masks.specs.Masks.{has, within}
use Rattle.model.specs.Board.{Board}
use Rattle.model.specs.Box.{Box, Choice, Live, cand, lo, choice, decided}
use Rattle.model.specs.Tight.{Supported}
use Rattle.roots.specs.Roots.{roots_fault, roots_holds, roots_run}
use Rattle.roots.specs.declared.roots.Roots.{Roots}

-- no dead end, and the run of a rule that fits changes nothing
pub record Resting (bd : Board) (r : Roots) (b : Box) : Type 0 where
  pub fit : roots_fault bd r ≡ 0
  pub live : Live bd b
  pub still : roots_run bd r b ≡ b

abbrev pub Exact : Board → Roots → Box → Type 0
Exact bd r b = (c : Choice) → choice bd b c ≡ true → Supported bd (roots_holds bd r) b c

-- ---- the cases

-- the slot set is decided
abbrev pub SlotsDecided : Board → Roots → Box → Type 0
SlotsDecided bd r b = decided b r.t ≡ true

-- each sensor surely in S has all its candidates surely in T
abbrev pub MembersSure : Board → Roots → Box → Type 0
MembersSure bd r b = (i : ℕ) → i < bd.sensors → has (lo b r.s) i ≡ true → within (cand b i) (lo b r.t) ≡ true

-- enough for it
pub record Cases (bd : Board) (r : Roots) (b : Box) : Type 0 where
  pub slots_decided : SlotsDecided bd r b → Exact bd r b

abbrev pub DecidedExact : Type 0
DecidedExact = (bd : Board) → 0 < bd.sensors → (r : Roots) (b : Box) → Resting bd r b → Cases bd r b
