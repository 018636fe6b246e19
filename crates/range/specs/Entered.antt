-- What a part of a run makes of a box a: the largest box inside it that obeys what is entered. Assumes nothing.
use Rattle.std.specs.Prelude.{◌≡◌, ℕ, ◌<◌, true, false, List, slice_index}
use Rattle.masks.specs.Masks.{has, within}
use Rattle.model.specs.Board.{Board}
use Rattle.model.specs.Layout.{Layout, slot_of, set_of, On}
use Rattle.model.specs.Box.{Box, cand, lo, hi, In, Inside, Live}

-- b is inside a, and a layout of a that obeys is in b
pub record Step (bd : Board) (Obeys : Layout → Type 0) (a b : Box) : Type 0 where
  pub inside : Inside bd b a
  pub keeps : (y : Layout) → On bd y → In bd y a → Obeys y → In bd y b

-- each sensor has a slot in its mask, as far as the sensors of `left` have not been gone through
pub record Limited (bd : Board) (sensors : ℕ) (keep : List ℕ) (left : ℕ) (a b : Box) : Type 0 where
  pub rest : (i : ℕ) → has left i ≡ true → has sensors i ≡ true
  pub step : Step bd (λ y. (i : ℕ) → has sensors i ≡ true → has (slice_index keep i) (slot_of y i) ≡ true) a b
  pub slots : Live bd b → (i : ℕ) → i < bd.sensors → has sensors i ≡ true → has left i ≡ false → within (cand b i) (slice_index keep i) ≡ true

-- set j lies within the mask
pub record Confined (bd : Board) (j mask : ℕ) (a b : Box) : Type 0 where
  pub step : Step bd (λ y. within (set_of y j) mask ≡ true) a b
  pub high : j < bd.sets → Live bd b → within (hi b j) mask ≡ true

-- both, and sets that hold a mask
pub record Obedient (s t sensors : ℕ) (keep : List ℕ) (bound wide sure : ℕ) (y : Layout) : Type 0 where
  pub slots : (i : ℕ) → has sensors i ≡ true → has (slice_index keep i) (slot_of y i) ≡ true
  pub s_high : within (set_of y s) sensors ≡ true
  pub s_low : within bound (set_of y s) ≡ true
  pub t_high : within (set_of y t) wide ≡ true
  pub t_low : within sure (set_of y t) ≡ true

pub record Entered (bd : Board) (s t sensors : ℕ) (keep : List ℕ) (bound wide sure : ℕ) (a b : Box) : Type 0 where
  pub step : Step bd (Obedient s t sensors keep bound wide sure) a b
  pub slots : Live bd b → (i : ℕ) → i < bd.sensors → has sensors i ≡ true → within (cand b i) (slice_index keep i) ≡ true
  pub s_high : s < bd.sets → Live bd b → within (hi b s) sensors ≡ true
  pub s_low : s < bd.sets → Live bd b → within bound (lo b s) ≡ true
  pub t_high : t < bd.sets → Live bd b → within (hi b t) wide ≡ true
  pub t_low : t < bd.sets → Live bd b → within sure (lo b t) ≡ true
