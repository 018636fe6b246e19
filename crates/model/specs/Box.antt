-- A box: what a layout may still be. Assumes nothing.
use Rattle.std.specs.Prelude.{◌≡◌, ℕ, zero, suc, ◌+◌, ◌-◌, ◌^◌, ◌<◌, Bool, true, false, cond, not, ◌&&◌, ◌⊎◌, List, [], ◌∷◌, length, replicate, ◌==◌, count_ones, nat_lt, slice_index}
use Rattle.masks.specs.Masks.{has, within, without}
use Rattle.model.specs.Board.{Board, room}
use Rattle.model.specs.Layout.{Layout, slot_of, set_of}

-- the candidates of each sensor, and a lower and an upper bound of each set, all as masks
pub record Box : Type 0 where
  pub cands : List ℕ
  pub lows : List ℕ
  pub highs : List ℕ

abbrev pub cand : Box → ℕ → ℕ
cand b i = slice_index b.cands i

abbrev pub lo : Box → ℕ → ℕ
lo b j = slice_index b.lows j

abbrev pub hi : Box → ℕ → ℕ
hi b j = slice_index b.highs j

-- every number below n passes
abbrev pub every : (ℕ → Bool) → ℕ → Bool
every p zero = true
every p (suc n) = p n && every p n

-- f 0, f 1, .. up to f (n - 1)
unfoldable pub tab : {X : Type 0} → (ℕ → X) → ℕ → List X
tab f zero = []
tab f (suc n) = f 0 ∷ tab (λ i. f (suc i)) n

-- a layout lies in a box: each sensor's slot is a candidate, and each set contains its lo and lies within its hi
pub record In (bd : Board) (x : Layout) (b : Box) : Type 0 where
  pub slots_in : (i : ℕ) → i < bd.sensors → has (cand b i) (slot_of x i) ≡ true
  pub over : (j : ℕ) → j < bd.sets → within (lo b j) (set_of x j) ≡ true
  pub under : (j : ℕ) → j < bd.sets → within (set_of x j) (hi b j) ≡ true

-- ---- live and dead

-- live: each sensor has a candidate, and each lo lies within its hi
unfoldable pub live : Board → Box → Bool
live bd b = every (λ i. not (cand b i == 0)) bd.sensors && every (λ j. within (lo b j) (hi b j)) bd.sets

-- the one dead box that is stored: no candidates, and empty bounds
unfoldable pub dead : Board → Box
dead bd = record { cands = replicate bd.sensors 0; lows = replicate bd.sets 0; highs = replicate bd.sets 0 }

-- a live box whose candidates and bounds all lie on the board
pub record Live (bd : Board) (b : Box) : Type 0 where
  pub cands_many : length b.cands ≡ bd.sensors
  pub lows_many : length b.lows ≡ bd.sets
  pub highs_many : length b.highs ≡ bd.sets
  pub cands_on : (i : ℕ) → i < bd.sensors → cand b i < 2 ^ bd.slots
  pub highs_on : (j : ℕ) → j < bd.sets → hi b j < 2 ^ room bd j
  pub some : (i : ℕ) → i < bd.sensors → (cand b i == 0) ≡ false
  pub bounds : (j : ℕ) → j < bd.sets → within (lo b j) (hi b j) ≡ true

-- what every plan keeps
abbrev pub Kept : Board → Box → Type 0
Kept bd b = (b ≡ dead bd) ⊎ Live bd b

-- the box of a new plan: all slots are candidates, every lo is empty, every hi is full
unfoldable pub full : Board → Box
full bd = record {
  cands = tab (λ i. 2 ^ bd.slots - 1) bd.sensors;
  lows = tab (λ j. 0) bd.sets;
  highs = tab (λ j. 2 ^ room bd j - 1) bd.sets;
}

-- a set is decided when its lo is its hi
abbrev pub decided : Box → ℕ → Bool
decided b j = lo b j == hi b j

-- ---- inside

pub record Narrower (bd : Board) (a b : Box) : Type 0 where
  pub fewer : (i : ℕ) → i < bd.sensors → within (cand a i) (cand b i) ≡ true
  pub lower : (j : ℕ) → j < bd.sets → within (hi a j) (hi b j) ≡ true
  pub higher : (j : ℕ) → j < bd.sets → within (lo b j) (lo a j) ≡ true

-- a box is inside another when it is dead, or when its candidates and his are subsets and its los contain the other's
abbrev pub Inside : Board → Box → Box → Type 0
Inside bd a b = (live bd a ≡ false) ⊎ Narrower bd a b

-- ---- choices

-- a slot for a sensor, a number taken into a set, a number left out of a set
pub data Choice : Type 0 where
  slotted : ℕ → ℕ → Choice
  taken : ℕ → ℕ → Choice
  omitted : ℕ → ℕ → Choice

-- what the masks of a box leave open
abbrev pub offers : Board → Box → Choice → Bool
offers bd b (slotted i s) = has (cand b i) s
offers bd b (taken j v) = has (hi b j) v
offers bd b (omitted j v) = (nat_lt j bd.sets && nat_lt v (room bd j)) && not (has (lo b j) v)

-- the choices of a box; a dead box has none
unfoldable pub choice : Board → Box → Choice → Bool
choice bd b c = live bd b && offers bd b c

-- what a layout uses: the slot of each sensor, each member it takes into a set, each number it leaves out
unfoldable pub uses : Board → Layout → Choice → Bool
uses bd x (slotted i s) = nat_lt i bd.sensors && slot_of x i == s
uses bd x (taken j v) = has (set_of x j) v
uses bd x (omitted j v) = (nat_lt j bd.sets && nat_lt v (room bd j)) && not (has (set_of x j) v)

-- a choice is struck when the box has it no longer
abbrev pub struck : Board → Box → Choice → Bool
struck bd b c = not (choice bd b c)

-- ---- how much is open

-- f 0 + f 1 + .. + f (n - 1)
abbrev pub total : (ℕ → ℕ) → ℕ → ℕ
total f zero = 0
total f (suc n) = f n + total f n

-- all candidates, and for each set the members of hi outside lo; a dead box counts 0
unfoldable pub size : Board → Box → ℕ
size bd b = cond (live bd b) (total (λ i. count_ones (cand b i)) bd.sensors + total (λ j. count_ones (without (hi b j) (lo b j))) bd.sets) 0
