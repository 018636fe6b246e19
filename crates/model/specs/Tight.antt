-- The tight box of a relation on layouts, straight from its words. Assumes nothing.
use Rattle.std.specs.Prelude.{◌≡◌, ℕ, zero, suc, ◌^◌, Bool, true, false, ◌&&◌, List, [], ◌∷◌, ◌++◌, map, bit_and, bit_or}
use Rattle.masks.specs.Masks.{has, within}
use Rattle.model.specs.Board.{Board, room}
use Rattle.model.specs.Layout.{Layout, layout, slot_of, set_of, On}
use Rattle.model.specs.Box.{Box, cand, lo, hi, tab, In, Choice, uses}

-- ---- all layouts of a box

-- the numbers below n that pass
unfoldable pub below : (ℕ → Bool) → ℕ → List ℕ
below p zero = []
below p (suc n) = let r = below p n in elim (p n) [ true ↦ n ∷ r | false ↦ r ]

-- each x before each of the lists
unfoldable pub before : {X : Type 0} → List X → List (List X) → List (List X)
before [] rest = []
before (x ∷ xs) rest = map (λ r. x ∷ r) rest ++ before xs rest

-- all lists of n numbers, the number at place i from f i
unfoldable pub choose : (ℕ → List ℕ) → ℕ → List (List ℕ)
choose f zero = [] ∷ []
choose f (suc n) = before (f 0) (choose (λ i. f (suc i)) n)

unfoldable pub pairs : List (List ℕ) → List (List ℕ) → List Layout
pairs [] ys = []
pairs (x ∷ xs) ys = map (layout x) ys ++ pairs xs ys

abbrev pub slots_of : Board → Box → ℕ → List ℕ
slots_of bd b i = below (has (cand b i)) bd.slots

abbrev pub sets_of : Board → Box → ℕ → List ℕ
sets_of bd b j = below (λ x. within (lo b j) x && within x (hi b j)) (2 ^ room bd j)

unfoldable pub layouts : Board → Box → List Layout
layouts bd b = pairs (choose (slots_of bd b) bd.sensors) (choose (sets_of bd b) bd.sets)

-- ---- the hull of some layouts

unfoldable pub keep : {X : Type 0} → (X → Bool) → List X → List X
keep p [] = []
keep p (x ∷ xs) = let r = keep p xs in elim (p x) [ true ↦ x ∷ r | false ↦ r ]

-- the numbers in some of the masks
unfoldable pub union : {X : Type 0} → (X → ℕ) → List X → ℕ
union f [] = 0
union f (x ∷ xs) = bit_or (f x) (union f xs)

-- the numbers in all of the masks; none where there is no mask
unfoldable pub shared : {X : Type 0} → (X → ℕ) → List X → ℕ
shared f [] = 0
shared f (x ∷ []) = f x
shared f (x ∷ y ∷ ys) = bit_and (f x) (shared f (y ∷ ys))

-- the slots that some of the layouts use, the members found in all of them, and those found in some
unfoldable pub hull : Board → List Layout → Box
hull bd xs = record {
  cands = tab (λ i. union (λ x. 2 ^ slot_of x i) xs) bd.sensors;
  lows = tab (λ j. shared (λ x. set_of x j) xs) bd.sets;
  highs = tab (λ j. union (λ x. set_of x j) xs) bd.sets;
}

-- the hull of the supports: of the layouts in the box at which the relation holds
unfoldable pub tight : Board → (Layout → Bool) → Box → Box
tight bd holds b = hull bd (keep holds (layouts bd b))

-- some support of the relation in the box uses the choice
abbrev pub Supported : Board → (Layout → Bool) → Box → Choice → Type 0
Supported bd holds b c = (x : Layout) × On bd x × In bd x b × (holds x ≡ true) × (uses bd x c ≡ true)
