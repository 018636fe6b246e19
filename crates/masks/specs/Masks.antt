-- Masks as finite sets of numbers: bit i stands for number i, bit 0 being the least. Assumes nothing.
use Rattle.std.specs.Prelude.{◌≡◌, ℕ, zero, suc, ◌+◌, ◌-◌, ◌/◌, ◌%◌, ◌^◌, ◌<◌, ◌≤◌, min, Bool, true, false, cond, not, ◌&&◌, ◌||◌, ◌==◌, bit_and, bit_or, count_ones}
use Rattle.std.specs.Int.Count.{count_trailing_zeros, count_leading_zeros}

-- whether number i is a member of the mask m
unfoldable pub has : ℕ → ℕ → Bool
has m zero = m % 2 == 1
has m (suc i) = has (m / 2) i

-- the members of a that b does not have
abbrev pub without : ℕ → ℕ → ℕ
without a b = a - bit_and a b

-- every member of a is one of b
abbrev pub within : ℕ → ℕ → Bool
within a b = bit_and a b == a

-- the numbers below n, those below 64 where n is more
abbrev pub numbers : ℕ → ℕ
numbers n = 2 ^ min n 64 - 1

-- the numbers from s on, up to e and without it; none from 64 on
unfoldable pub stretch : ℕ → ℕ → ℕ
stretch s e = without (numbers e) (numbers s)

-- the least member of a mask of 64 bits; 64 where there is none
abbrev pub lowest : ℕ → ℕ
lowest m = count_trailing_zeros 64 m

-- the number after the greatest member of a mask of 64 bits; 0 where there is none
abbrev pub past : ℕ → ℕ
past m = 64 - count_leading_zeros 64 m

-- how many numbers below k pass the test
abbrev pub tally : (ℕ → Bool) → ℕ → ℕ
tally p zero = 0
tally p (suc k) = cond (p k) 1 0 + tally p k

-- a member i of a mask, and the others
pub record Parted (mask i rest : ℕ) : Type 0 where
  pub low : i < 64
  pub member : has mask i ≡ true
  pub others : rest ≡ without mask (2 ^ i)

-- what is proved of masks
pub record Masks : Type 0 where
  -- membership, operation by operation
  pub meet : (a b i : ℕ) → has (bit_and a b) i ≡ (has a i && has b i)
  pub join : (a b i : ℕ) → has (bit_or a b) i ≡ (has a i || has b i)
  pub removal : (a b i : ℕ) → has (without a b) i ≡ (has a i && not (has b i))
  pub single : (i j : ℕ) → has (2 ^ i) j ≡ (i == j)
  pub none : (i : ℕ) → has 0 i ≡ false
  pub full : (k i : ℕ) → i < k → has (2 ^ k - 1) i ≡ true
  pub bounded : (k m i : ℕ) → m < 2 ^ k → has m i ≡ true → i < k
  -- two masks with the same members are one
  pub same : (k a b : ℕ) → a < 2 ^ k → b < 2 ^ k → ((i : ℕ) → i < k → has a i ≡ has b i) → a ≡ b
  -- subset, both ways
  pub subset : (a b : ℕ) → within a b ≡ true → (i : ℕ) → has a i ≡ true → has b i ≡ true
  pub subset_from : (k a b : ℕ) → a < 2 ^ k → ((i : ℕ) → i < k → has a i ≡ true → has b i ≡ true) → within a b ≡ true
  -- counting; a mask of one member is that member's
  pub count : (k m : ℕ) → m < 2 ^ k → count_ones m ≡ tally (has m) k
  pub fewer : (a b : ℕ) → within a b ≡ true → count_ones a ≤ count_ones b
  pub one : (m i : ℕ) → count_ones m ≡ 1 → has m i ≡ true → m ≡ 2 ^ i
  -- the least and the greatest member
  pub least : (m i : ℕ) → i < lowest m → has m i ≡ false
  pub least_in : (m : ℕ) → m < 2 ^ 64 → 0 < m → has m (lowest m) ≡ true
  pub greatest : (m i : ℕ) → m < 2 ^ 64 → has m i ≡ true → i < past m
  pub greatest_in : (m : ℕ) → m < 2 ^ 64 → 0 < m → has m (past m - 1) ≡ true
  -- a stretch has just what lies between its ends
  pub stretched : (s e i : ℕ) → i < 64 → s ≤ i → i < e → has (stretch s e) i ≡ true
  pub between : (s e i : ℕ) → has (stretch s e) i ≡ true → (i < 64) × (s ≤ i) × (i < e)
