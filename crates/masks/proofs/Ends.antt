-- The least and the greatest member of a mask, and stretches of numbers. Assumes nothing.
use Rattle.std.proofs.Common.{◌≡◌, ℕ, zero, suc, ◌-◌, ◌/◌, ◌%◌, ◌^◌, ◌<◌, ◌≤◌, min, true, false, eqb, ◌⊎◌, sym, refl, ap, ◌∙◌, inl, inr, pow-suc, arith, pow_pos, pow_mono}
use Rattle.std.proofs.lemmas.Bool.{both_ways, not-true, eqb-false, eq-eqb, ne_eqb, cases_lt, and_parts, cases_eq, cases_Bool, and_from, not_from_false}
use Rattle.masks.specs.Masks.{has, lowest, numbers, past, stretch}
use Rattle.masks.proofs.Counts.{first, first-has}
use Rattle.masks.proofs.Masks.{bit, half-below, has-below, has-full, has-without}
use Rattle.masks.proofs.Subsets.{nonzero}
use lib.Count.{count_trailing_zeros, leading_top, leading_of_zero, under as below-digit}

some-member : (m i : ℕ) → has m i ≡ true → 0 < m
some-member m i e = let n = eqb-false m 0 (nonzero m i e) in omega arith

-- ---- the least member

least-none : (k m i : ℕ) → i < count_trailing_zeros k m → has m i ≡ false
unfolding has count_trailing_zeros
least-none zero m i h = absurd (omega arith)
least-none (suc k) m i h = go (m % 2) refl i h (least-none k (m / 2))
  where
    go : (t : ℕ) → m % 2 ≡ t → (i : ℕ) → i < below-digit t (count_trailing_zeros k (m / 2)) → ((j : ℕ) → j < count_trailing_zeros k (m / 2) → has (m / 2) j ≡ false) → has m i ≡ false
    go zero e zero q again = ap (λ t. eqb t 1) e
    go zero e (suc i) q again = again i (omega arith)
    go (suc t) e i q again = absurd (omega arith)

least-has : (k m i : ℕ) → count_trailing_zeros k m ≤ i → i < k → has m (count_trailing_zeros k m) ≡ true
unfolding has count_trailing_zeros
least-has zero m i h p = absurd (omega arith)
least-has (suc k) m i h p = go (m % 2) refl (bit m) i h p (least-has k (m / 2))
  where
    go : (t : ℕ) → m % 2 ≡ t → (m % 2 ≡ 0) ⊎ (m % 2 ≡ 1) → (i : ℕ) → below-digit t (count_trailing_zeros k (m / 2)) ≤ i → i < suc k
        → ((j : ℕ) → count_trailing_zeros k (m / 2) ≤ j → j < k → has (m / 2) (count_trailing_zeros k (m / 2)) ≡ true) → has m (below-digit t (count_trailing_zeros k (m / 2))) ≡ true
    go zero e _ zero q r again = absurd (omega arith)
    go zero e _ (suc i) q r again = again i (omega arith) (omega arith)
    go (suc t) e (inl z) i q r again = absurd (omega arith)
    go (suc t) e (inr z) i q r again = eq-eqb (m % 2) 1 z

pub lowest-none : (m i : ℕ) → i < lowest m → has m i ≡ false
lowest-none m i h = least-none 64 m i h

-- it is a member where it is no more than some number below 64
pub lowest-in : (m i : ℕ) → lowest m ≤ i → i < 64 → has m (lowest m) ≡ true
lowest-in m i h p = least-has 64 m i h p

pub lowest-le : (m i : ℕ) → has m i ≡ true → lowest m ≤ i
lowest-le m i e = elim (cases_lt i (lowest m)) [ inl h ↦ absurd (both_ways _ (lowest-none m i h) e) | inr h ↦ h ]

pub lowest-has : (m : ℕ) → m < 2 ^ 64 → 0 < m → has m (lowest m) ≡ true
lowest-has m h p =
    let u = first 64 m in
    let e : has m u ≡ true = first-has 64 m h (ne_eqb m 0 (λ z. omega arith)) in
    lowest-in m u (lowest-le m u e) (has-below 64 m u h e)

-- ---- the greatest member

top-has : (j a : ℕ) → 2 ^ j ≤ a → a < 2 ^ suc j → has a j ≡ true
unfolding has
top-has zero a p q = eq-eqb (a % 2) 1 (omega arith)
top-has (suc j) a p q = top-has j (a / 2) (omega (arith, pow-suc 2 j)) (half-below (suc j) a q)

-- it is q, with just the numbers up to q below 2 ^ (q + 1)
pub past_top : (m : ℕ) → m < 2 ^ 64 → 0 < m → (q : ℕ) × (past m ≡ suc q) × (has m q ≡ true) × (m < 2 ^ suc q)
past_top m h p =
    let t = leading_top 64 m p h in
    (t.0, omega (arith, t.1), top-has t.0 m t.2 t.3, t.3)

pub past_all : (m i : ℕ) → m < 2 ^ 64 → has m i ≡ true → i < past m
past_all m i h e =
    let t = past_top m h (some-member m i e) in
    omega (arith, t.1, has-below (suc t.0) m i t.3 e)

-- a number before it has a member at or after it
pub past-in : (m i : ℕ) → m < 2 ^ 64 → i < past m → (q : ℕ) × (past m ≡ suc q) × (has m q ≡ true) × (m < 2 ^ suc q)
past-in m i h p = past_top m h (elim (cases_eq m 0) [ inl z ↦ absurd (omega (arith, ap (λ n. past n) z, leading_of_zero 64)) | inr z ↦ omega arith ])

pub past-has : (m : ℕ) → m < 2 ^ 64 → 0 < m → has m (past m - 1) ≡ true
past-has m h p =
    let t = past_top m h p in
    let e : past m - 1 ≡ t.0 = omega (arith, t.1) in
    ap (has m) e ∙ t.2

-- ---- stretches

numbers-has : (n i : ℕ) → i < 64 → i < n → has (numbers n) i ≡ true
numbers-has n i p q = has-full (min n 64) i (omega arith)

numbers-below : (n i : ℕ) → has (numbers n) i ≡ true → (i < n) × (i < 64)
numbers-below n i e =
    let h = has-below (min n 64) (numbers n) i (omega (arith, pow_pos (min n 64))) e in
    (omega arith, omega arith)

numbers-not : (n i : ℕ) → n ≤ i → has (numbers n) i ≡ false
numbers-not n i h = elim (cases_Bool (has (numbers n) i)) [ inl e ↦ absurd (omega (arith, (numbers-below n i e).0)) | inr e ↦ e ]

pub stretch-has : (s e i : ℕ) → i < 64 → s ≤ i → i < e → has (stretch s e) i ≡ true
unfolding stretch
stretch-has s e i h p q = has-without (numbers e) (numbers s) i ∙ and_from _ _ (numbers-has e i h q) (not_from_false _ (numbers-not s i p))

pub stretch-ends : (s e i : ℕ) → has (stretch s e) i ≡ true → (i < 64) × (s ≤ i) × (i < e)
unfolding stretch
stretch-ends s e i h =
    let w = and_parts _ _ (sym (has-without (numbers e) (numbers s) i) ∙ h) in
    let k = numbers-below e i w.0 in
    (k.1, elim (cases_lt i s) [ inl q ↦ absurd (both_ways _ (not-true _ w.1) (numbers-has s i k.1 q)) | inr q ↦ q ], k.0)

pub stretch-small : (s e : ℕ) → stretch s e < 2 ^ 64
unfolding stretch
stretch-small s e =
    let h : min e 64 ≤ 64 = omega arith in
    omega (arith, pow_mono h, pow_pos (min e 64))
