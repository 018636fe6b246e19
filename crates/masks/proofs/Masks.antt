-- Membership in a mask, operation by operation. Assumes nothing.
use Rattle.std.proofs.Common.{◌≡◌, ℕ, zero, suc, ◌+◌, ◌-◌, ◌*◌, ◌/◌, ◌%◌, ◌^◌, ◌<◌, min, max, Bool, true, false, not, ◌&&◌, ◌||◌, eqb, ◌⊎◌, sym, refl, ap, ◌∙◌, inl, inr, pow-suc, arith, pow_pos}
use lib.Bits.{bit_and, bit_or, and_step, or_step, and_le_l}
use Rattle.std.proofs.lemmas.Bool.{eqb-true, eq-eqb, ne_eqb, and_parts}
use Rattle.masks.specs.Masks.{has, without, within}

pub bit : (m : ℕ) → (m % 2 ≡ 0) ⊎ (m % 2 ≡ 1)
bit m = go (m % 2) (omega arith)
  where
    go : (r : ℕ) → r < 2 → (r ≡ 0) ⊎ (r ≡ 1)
    go zero h = inl refl
    go (suc zero) h = inr refl
    go (suc (suc r)) h = absurd (omega arith)

-- an operation on masks works bit by bit when it halves and its last bit is g of theirs
module _ (op : ℕ → ℕ → ℕ) (f : ℕ → ℕ → ℕ) (g : Bool → Bool → Bool)
    (step : (a b : ℕ) → op a b ≡ op (a / 2) (b / 2) * 2 + f (a % 2) (b % 2))
    (low : (x y : ℕ) → x < 2 → y < 2 → f x y < 2)
    (bits : (x y : ℕ) → x < 2 → y < 2 → eqb (f x y) 1 ≡ g (eqb x 1) (eqb y 1)) where
  half : (a b : ℕ) → op a b / 2 ≡ op (a / 2) (b / 2)
  half a b = omega (arith, step a b, low (a % 2) (b % 2) (omega arith) (omega arith))

  last : (a b : ℕ) → op a b % 2 ≡ f (a % 2) (b % 2)
  last a b = omega (arith, step a b, low (a % 2) (b % 2) (omega arith) (omega arith))

  bitwise : (a b i : ℕ) → has (op a b) i ≡ g (has a i) (has b i)
  unfolding has
  bitwise a b zero = rw (last a b) (bits (a % 2) (b % 2) (omega arith) (omega arith))
  bitwise a b (suc i) = rw (half a b) (bitwise (a / 2) (b / 2) i)

low-pair : (P : ℕ → ℕ → Type 0) → P 0 0 → P 0 1 → P 1 0 → P 1 1 → (x y : ℕ) → x < 2 → y < 2 → P x y
low-pair P a b c d zero zero h k = a
low-pair P a b c d zero (suc zero) h k = b
low-pair P a b c d (suc zero) zero h k = c
low-pair P a b c d (suc zero) (suc zero) h k = d
low-pair P a b c d zero (suc (suc y)) h k = absurd (omega arith)
low-pair P a b c d (suc zero) (suc (suc y)) h k = absurd (omega arith)
low-pair P a b c d (suc (suc x)) y h k = absurd (omega arith)

pub has-and : (a b i : ℕ) → has (bit_and a b) i ≡ (has a i && has b i)
has-and = bitwise bit_and min (λ x y. x && y) and_step (λ x y h k. omega arith)
    (low-pair (λ x y. eqb (min x y) 1 ≡ (eqb x 1 && eqb y 1)) refl refl refl refl)

pub has-or : (a b i : ℕ) → has (bit_or a b) i ≡ (has a i || has b i)
has-or = bitwise bit_or max (λ x y. x || y) or_step (λ x y h k. omega arith)
    (low-pair (λ x y. eqb (max x y) 1 ≡ (eqb x 1 || eqb y 1)) refl refl refl refl)

without-step : (a b : ℕ) → without a b ≡ without (a / 2) (b / 2) * 2 + (a % 2 - min (a % 2) (b % 2))
without-step a b = omega (arith, and_step a b, and_le_l (a / 2) (b / 2))

pub has-without : (a b i : ℕ) → has (without a b) i ≡ (has a i && not (has b i))
has-without = bitwise (λ a b. without a b) (λ x y. x - min x y) (λ x y. x && not y) without-step (λ x y h k. omega arith)
    (low-pair (λ x y. eqb (x - min x y) 1 ≡ (eqb x 1 && not (eqb y 1))) refl refl refl refl)

pub has-zero : (i : ℕ) → has 0 i ≡ false
unfolding has
has-zero zero = refl
has-zero (suc i) = has-zero i

pow-half : (i : ℕ) → 2 ^ suc i / 2 ≡ 2 ^ i
pow-half i = omega (arith, pow-suc 2 i)

pow-last : (i : ℕ) → 2 ^ suc i % 2 ≡ 0
pow-last i = omega (arith, pow-suc 2 i)

pub has-single : (i j : ℕ) → has (2 ^ i) j ≡ eqb i j
unfolding has
has-single zero zero = refl
has-single zero (suc j) = has-zero j ∙ sym (ne_eqb 0 (suc j) (λ e. omega arith))
has-single (suc i) zero = rw (pow-last i) (sym (ne_eqb (suc i) 0 (λ e. omega arith)))
has-single (suc i) (suc j) = rw (pow-half i) (has-single i j ∙ sym (lib.Dec.eqb-suc-suc i j))

pub has-full : (k i : ℕ) → i < k → has (2 ^ k - 1) i ≡ true
unfolding has
has-full zero i h = absurd (omega arith)
has-full (suc k) zero h = eq-eqb ((2 ^ suc k - 1) % 2) 1 (omega (arith, pow-suc 2 k, pow_pos k))
has-full (suc k) (suc i) h =
    let e : (2 ^ suc k - 1) / 2 ≡ 2 ^ k - 1 = omega (arith, pow-suc 2 k, pow_pos k) in
    rw e (has-full k i (omega arith))

pub half-below : (k m : ℕ) → m < 2 ^ suc k → m / 2 < 2 ^ k
half-below k m h = omega (arith, pow-suc 2 k)

pub has-below : (k m i : ℕ) → m < 2 ^ k → has m i ≡ true → i < k
unfolding has
has-below zero m i h e =
    let z : m ≡ 0 = omega arith in
    let f : has 0 i ≡ true = rw z at e in
    let w : ◌≡◌ {A = Bool} false true = sym (has-zero i) ∙ f in
    absurd (mathlib.Core.Bool.false≢true w)
has-below (suc k) m zero h e = omega arith
has-below (suc k) m (suc i) h e = omega (arith, has-below k (m / 2) i (half-below k m h) e)

low_same : (x y : ℕ) → x < 2 → y < 2 → eqb x 1 ≡ eqb y 1 → x ≡ y
low_same = low-pair (λ x y. eqb x 1 ≡ eqb y 1 → x ≡ y) (λ e. refl) (λ e. absurd (mathlib.Core.Bool.false≢true e)) (λ e. absurd (mathlib.Core.Bool.true≢false e)) (λ e. refl)

pub has_same : (k a b : ℕ) → a < 2 ^ k → b < 2 ^ k → ((i : ℕ) → i < k → has a i ≡ has b i) → a ≡ b
unfolding has
has_same zero a b ha hb same = omega arith
has_same (suc k) a b ha hb same =
    let low : a % 2 ≡ b % 2 = low_same (a % 2) (b % 2) (omega arith) (omega arith) (same 0 (omega arith)) in
    let high : a / 2 ≡ b / 2 = has_same k (a / 2) (b / 2) (half-below k a ha) (half-below k b hb) (λ i h. same (suc i) (omega arith)) in
    omega arith

pub within_has : (a b : ℕ) → within a b ≡ true → (i : ℕ) → has a i ≡ true → has b i ≡ true
within_has a b w i h =
    let e : has (bit_and a b) i ≡ has a i = ap (λ m. has m i) (eqb-true (bit_and a b) a w) in
    let f : (has a i && has b i) ≡ true = sym (has-and a b i) ∙ e ∙ h in
    (and_parts (has a i) (has b i) f).1

and-of : (x y : Bool) → (x ≡ true → y ≡ true) → (x && y) ≡ x
and-of true y f = f refl
and-of false y f = refl

pub within-from : (k a b : ℕ) → a < 2 ^ k → ((i : ℕ) → i < k → has a i ≡ true → has b i ≡ true) → within a b ≡ true
within-from k a b ha f =
    eq-eqb (bit_and a b) a (has_same k (bit_and a b) a (omega (arith, and_le_l a b)) ha
    (λ i h. has-and a b i ∙ and-of (has a i) (has b i) (f i h)))

-- ---- what a program computes

-- (m >> i) & 1 == 1
pub has-shr : (m i : ℕ) → has m i ≡ eqb (m / 2 ^ i % 2) 1
unfolding has
has-shr m zero = ap (λ n. eqb (n % 2) 1) (sym (native.Mathlib.Nat.div-one m))
has-shr m (suc i) = has-shr (m / 2) i ∙ ap (λ n. eqb (n % 2) 1) (lib.Pow.shr-shr m 1 i ∙ ap (λ k. m / 2 ^ k) (omega arith))

pub has-complement : (w b i : ℕ) → b < 2 ^ w → i < w → has ((2 ^ w - 1) - b) i ≡ not (has b i)
unfolding has
has-complement zero b i h k = absurd (omega arith)
has-complement (suc w) b zero h k = elim (bit b) [
  | inl e ↦
      let z : ((2 ^ suc w - 1) - b) % 2 ≡ 1 = omega (arith, pow-suc 2 w) in
      rw (z, e) refl
  | inr e ↦
      let z : ((2 ^ suc w - 1) - b) % 2 ≡ 0 = omega (arith, pow-suc 2 w) in
      rw (z, e) refl
]
has-complement (suc w) b (suc i) h k =
    let z : ((2 ^ suc w - 1) - b) / 2 ≡ (2 ^ w - 1) - b / 2 = omega (arith, pow-suc 2 w) in
    rw z (has-complement w (b / 2) i (half-below w b h) (omega arith))

-- a & !b, at w bits
pub and-not : (w a b : ℕ) → a < 2 ^ w → b < 2 ^ w → bit_and a ((2 ^ w - 1) - b) ≡ without a b
and-not w a b ha hb = has_same w _ _ (omega (arith, and_le_l a ((2 ^ w - 1) - b))) (omega arith)
    (λ i h. has-and a ((2 ^ w - 1) - b) i ∙ ap (λ t. has a i && t) (has-complement w b i hb h) ∙ sym (has-without a b i))
