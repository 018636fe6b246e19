-- Members counted, the first of them, and masks of one member. Assumes nothing.
use Rattle.std.proofs.Common.{◌≡◌, ℕ, zero, suc, ◌+◌, ◌*◌, ◌/◌, ◌%◌, ◌^◌, ◌<◌, ◌≤◌, Bool, true, false, cond, not, ◌&&◌, eqb, sym, refl, ap, ◌∙◌, inl, inr, pow-suc, arith, pow_pos}
use mathlib.Core.Bool.{false≢true}
use lib.Count.{ones, ones_step, ones_cat}
use Rattle.std.proofs.lemmas.Bool.{both_ways, not-true, eqb-true, eq-eqb, ne_eqb, and_parts, cases_eq, cases_Bool}
use Rattle.masks.specs.Masks.{has, tally, within, without}
use Rattle.masks.proofs.Masks.{bit, half-below, has_same, has-single, has-without, has-zero, within_has}
use Rattle.masks.proofs.Subsets.{has-ext, single-has, small, within-le}

tally-shift : (p : ℕ → Bool) (k : ℕ) → tally p (suc k) ≡ cond (p 0) 1 0 + tally (λ i. p (suc i)) k
tally-shift p zero = refl
tally-shift p (suc k) = omega (arith, tally-shift p k)

low_count : (m : ℕ) → cond (has m 0) 1 0 ≡ m % 2
unfolding has
low_count m = elim (bit m) [ inl e ↦ rw e refl | inr e ↦ rw e refl ]

pub ones-tally : (k m : ℕ) → m < 2 ^ k → ones m ≡ tally (has m) k
unfolding has ones
ones-tally zero m h = let z : m ≡ 0 = omega arith in rw z refl
ones-tally (suc k) m h =
    omega (arith, ones_step m, tally-shift (has m) k, low_count m, ones-tally k (m / 2) (half-below k m h))

-- a member of a mask that is not empty: its first
pub first : ℕ → ℕ → ℕ
first zero m = 0
first (suc k) m = cond (eqb (m % 2) 1) 0 (suc (first k (m / 2)))

pub first-has : (k m : ℕ) → m < 2 ^ k → eqb m 0 ≡ false → has m (first k m) ≡ true
unfolding first has
first-has zero m h e = absurd (both_ways (eqb m 0) e (eq-eqb m 0 (omega arith)))
first-has (suc k) m h e = go (eqb (m % 2) 1) refl (first-has k (m / 2))
  where
    go : (t : Bool) → eqb (m % 2) 1 ≡ t → (m / 2 < 2 ^ k → eqb (m / 2) 0 ≡ false → has (m / 2) (first k (m / 2)) ≡ true)
        → has m (cond t 0 (suc (first k (m / 2)))) ≡ true
    go true q again = q
    go false q again =
        again (omega (arith, pow-suc 2 k)) (ne_eqb (m / 2) 0 (λ z. both_ways (eqb m 0) e (eq-eqb m 0
        (let n : (m % 2 ≡ 1) → ⊥ = λ w. both_ways (eqb (m % 2) 1) q (eq-eqb (m % 2) 1 w) in omega arith))))

-- ---- fewer members

tally-le : (p q : ℕ → Bool) (k : ℕ) → ((i : ℕ) → p i ≡ true → q i ≡ true) → tally p k ≤ tally q k
tally-le p q zero f = omega arith
tally-le p q (suc k) f = go (p k) (q k) (f k) (tally-le p q k f)
  where
    go : (s t : Bool) → (s ≡ true → t ≡ true) → tally p k ≤ tally q k → cond s 1 0 + tally p k ≤ cond t 1 0 + tally q k
    go true true g h = omega arith
    go true false g h = absurd (false≢true (g refl))
    go false true g h = omega arith
    go false false g h = omega arith

tally-same : (p q : ℕ → Bool) (k : ℕ) → ((i : ℕ) → p i ≡ true → q i ≡ true) → tally p k ≡ tally q k → (i : ℕ) → i < k → p i ≡ q i
tally-same p q zero f e i h = absurd (omega arith)
tally-same p q (suc k) f e i h = go (p k) (q k) refl refl (f k) e (λ b. tally-same p q k f b i)
  where
    le : tally p k ≤ tally q k
    le = tally-le p q k f

    here : p k ≡ q k → (i < k → p i ≡ q i) → p i ≡ q i
    here a again = elim (cases_eq i k) [ inl z ↦ ap p z ∙ a ∙ ap q (sym z) | inr z ↦ again (omega arith) ]

    go : (s t : Bool) → p k ≡ s → q k ≡ t → (s ≡ true → t ≡ true) → cond s 1 0 + tally p k ≡ cond t 1 0 + tally q k
        → (tally p k ≡ tally q k → i < k → p i ≡ q i) → p i ≡ q i
    go true true a b g z again = here (a ∙ sym b) (again (omega arith))
    go true false a b g z again = absurd (false≢true (g refl))
    go false true a b g z again = absurd (omega (arith, le))
    go false false a b g z again = here (a ∙ sym b) (again (omega arith))

pub ones-within : (a b : ℕ) → within a b ≡ true → ones a ≤ ones b
ones-within a b w =
    let h : a < 2 ^ b = omega (arith, small b, within-le a b w) in
    omega (arith, ones-tally b a h, ones-tally b b (small b), tally-le (has a) (has b) b (within_has a b w))

pub ones-same : (a b : ℕ) → within a b ≡ true → ones a ≡ ones b → a ≡ b
ones-same a b w e =
    let h : a < 2 ^ b = omega (arith, small b, within-le a b w) in
    let t : tally (has a) b ≡ tally (has b) b = omega (arith, ones-tally b a h, ones-tally b b (small b)) in
    has_same b a b h (small b) (tally-same (has a) (has b) b (within_has a b w) t)

-- ---- one member

pub ones-pow : (w : ℕ) → ones (2 ^ w) ≡ 1
unfolding ones
ones-pow w =
    let e : 2 ^ w ≡ 1 * 2 ^ w + 0 = omega arith in
    ap ones e ∙ ones_cat w 1 0 (pow_pos w)

pub has-ones : (w c : ℕ) → has c w ≡ true → 1 ≤ ones c
unfolding has
has-ones zero c e = omega (arith, ones_step c, eqb-true (c % 2) 1 e)
has-ones (suc w) c e = omega (arith, ones_step c, has-ones w (c / 2) e)

pub none-zero : (c : ℕ) → ones c ≡ 0 → c ≡ 0
none-zero c e = elim (cases_Bool (eqb c 0)) [
  | inl z ↦ eqb-true c 0 z
  | inr z ↦ absurd (omega (arith, has-ones (first c c) c (first-has c c (small c) z)))
]

pub one_has : (c w : ℕ) → ones c ≡ 1 → has c w ≡ true → c ≡ 2 ^ w
unfolding has
one_has c zero e q = omega (arith, ones_step c, eqb-true (c % 2) 1 q, none-zero (c / 2) (omega (arith, ones_step c, eqb-true (c % 2) 1 q)))
one_has c (suc w) e q =
    let g = has-ones w (c / 2) q in
    omega (arith, pow-suc 2 w, ones_step c, g, one_has (c / 2) w (omega (arith, ones_step c, g)) q)

-- a member besides w, where there is not just one
pub another : (w c : ℕ) → (ones c ≡ 1 → ⊥) → has c w ≡ true → (u : ℕ) × (has c u ≡ true) × (u ≡ w → ⊥)
another w c ne q = elim (cases_Bool (eqb (without c (2 ^ w)) 0)) [
  | inl z ↦ absurd (ne (ap ones (has-ext c (2 ^ w) (λ j. same j (eqb-true _ 0 z))) ∙ ones-pow w))
  | inr z ↦
      let r = without c (2 ^ w) in
      let u = first r r in
      let p = and_parts _ _ (sym (has-without c (2 ^ w) u) ∙ first-has r r (small r) z) in
      (u, p.0, λ e. both_ways (has (2 ^ w) u) (not-true _ p.1) (ap (has (2 ^ w)) e ∙ single-has w))
]
  where
    same : (j : ℕ) → without c (2 ^ w) ≡ 0 → has c j ≡ has (2 ^ w) j
    same j z = elim (cases_Bool (eqb w j)) [
      | inl e ↦ ap (has c) (sym (eqb-true w j e)) ∙ q ∙ sym (has-single w j ∙ e)
      | inr e ↦ go (has c j) (has (2 ^ w) j) (has-single w j ∙ e) (sym (has-without c (2 ^ w) j) ∙ ap (λ n. has n j) z ∙ has-zero j)
    ]
      where
        go : (a b : Bool) → b ≡ false → (a && not b) ≡ false → a ≡ b
        go true true f g = refl
        go true false f g = g
        go false true f g = sym f
        go false false f g = refl
