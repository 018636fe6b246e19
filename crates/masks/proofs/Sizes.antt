-- Masks of a wanted number of members. Assumes nothing.
use Rattle.std.proofs.Common.{◌≡◌, ℕ, zero, suc, ◌+◌, ◌-◌, ◌*◌, ◌/◌, ◌%◌, ◌^◌, ◌≤◌, max, Bool, true, false, not, ◌&&◌, ◌||◌, eqb, ◌⊎◌, sym, refl, ap, ◌∙◌, ap₂, inl, inr, pow-suc, arith}
use mathlib.Core.Bool.{false≢true}
use lib.Bits.{or_step, or_zero_r, bit_or}
use lib.Count.{ones, ones_step}
use Rattle.std.proofs.lemmas.Bool.{both_ways, not-true, eq-eqb, ne_eqb, cases_lt, and_parts, cases_eq, and_right, not_from_true}
use Rattle.masks.specs.Masks.{has, within, without}
use Rattle.masks.proofs.Counts.{first, first-has, ones-within}
use Rattle.masks.proofs.Masks.{bit, has-or, has-without}
use Rattle.masks.proofs.Subsets.{has-ext, single-has, single-other, single-within, small, within-gone, within-or, within-or-l, within-self, within-trans}

-- one member more
pub ones-more : (v m : ℕ) → has m v ≡ false → ones (bit_or m (2 ^ v)) ≡ suc (ones m)
unfolding has
ones-more zero m e = elim (bit m) [
  | inl z ↦
      let s : bit_or m 1 ≡ (m / 2) * 2 + 1 = or_step m 1 ∙ ap₂ (λ a b. a * 2 + max b 1) (or_zero_r (m / 2)) z in
      let a : bit_or m 1 % 2 ≡ 1 = omega arith in
      let b : bit_or m 1 / 2 ≡ m / 2 = omega arith in
      ones_step (bit_or m 1) ∙ ap₂ (λ p q. p + ones q) a b ∙ omega (arith, ones_step m)
  | inr z ↦ absurd (both_ways (eqb (m % 2) 1) e (eq-eqb (m % 2) 1 z))
]
ones-more (suc v) m e =
    let s : bit_or m (2 ^ suc v) ≡ bit_or (m / 2) (2 ^ suc v / 2) * 2 + max (m % 2) (2 ^ suc v % 2) = or_step m (2 ^ suc v) in
    let p : 2 ^ suc v / 2 ≡ 2 ^ v = omega (arith, pow-suc 2 v) in
    let q : 2 ^ suc v % 2 ≡ 0 = omega (arith, pow-suc 2 v) in
    let t : bit_or m (2 ^ suc v) ≡ bit_or (m / 2) (2 ^ v) * 2 + m % 2 = s ∙ ap₂ (λ a b. bit_or (m / 2) a * 2 + max (m % 2) b) p q ∙ omega arith in
    let a : bit_or m (2 ^ suc v) % 2 ≡ m % 2 = omega arith in
    let b : bit_or m (2 ^ suc v) / 2 ≡ bit_or (m / 2) (2 ^ v) = omega arith in
    ones_step (bit_or m (2 ^ suc v)) ∙ ap₂ (λ x y. x + ones y) a b ∙ omega (arith, ones_step m, ones-more v (m / 2) e)

-- one member less
pub ones-less : (v m : ℕ) → has m v ≡ true → suc (ones (without m (2 ^ v))) ≡ ones m
ones-less v m e =
    let gone : has (without m (2 ^ v)) v ≡ false = has-without m (2 ^ v) v ∙ and_right _ _ (not_from_true _ (single-has v)) in
    sym (ones-more v (without m (2 ^ v)) gone) ∙ ap ones (has-ext _ m (λ j. has-or (without m (2 ^ v)) (2 ^ v) j ∙ ap (λ t. t || has (2 ^ v) j) (has-without m (2 ^ v) j) ∙ back j (cases_eq v j)))
  where
    other : (p q : Bool) → q ≡ false → ((p && not q) || q) ≡ p
    other true true z = refl
    other true false z = refl
    other false true z = z
    other false false z = refl

    there : (p q : Bool) → p ≡ true → q ≡ true → ((p && not q) || q) ≡ p
    there true true z w = refl
    there true false z w = refl
    there false q z w = absurd (false≢true z)

    back : (j : ℕ) → (v ≡ j) ⊎ (v ≡ j → ⊥) → ((has m j && not (has (2 ^ v) j)) || has (2 ^ v) j) ≡ has m j
    back j (inl z) = there _ _ (ap (has m) (sym z) ∙ e) (ap (has (2 ^ v)) (sym z) ∙ single-has v)
    back j (inr z) = other _ _ (single-other v j z)

-- between two masks there is one of least to most members, where their sizes allow it
pub record Amid (l h least most : ℕ) : Type 0 where
  pub mask : ℕ
  pub over : within l mask ≡ true
  pub below : within mask h ≡ true
  pub enough : least ≤ ones mask
  pub few : ones mask ≤ most

pub amid : (l h least most : ℕ) → within l h ≡ true → ones l ≤ most → least ≤ ones h → least ≤ most → Amid l h least most
amid l h least most w p q r = grow (least - ones l) l w p (omega arith)
  where
    grow : (f m : ℕ) → within m h ≡ true → ones m ≤ most → least ≤ ones m + f → Amid m h least most
    grow zero m w p e = record { mask = m; over = within-self m; below = w; enough = omega arith; few = p }
    grow (suc f) m w p e = elim (cases_lt (ones m) least) [
      | inr z ↦ record { mask = m; over = within-self m; below = w; enough = z; few = p }
      | inl z ↦
          let rest = without h m in
          let v = first rest rest in
          let left : eqb rest 0 ≡ false = ne_eqb rest 0 (λ n. omega (arith, ones-within h m (within-gone h m n))) in
          let t = and_parts _ _ (sym (has-without h m v) ∙ first-has rest rest (small rest) left) in
          let s = ones-more v m (not-true _ t.1) in
          let g = grow f (bit_or m (2 ^ v)) (within-or m (2 ^ v) h w (single-within v h t.0)) (omega arith) (omega arith) in
          record { mask = g.mask; over = within-trans m _ _ (within-or-l m (2 ^ v)) g.over; below = g.below; enough = g.enough; few = g.few }
    ]
