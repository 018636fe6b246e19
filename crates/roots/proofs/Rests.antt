-- When an implication supports every choice of a live box, by masks. Assumes nothing.
use Rattle.std.proofs.Common.{◌≡◌, ℕ, ◌^◌, Bool, true, false, sym, ap, ◌∙◌, inl, inr}
use lib.Bits.{bit_or}
use lib.Count.{ones}
use Rattle.std.proofs.lemmas.Bool.{both_ways, cases_eq, cases_Bool, or_from, or_left, or_right, not_from_false}
use Rattle.masks.specs.Masks.{has, within}
use Rattle.masks.proofs.Counts.{another}
use Rattle.masks.proofs.Masks.{has-or}
use Rattle.masks.proofs.Subsets.{single-has, single-other, single-within, within-or, within-or-l, within-self}
use Rattle.model.specs.Box.{Box, cand, hi, lo}
use Rattle.model.proofs.Linked.{Linked, Trio}
use Rattle.roots.specs.Implications.{implied_by, implies}

-- a member besides v
besides : (c w v : ℕ) → has c w ≡ true → (ones c ≡ 1 → has c v ≡ true → ⊥) → (u : ℕ) × (has c u ≡ true) × (u ≡ v → ⊥)
besides c w v e n = elim (cases_eq w v) [
  | inl z ↦ elim (cases_eq (ones c) 1) [
    | inl o ↦ absurd (n o (ap (has c) (sym z) ∙ e))
    | inr o ↦ let f = another w c o e in (f.0, f.1, λ y. f.2 (y ∙ sym z))
  ]
  | inr z ↦ (w, e, z)
]

-- a sensor surely in s has its candidates in t, and surely in t where it has just one; one that may be in s has a candidate that may be in t
pub record Forward (r : Box) (i s t : ℕ) : Type 0 where
  pub sure : has (lo r s) i ≡ true → (w : ℕ) → has (cand r i) w ≡ true → has (hi r t) w ≡ true
  pub sole : has (lo r s) i ≡ true → ones (cand r i) ≡ 1 → (w : ℕ) → has (cand r i) w ≡ true → has (lo r t) w ≡ true
  pub maybe : has (lo r s) i ≡ false → has (hi r s) i ≡ true → (w : ℕ) × (has (cand r i) w ≡ true) × (has (hi r t) w ≡ true)

-- a sensor surely not in s has no candidate surely in t, and none that may be where it has just one; one that may not be in s has a candidate that may not be in t
pub record Backward (r : Box) (i s t : ℕ) : Type 0 where
  pub sure : has (hi r s) i ≡ false → (w : ℕ) → has (cand r i) w ≡ true → has (lo r t) w ≡ false
  pub sole : has (hi r s) i ≡ false → ones (cand r i) ≡ 1 → (w : ℕ) → has (cand r i) w ≡ true → has (hi r t) w ≡ false
  pub maybe : has (hi r s) i ≡ true → has (lo r s) i ≡ false → (w : ℕ) × (has (cand r i) w ≡ true) × (has (lo r t) w ≡ false)

module _ (r : Box) (i s t w₀ : ℕ) (cand₀ : has (cand r i) w₀ ≡ true) (vs : within (lo r s) (hi r s) ≡ true) (vt : within (lo r t) (hi r t) ≡ true) where
  -- a bound of each set
  module _ (ok : ℕ → ℕ → ℕ → Bool) (w : ℕ) (e : has (cand r i) w ≡ true) where
    low-low : ok w (lo r s) (lo r t) ≡ true → Trio ok r i s t w (lo r s) (lo r t)
    low-low h = record { pick = e; over_s = within-self (lo r s); under_s = vs; over_t = within-self (lo r t); under_t = vt; holds = h }

    low-high : ok w (lo r s) (hi r t) ≡ true → Trio ok r i s t w (lo r s) (hi r t)
    low-high h = record { pick = e; over_s = within-self (lo r s); under_s = vs; over_t = vt; under_t = within-self (hi r t); holds = h }

    high-low : ok w (hi r s) (lo r t) ≡ true → Trio ok r i s t w (hi r s) (lo r t)
    high-low h = record { pick = e; over_s = vs; under_s = within-self (hi r s); over_t = within-self (lo r t); under_t = vt; holds = h }

    high-high : ok w (hi r s) (hi r t) ≡ true → Trio ok r i s t w (hi r s) (hi r t)
    high-high h = record { pick = e; over_s = vs; under_s = within-self (hi r s); over_t = vt; under_t = within-self (hi r t); holds = h }

    -- one number more than the lower bound of t
    more : (u : ℕ) → has (hi r t) u ≡ true → ok w (lo r s) (bit_or (lo r t) (2 ^ u)) ≡ true → Trio ok r i s t w (lo r s) (bit_or (lo r t) (2 ^ u))
    more u q h = record {
      pick = e;
      over_s = within-self (lo r s);
      under_s = vs;
      over_t = within-or-l (lo r t) (2 ^ u);
      under_t = within-or (lo r t) (2 ^ u) (hi r t) vt (single-within u (hi r t) q);
      holds = h;
    }

  more-has : (u : ℕ) → has (bit_or (lo r t) (2 ^ u)) u ≡ true
  more-has u = has-or (lo r t) (2 ^ u) u ∙ or_right _ _ (single-has u)

  more-not : (u v : ℕ) → (u ≡ v → ⊥) → has (lo r t) v ≡ false → has (bit_or (lo r t) (2 ^ u)) v ≡ false
  more-not u v ne q = has-or (lo r t) (2 ^ u) v ∙ or_from _ _ q (single-other u v ne)

  -- ---- in s implies slot in t

  forward-sure : Forward r i s t → has (lo r s) i ≡ true → Linked (implies i) r i s t
  forward-sure f a = record {
    slot = λ w e. (lo r s, hi r t, low-high (implies i) w e (or_right _ _ (f.sure a w e)));
    top_s = λ v h. (w₀, hi r s, hi r t, high-high (implies i) w₀ cand₀ (or_right _ _ (f.sure a w₀ cand₀)), h);
    low_s = λ v h. (w₀, lo r s, hi r t, low-high (implies i) w₀ cand₀ (or_right _ _ (f.sure a w₀ cand₀)), h);
    top_t = λ v h. (w₀, lo r s, hi r t, low-high (implies i) w₀ cand₀ (or_right _ _ (f.sure a w₀ cand₀)), h);
    low_t = λ v h.
        let u = besides (cand r i) w₀ v cand₀ (λ o e. both_ways _ h (f.sole a o v e)) in
        (u.0, lo r s, bit_or (lo r t) (2 ^ u.0), more (implies i) u.0 u.1 u.0 (f.sure a u.0 u.1) (or_right _ _ (more-has u.0)), more-not u.0 v u.2 h);
  }

  forward-open : Forward r i s t → has (lo r s) i ≡ false → Linked (implies i) r i s t
  forward-open f a = record {
    slot = λ w e. (lo r s, lo r t, low-low (implies i) w e (or_left _ _ (not_from_false _ a)));
    top_s = λ v h. elim (cases_Bool (has (hi r s) i)) [
      | inl b ↦ let u = f.maybe a b in (u.0, hi r s, hi r t, high-high (implies i) u.0 u.1 (or_right _ _ u.2), h)
      | inr b ↦ (w₀, hi r s, lo r t, high-low (implies i) w₀ cand₀ (or_left _ _ (not_from_false _ b)), h)
    ];
    low_s = λ v h. (w₀, lo r s, lo r t, low-low (implies i) w₀ cand₀ (or_left _ _ (not_from_false _ a)), h);
    top_t = λ v h. (w₀, lo r s, hi r t, low-high (implies i) w₀ cand₀ (or_left _ _ (not_from_false _ a)), h);
    low_t = λ v h. (w₀, lo r s, lo r t, low-low (implies i) w₀ cand₀ (or_left _ _ (not_from_false _ a)), h);
  }

  pub forward-linked : Forward r i s t → Linked (implies i) r i s t
  forward-linked f = elim (cases_Bool (has (lo r s) i)) [ inl a ↦ forward-sure f a | inr a ↦ forward-open f a ]

  -- ---- slot in t implies in s

  backward-sure : Backward r i s t → has (hi r s) i ≡ false → Linked (implied_by i) r i s t
  backward-sure f a =
      let off : (w : ℕ) → has (cand r i) w ≡ true → (p : ℕ) → implied_by i w p (lo r t) ≡ true = λ w e p. or_left _ _ (not_from_false _ (f.sure a w e)) in
      record {
        slot = λ w e. (lo r s, lo r t, low-low (implied_by i) w e (off w e (lo r s)));
        top_s = λ v h. (w₀, hi r s, lo r t, high-low (implied_by i) w₀ cand₀ (off w₀ cand₀ (hi r s)), h);
        low_s = λ v h. (w₀, lo r s, lo r t, low-low (implied_by i) w₀ cand₀ (off w₀ cand₀ (lo r s)), h);
        top_t = λ v h.
            let u = besides (cand r i) w₀ v cand₀ (λ o e. both_ways _ (f.sole a o v e) h) in
            (u.0, lo r s, bit_or (lo r t) (2 ^ v), more (implied_by i) u.0 u.1 v h (or_left _ _ (not_from_false _ (more-not v u.0 (λ y. u.2 (sym y)) (f.sure a u.0 u.1)))), more-has v);
        low_t = λ v h. (w₀, lo r s, lo r t, low-low (implied_by i) w₀ cand₀ (off w₀ cand₀ (lo r s)), h);
      }

  backward-open : Backward r i s t → has (hi r s) i ≡ true → Linked (implied_by i) r i s t
  backward-open f a = record {
    slot = λ w e. (hi r s, lo r t, high-low (implied_by i) w e (or_right _ _ a));
    top_s = λ v h. (w₀, hi r s, lo r t, high-low (implied_by i) w₀ cand₀ (or_right _ _ a), h);
    low_s = λ v h. elim (cases_Bool (has (lo r s) i)) [
      | inl b ↦ (w₀, lo r s, lo r t, low-low (implied_by i) w₀ cand₀ (or_right _ _ b), h)
      | inr b ↦ let u = f.maybe a b in (u.0, lo r s, lo r t, low-low (implied_by i) u.0 u.1 (or_left _ _ (not_from_false _ u.2)), h)
    ];
    top_t = λ v h. (w₀, hi r s, hi r t, high-high (implied_by i) w₀ cand₀ (or_right _ _ a), h);
    low_t = λ v h. (w₀, hi r s, lo r t, high-low (implied_by i) w₀ cand₀ (or_right _ _ a), h);
  }

  pub backward-linked : Backward r i s t → Linked (implied_by i) r i s t
  backward-linked f = elim (cases_Bool (has (hi r s) i)) [ inl a ↦ backward-open f a | inr a ↦ backward-sure f a ]
