-- What every support of Range obeys. Assumes nothing.
use Rattle.std.proofs.Common.{◌≡◌, ℕ, ◌<◌, true, List, get_or, sym, ap, ◌∙◌, subst, inl, inr}
use lib.Bits.{bit_and, bit_or}
use Rattle.std.proofs.lemmas.Bool.{both_ways, eqb-true, and_parts, cases_Bool, and_from, or_left, or_right}
use Rattle.masks.specs.Masks.{has, within}
use Rattle.masks.proofs.Counts.{one_has}
use Rattle.masks.proofs.Masks.{has-and, has-below, has-or, has-single, has-zero, within_has}
use Rattle.masks.proofs.Subsets.{nonzero, within_all}
use Rattle.model.specs.Board.{Board}
use Rattle.model.specs.Box.{Box, In, cand, hi, lo}
use Rattle.model.specs.Layout.{Layout, On, set_of, slot_of}
use Rattle.covering.specs.Covering.{Needed, Short, candidate}
use Rattle.covering.proofs.Shorts.{short-shut, short-used}
use Rattle.range.specs.Entered.{Obedient}
use Rattle.range.specs.Judged.{Judged, Loose, Tied}
use Rattle.range.specs.Survey.{Able, Sure, common}
use Rattle.range.proofs.Fitting.{Fit}
use Rattle.range.proofs.Images.{Ranged}

module _ (bd : Board) (g s t : ℕ) (fit : Fit bd g s t) (x : Box) (cands : List ℕ) (same : (i : ℕ) → get_or cands i 0 ≡ cand x i)
    (able : ℕ) (far : Able cands (bit_and (hi x s) g) (hi x t) 0 able) where
  pub able-low : (i : ℕ) → has able i ≡ true → i < bd.sensors
  able-low i e = has-below bd.sensors g i fit.sensors_on (and_parts _ _ (sym (has-and (hi x s) g i) ∙ (far.only i e).0)).1

  module _ (y : Layout) (o : On bd y) (n : In bd y x) (r : Ranged bd g s t y) where
    s_low : (i : ℕ) → has (set_of y s) i ≡ true → i < bd.sensors
    s_low i e = has-below bd.sensors g i fit.sensors_on (r.inner i e)

    slot-cand : (i : ℕ) → i < bd.sensors → has (get_or cands i 0) (slot_of y i) ≡ true
    slot-cand i l = ap (λ (m : ℕ). has m (slot_of y i)) (same i) ∙ n.slots_in i l

    slot-common : (i : ℕ) → has (set_of y s) i ≡ true → has (common cands (hi x t) i) (slot_of y i) ≡ true
    slot-common i e =
        let l = s_low i e in
        has-and (get_or cands i 0) (hi x t) (slot_of y i)
        ∙ and_from _ _ (slot-cand i l) (within_has (set_of y t) (hi x t) (n.under t fit.t_there) (slot_of y i) (r.into i l e))

    s-able : (i : ℕ) → has (set_of y s) i ≡ true → has able i ≡ true
    s-able i e = far.all i
        (has-and (hi x s) g i ∙ and_from _ _ (within_has (set_of y s) (hi x s) (n.under s fit.s_there) i e) (r.inner i e))
        (has-zero i) (nonzero _ (slot_of y i) (slot-common i e))

    lo-s : (i : ℕ) → has (lo x s) i ≡ true → has (set_of y s) i ≡ true
    lo-s = within_has (lo x s) (set_of y s) (n.over s fit.s_there)

    pub lower-able : within (lo x s) able ≡ true
    lower-able = within_all (lo x s) able (λ i e. s-able i (lo-s i e))

    -- the sensors in S, each with its slot
    abbrev Sits : ℕ → ℕ → Type 0
    Sits v i = (slot_of y i ≡ v) × (has (set_of y s) i ≡ true)

    sits-one : (v u i : ℕ) → Sits v i → Sits u i → v ≡ u
    sits-one v u i p q = sym p.0 ∙ q.0

    holder : (v : ℕ) → has (lo x t) v ≡ true → (i : ℕ) × (has able i ≡ true) × (candidate cands i v ≡ true) × Sits v i
    holder v e =
        let w = r.onto v (within_has (lo x t) (set_of y t) (n.over t fit.t_there) v e) in
        (w.0, s-able w.0 w.2, subst (λ (u : ℕ). has (get_or cands w.0 0) u ≡ true) w.3 (slot-cand w.0 w.1), (w.3, w.2))

    pub no_short : (z : ℕ) → Short (candidate cands) able (lo x t) z → ⊥
    no_short z sh = short-shut sh Sits sits-one (λ v e. holder v (sh.inside v e))

    needed-used : (i z : ℕ) → Needed (candidate cands) able (lo x t) i z → (has z (slot_of y i) ≡ true) × (has (set_of y s) i ≡ true)
    needed-used i z need =
        let shut : ((v : ℕ) → has z v ≡ true → Sits v i → ⊥) → ⊥ = λ none. short-used able i need.short Sits sits-one (λ v e. holder v (need.short.inside v e)) none in (
          elim (cases_Bool (has z (slot_of y i))) [
            | inl a ↦ a
            | inr f ↦ absurd (shut (λ v e q. both_ways _ f (subst (λ (u : ℕ). has z u ≡ true) (sym q.0) e)))
          ],
          elim (cases_Bool (has (set_of y s) i)) [
            | inl a ↦ a
            | inr f ↦ absurd (shut (λ v e q. both_ways _ f q.1))
          ],
        )

    -- the slot of a sensor is among those that it keeps

    pub loose-keeps : (i slots : ℕ) → i < bd.sensors → Loose (candidate cands) able (lo x t) (lo x s) (hi x t) (get_or cands i 0) slots i → has slots (slot_of y i) ≡ true
    loose-keeps i slots h f = elim (cases_Bool (has (lo x s) i)) [
      | inl a ↦ ap (λ (m : ℕ). has m (slot_of y i)) (f.inner a) ∙ slot-common i (lo-s i a)
      | inr a ↦ ap (λ (m : ℕ). has m (slot_of y i)) (f.outer a) ∙ slot-cand i h
    ]

    pub tied-keeps : (i slots : ℕ) → i < bd.sensors → Tied (candidate cands) able (lo x t) (get_or cands i 0) slots i → has slots (slot_of y i) ≡ true
    tied-keeps i slots h f =
        ap (λ (m : ℕ). has m (slot_of y i)) f.cut ∙ has-and (get_or cands i 0) f.group (slot_of y i)
        ∙ and_from _ _ (slot-cand i h) (needed-used i f.group f.needed).0

    module _ (keep : List ℕ) (bound near sure : ℕ) (judged : Judged cands able (lo x t) (lo x s) (hi x t) 0 keep bound near)
        (single : Sure cands (lo x s) (hi x t) 0 sure) where
      keeps-slot : (i : ℕ) → has able i ≡ true → has (get_or keep i 0) (slot_of y i) ≡ true
      keeps-slot i e = elim (judged.each i e (has-zero i)) [
        | inl f ↦ loose-keeps i (get_or keep i 0) (able-low i e) f.loose
        | inr f ↦ tied-keeps i (get_or keep i 0) (able-low i e) f.tied
      ]

      t-wide : (v : ℕ) → has (set_of y t) v ≡ true → has (bit_or (lo x t) near) v ≡ true
      t-wide v e =
          let w = r.onto v e in
          let i = w.0 in
          has-or (lo x t) near v ∙ elim (judged.each i (s-able i w.2) (has-zero i)) [
            | inl f ↦ or_right _ _ (f.offers v (subst (λ (u : ℕ). has (common cands (hi x t) i) u ≡ true) w.3 (slot-common i w.2)))
            | inr h ↦ or_left _ _ (h.tied.needed.short.inside v (subst (λ (u : ℕ). has h.tied.group u ≡ true) w.3 (needed-used i h.tied.group h.tied.needed).0))
          ]

      t-sure : (v : ℕ) → has sure v ≡ true → has (set_of y t) v ≡ true
      t-sure v e =
          let w = single.only v e in
          let i = w.0 in
          let z : v ≡ slot_of y i = eqb-true v _ (sym (has-single v (slot_of y i)) ∙ ap (λ (m : ℕ). has m (slot_of y i)) (sym (one_has _ v w.2 w.3)) ∙ slot-common i (lo-s i w.1)) in
          ap (has (set_of y t)) z ∙ r.into i (s_low i (lo-s i w.1)) (lo-s i w.1)

      pub obedient : Obedient s t able keep bound (bit_or (lo x t) near) sure y
      obedient = record {
        slots = keeps-slot;
        s_high = within_all (set_of y s) able s-able;
        s_low = within_all bound (set_of y s) (λ i e. let w = judged.bound_from i e in (needed-used i w.0 w.1).1);
        t_high = within_all (set_of y t) (bit_or (lo x t) near) t-wide;
        t_low = within_all sure (set_of y t) t-sure;
      }
