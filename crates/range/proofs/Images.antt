-- The slots of the sensors in a mask. Assumes nothing.
use Rattle.std.proofs.Common.{◌≡◌, ℕ, ◌^◌, ◌<◌, Bool, true, sym, ap, ◌∙◌, subst}
use Rattle.std.proofs.lemmas.Bool.{eqb-true, eq-eqb, and_parts, and_from}
use Rattle.masks.specs.Masks.{has}
use Rattle.masks.proofs.Masks.{has-single, within_has}
use Rattle.masks.proofs.Subsets.{single-has, within_all, within_both}
use Rattle.model.specs.Board.{Board}
use Rattle.model.specs.Layout.{Layout, set_of, slot_of}
use Rattle.model.specs.Tight.{below, union}
use Rattle.model.proofs.Lists.{any-mem, any_some, below-mem, mem_below, union-has}
use Rattle.range.specs.Ranges.{ranged, slots_of_all}

module _ (bd : Board) (y : Layout) where
  pub image-into : (m i : ℕ) → i < bd.sensors → has m i ≡ true → has (slots_of_all bd y m) (slot_of y i) ≡ true
  image-into m i l e =
      union-has (λ k. 2 ^ slot_of y k) (below (has m) bd.sensors) (slot_of y i)
      ∙ any-mem (λ k. has (2 ^ slot_of y k) (slot_of y i)) (below (has m) bd.sensors) i (mem_below (has m) bd.sensors i l e) (single-has (slot_of y i))

  pub image-onto : (m v : ℕ) → has (slots_of_all bd y m) v ≡ true → (i : ℕ) × (i < bd.sensors) × (has m i ≡ true) × (slot_of y i ≡ v)
  image-onto m v e =
      let w = any_some (λ k. has (2 ^ slot_of y k) v) (below (has m) bd.sensors) (sym (union-has (λ k. 2 ^ slot_of y k) (below (has m) bd.sensors) v) ∙ e) in
      let b = below-mem (has m) bd.sensors w.0 w.1 in
      (w.0, b.0, b.1, eqb-true _ v (sym (has-single (slot_of y w.0) v) ∙ w.2))

-- the rule's words, number by number
pub record Ranged (bd : Board) (g s t : ℕ) (y : Layout) : Type 0 where
  pub inner : (i : ℕ) → has (set_of y s) i ≡ true → has g i ≡ true
  pub into : (i : ℕ) → i < bd.sensors → has (set_of y s) i ≡ true → has (set_of y t) (slot_of y i) ≡ true
  pub onto : (v : ℕ) → has (set_of y t) v ≡ true → (i : ℕ) × (i < bd.sensors) × (has (set_of y s) i ≡ true) × (slot_of y i ≡ v)

pub ranged-says : (bd : Board) (g s t : ℕ) (y : Layout) → ranged bd g s t y ≡ true → Ranged bd g s t y
ranged-says bd g s t y e =
    let p = and_parts _ _ e in
    let q : set_of y t ≡ slots_of_all bd y (set_of y s) = eqb-true _ _ p.1 in
    record {
      inner = within_has (set_of y s) g p.0;
      into = λ i l h. ap (λ (m : ℕ). has m (slot_of y i)) q ∙ image-into bd y (set_of y s) i l h;
      onto = λ v h. image-onto bd y (set_of y s) v (sym (ap (λ (m : ℕ). has m v) q) ∙ h);
    }

pub ranged-from : (bd : Board) (g s t : ℕ) (y : Layout) → Ranged bd g s t y → ranged bd g s t y ≡ true
ranged-from bd g s t y r = and_from _ _ (within_all (set_of y s) g r.inner) (eq-eqb _ _ (within_both (set_of y t) (slots_of_all bd y (set_of y s))
    (within_all _ _ (λ v h. let w = r.onto v h in subst (λ (u : ℕ). has (slots_of_all bd y (set_of y s)) u ≡ true) w.3 (image-into bd y (set_of y s) w.0 w.1 w.2)))
    (within_all _ _ (λ v h. let w = image-onto bd y (set_of y s) v h in subst (λ (u : ℕ). has (set_of y t) u ≡ true) w.3 (r.into w.0 w.1 w.2)))))

-- the numbers below n that pass, as a mask
pub mask_of : (ℕ → Bool) → ℕ → ℕ
mask_of p n = union (λ i. 2 ^ i) (below p n)

pub mask-in : (p : ℕ → Bool) (n i : ℕ) → i < n → p i ≡ true → has (mask_of p n) i ≡ true
unfolding mask_of
mask-in p n i l e = union-has (λ k. 2 ^ k) (below p n) i ∙ any-mem (λ k. has (2 ^ k) i) (below p n) i (mem_below p n i l e) (single-has i)

pub mask-of : (p : ℕ → Bool) (n i : ℕ) → has (mask_of p n) i ≡ true → (i < n) × (p i ≡ true)
unfolding mask_of
mask-of p n i e =
    let w = any_some (λ k. has (2 ^ k) i) (below p n) (sym (union-has (λ k. 2 ^ k) (below p n) i) ∙ e) in
    let z : w.0 ≡ i = eqb-true _ i (sym (has-single w.0 i) ∙ w.2) in
    subst (λ (k : ℕ). (k < n) × (p k ≡ true)) z (below-mem p n w.0 w.1)
