-- Layouts with other members of the helper sets, and what the parts then say. Assumes nothing.
use Rattle.std.proofs.Common.{◌≡◌, ℕ, ◌^◌, ◌<◌, ◌≤◌, min, true, false, List, [], ◌∷◌, ◌++◌, sym, ap, ◌∙◌, subst, inl, inr, arith, length-set, get_or-set_other, get_or-set_same}
use lib.Pow.{pow-lt}
use Rattle.std.proofs.lemmas.Bool.{both_ways, leb-false, eqb-true, eq-eqb, and_parts, cases_eq, cases_Bool, and_from, and_right, not_from_true, not_from_false}
use Rattle.masks.specs.Masks.{has, numbers, within}
use Rattle.masks.proofs.Masks.{has-below, has-full, has-without}
use Rattle.masks.proofs.Subsets.{apart_from, apart-has, small, within_all, within_both, within-self}
use Rattle.model.specs.Board.{Board, room}
use Rattle.model.specs.Calls.{Call}
use Rattle.model.specs.Entries.{keeps}
use Rattle.model.specs.Layout.{Layout, On, set_of, slot_of}
use Rattle.model.specs.Tight.{below}
use Rattle.model.proofs.Lists.{below-mem, union-below}
use Rattle.range.specs.Ranges.{slots_of_all}
use Rattle.named.specs.Meanings.{KeepsCalls, chosen}
use Rattle.named.specs.Parts.{is_calls, others, range_calls}
use Rattle.named.proofs.Accepted.{Helpers, s-room, t-room}
use Rattle.kinds.specs.declared.SheetRule.{SheetRule}

module _ (bd : Board) (x : Layout) (on : On bd x) (j a : ℕ) (l : j < bd.sets) where
  pub chosen_at : set_of (chosen x j a) j ≡ a
  chosen_at = get_or-set_same x.members j a 0 (omega (arith, on.sets_many))

  pub chosen-other : (k : ℕ) → (j ≡ k → ⊥) → set_of (chosen x j a) k ≡ set_of x k
  chosen-other k ne = get_or-set_other x.members j k a 0 (λ e. ne (sym e))

  pub chosen_on : a < 2 ^ room bd j → On bd (chosen x j a)
  chosen_on f = record {
    slots_many = on.slots_many;
    sets_many = length-set x.members j a ∙ on.sets_many;
    slots_on = on.slots_on;
    sets_on = λ k h. elim (cases_eq j k) [
      | inl e ↦ subst (λ (i : ℕ). set_of (chosen x j a) i < 2 ^ room bd i) e (subst (λ (b : ℕ). b < 2 ^ room bd j) (sym chosen_at) f)
      | inr ne ↦ subst (λ (b : ℕ). b < 2 ^ room bd k) (sym (chosen-other k ne)) (on.sets_on k h)
    ];
  }

-- a sensor set and a slot set are two sets
pub kinds-apart : {bd : Board} {s t u w : ℕ} → Helpers bd s t → Helpers bd u w → s ≡ w → ⊥
kinds-apart {bd} a b e = both_ways _ a.of_sensors (ap (has bd.kinds) e ∙ b.of_slots)

-- both helper sets chosen
module _ (bd : Board) (x : Layout) (on : On bd x) (s t a b : ℕ) (h : Helpers bd s t) where
  s-in : s < bd.sets
  s-in = leb-false _ s h.s_there

  t-in : t < bd.sets
  t-in = leb-false _ t h.t_there

  first_on : a < 2 ^ bd.sensors → On bd (chosen x s a)
  first_on f = chosen_on bd x on s a s-in (subst (λ (n : ℕ). a < 2 ^ n) (sym (s-room h)) f)

  pub pair-on : a < 2 ^ bd.sensors → b < 2 ^ bd.slots → On bd (chosen (chosen x s a) t b)
  pair-on f e = chosen_on bd (chosen x s a) (first_on f) t b t-in (subst (λ (n : ℕ). b < 2 ^ n) (sym (t-room h)) e)

  pub pair-s : a < 2 ^ bd.sensors → set_of (chosen (chosen x s a) t b) s ≡ a
  pair-s f = chosen-other bd (chosen x s a) (first_on f) t b t-in s (λ e. kinds-apart h h (sym e)) ∙ chosen_at bd x on s a s-in

  pub pair-t : a < 2 ^ bd.sensors → set_of (chosen (chosen x s a) t b) t ≡ b
  pair-t f = chosen_at bd (chosen x s a) (first_on f) t b t-in

  pub pair-other : a < 2 ^ bd.sensors → (k : ℕ) → (s ≡ k → ⊥) → (t ≡ k → ⊥) → set_of (chosen (chosen x s a) t b) k ≡ set_of x k
  pair-other f k p q = chosen-other bd (chosen x s a) (first_on f) t b t-in k q ∙ chosen-other bd x on s a s-in k p

-- ---- "the set is the mask"

others-has : (bd : Board) (j mask i : ℕ) → room bd j ≤ 64 → i < room bd j → has mask i ≡ false → has (others bd j mask) i ≡ true
others-has bd j mask i small l f = has-without (numbers (room bd j)) mask i ∙ and_from _ _ (has-full (min (room bd j) 64) i (omega arith)) (not_from_false _ f)

module _ (bd : Board) (y : Layout) (j mask : ℕ) where
  pub is-kept : On bd y → j < bd.sets → room bd j ≤ 64 → KeepsCalls bd y (is_calls bd j mask) → set_of y j ≡ mask
  unfolding keeps
  is-kept on l small k = within_both (set_of y j) mask
      (within_all (set_of y j) mask (λ i e. elim (cases_Bool (has mask i)) [
        | inl t ↦ t
        | inr f ↦ absurd (both_ways _ (apart-has (set_of y j) (others bd j mask) i k.1.0 e) (others-has bd j mask i small (has-below (room bd j) (set_of y j) i (on.sets_on j l) e) f))
      ]))
      k.0

  pub is-keeps : set_of y j ≡ mask → KeepsCalls bd y (is_calls bd j mask)
  unfolding keeps
  is-keeps e =
      let claimed : within mask (set_of y j) ≡ true = subst (λ (m : ℕ). within mask m ≡ true) (sym e) (within-self mask) in
      let barred = apart_from (set_of y j) (others bd j mask) (λ i h. has-without (numbers (room bd j)) mask i ∙ and_right _ _ (not_from_true _ (sym (ap (λ (m : ℕ). has m i) e) ∙ h))) in
      (claimed, (barred, tt))

-- ---- S is G, and T is the slots of S

module _ (bd : Board) (y : Layout) (g s t : ℕ) where
  pub range-kept : On bd y → Helpers bd s t → bd.sensors ≤ 64 → KeepsCalls bd y (range_calls bd g s t) → set_of y t ≡ slots_of_all bd y g
  range-kept on h small k =
      let e = is-kept bd y s g on (leb-false _ s h.s_there) (subst (λ (n : ℕ). n ≤ 64) (sym (s-room h)) small) (k.0, (k.1.0, tt)) in
      eqb-true _ _ (and_parts _ _ k.1.1.0).1 ∙ ap (slots_of_all bd y) e

  pub range-keeps : set_of y s ≡ g → set_of y t ≡ slots_of_all bd y g → KeepsCalls bd y (range_calls bd g s t)
  range-keeps e f =
      let i = is-keeps bd y s g e in
      let inner : within (set_of y s) g ≡ true = subst (λ (m : ℕ). within m g ≡ true) (sym e) (within-self g) in
      (i.0, (i.1.0, (and_from _ _ inner (eq-eqb _ _ (f ∙ ap (slots_of_all bd y) (sym e))), tt)))

pub keeps-join : (bd : Board) (y : Layout) (xs ys : List (Call SheetRule)) → KeepsCalls bd y xs → KeepsCalls bd y ys → KeepsCalls bd y (xs ++ ys)
keeps-join bd y [] ys h k = k
keeps-join bd y (x ∷ xs) ys h k = (h.0, keeps-join bd y xs ys h.1 k)

pub keeps-left : (bd : Board) (y : Layout) (xs ys : List (Call SheetRule)) → KeepsCalls bd y (xs ++ ys) → KeepsCalls bd y xs
keeps-left bd y [] ys h = tt
keeps-left bd y (x ∷ xs) ys h = (h.0, keeps-left bd y xs ys h.1)

pub keeps-right : (bd : Board) (y : Layout) (xs ys : List (Call SheetRule)) → KeepsCalls bd y (xs ++ ys) → KeepsCalls bd y ys
keeps-right bd y [] ys h = h
keeps-right bd y (x ∷ xs) ys h = keeps-right bd y xs ys h.1

-- the slots of some sensors lie on the board
pub image-on : (bd : Board) (x : Layout) (g : ℕ) → On bd x → slots_of_all bd x g < 2 ^ bd.slots
image-on bd x g on = union-below (λ (i : ℕ). 2 ^ slot_of x i) bd.slots (below (has g) bd.sensors) (λ i m. pow-lt (on.slots_on i (below-mem (has g) bd.sensors i m).0))
