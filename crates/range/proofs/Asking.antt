-- Whether a support gives a sensor a slot. Assumes nothing.
use Rattle.std.proofs.Common.{◌≡◌, ℕ, ◌<◌, Bool, true, false, List, get_or, sym, ap, ◌∙◌, subst, inl, inr}
use lib.Bits.{bit_and}
use Rattle.std.proofs.lemmas.Bool.{both_ways, ltb-true, eqb-true, and_parts, cases_Bool}
use Rattle.masks.specs.Masks.{has, within}
use Rattle.masks.proofs.Masks.{has-and, has-zero}
use Rattle.model.specs.Board.{Board}
use Rattle.model.specs.Box.{Box, Kept, cand, dead, hi, lo, slotted, uses}
use Rattle.model.specs.Layout.{slot_of}
use Rattle.model.specs.Tight.{Supported}
use Rattle.model.proofs.Boxes.{index_below}
use Rattle.board.proofs.Shapes.{zeros}
use Rattle.covering.specs.Covering.{candidate}
use Rattle.range.specs.Judged.{Looked}
use Rattle.range.specs.Ranges.{ranged}
use Rattle.range.specs.Survey.{Able}
use Rattle.range.proofs.Fitting.{Fit}
use Rattle.range.proofs.Images.{Ranged, ranged-says}
use Rattle.range.proofs.Supports.{loose-keeps, tied-keeps}
use Rattle.range.proofs.Witnesses.{loose-slot, tied-slot}

module _ (bd : Board) (some : 0 < bd.sensors) (g s t : ℕ) (fit : Fit bd g s t) (x : Box)
    (cands : List ℕ) (same : (i : ℕ) → get_or cands i 0 ≡ cand x i)
    (able : ℕ) (far : Able cands (bit_and (hi x s) g) (hi x t) 0 able) where
  -- what is kept was a candidate
  looked-own : (i v own slots : ℕ) (b : Bool) → Looked (candidate cands) able (lo x t) (lo x s) (hi x t) own slots i b → has slots v ≡ true → has own v ≡ true
  looked-own i v own slots true h e = (and_parts _ _ (sym (has-and own h.group v) ∙ ap (λ (m : ℕ). has m v) (sym h.cut) ∙ e)).0
  looked-own i v own slots false h e = elim (cases_Bool (has (lo x s) i)) [
    | inl q ↦ (and_parts _ _ (sym (has-and own (hi x t) v) ∙ ap (λ (m : ℕ). has m v) (sym (h.inner q)) ∙ e)).0
    | inr q ↦ ap (λ (m : ℕ). has m v) (sym (h.outer q)) ∙ e
  ]

  dead-none : x ≡ dead bd → (i v : ℕ) → has (cand x i) v ≡ true → ⊥
  unfolding dead
  dead-none d i v e = both_ways _ (ap (λ (m : ℕ). has m v) (ap (λ (b : Box). cand b i) d ∙ zeros bd.sensors i) ∙ has-zero v) e

  pub slot-used : Kept bd x → within (lo x s) able ≡ true → (i v slots : ℕ) (b : Bool) → Looked (candidate cands) able (lo x t) (lo x s) (hi x t) (cand x i) slots i b
      → has slots v ≡ true → Supported bd (ranged bd g s t) x (slotted i v)
  slot-used (inl d) suits i v slots b h e = absurd (dead-none d i v (looked-own i v (cand x i) slots b h e))
  slot-used (inr l) suits i v slots b h e =
      go b (subst (λ (u : ℕ). Looked (candidate cands) able (lo x t) (lo x s) (hi x t) u slots i b) (sym (same i)) h)
    where
      on : i < bd.sensors
      on = index_below bd some x.cands bd.sensors i v l.cands_many (looked-own i v (cand x i) slots b h e)

      go : (b : Bool) → Looked (candidate cands) able (lo x t) (lo x s) (hi x t) (get_or cands i 0) slots i b → Supported bd (ranged bd g s t) x (slotted i v)
      go true f = tied-slot bd some g s t fit x l cands same able far suits i v slots on f e
      go false f = loose-slot bd some g s t fit x l cands same able far suits i v slots on f e

  pub slot-found : (i v slots : ℕ) (b : Bool) → Looked (candidate cands) able (lo x t) (lo x s) (hi x t) (cand x i) slots i b
      → Supported bd (ranged bd g s t) x (slotted i v) → has slots v ≡ true
  unfolding uses
  slot-found i v slots b h u =
      let p = and_parts _ _ u.4 in
      ap (has slots) (sym (eqb-true _ v p.1)) ∙ go b (ltb-true i bd.sensors p.0) (ranged-says bd g s t u.0 u.3)
      (subst (λ (m : ℕ). Looked (candidate cands) able (lo x t) (lo x s) (hi x t) m slots i b) (sym (same i)) h)
    where
      go : (b : Bool) → i < bd.sensors → Ranged bd g s t u.0 → Looked (candidate cands) able (lo x t) (lo x s) (hi x t) (get_or cands i 0) slots i b → has slots (slot_of u.0 i) ≡ true
      go true l r f = tied-keeps bd g s t fit x cands same able far u.0 u.1 u.2 r i slots l f
      go false l r f = loose-keeps bd g s t fit x cands same able far u.0 u.1 u.2 r i slots l f
