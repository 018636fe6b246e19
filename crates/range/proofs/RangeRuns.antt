-- The run of Range is its tight box. Assumes nothing.
use Rattle.std.proofs.Common.{◌≡◌, ℕ, ◌<◌, Bool, true, false, List, get_or, sym, refl, ap, ◌∙◌, subst, inl, inr, arith}
use lib.Bits.{bit_and, bit_or}
use Rattle.std.proofs.lemmas.Bool.{both_ways, not-true, ltb-true, eqb-false, and_parts, cases_eq, cases_Bool, or_cases}
use Rattle.masks.specs.Masks.{has, within}
use Rattle.masks.proofs.Counts.{another, first, first-has}
use Rattle.masks.proofs.Masks.{has-or, has-zero, within_has}
use Rattle.masks.proofs.Subsets.{small, within-le}
use Rattle.model.specs.Board.{Board, room}
use Rattle.model.specs.Box.{Box, Choice, In, Kept, Live, Narrower, cand, hi, lo, offers, omitted, slotted, taken}
use Rattle.model.specs.Entries.{limit, narrow}
use Rattle.model.specs.Layout.{Layout, On}
use Rattle.model.specs.Tight.{Supported, tight}
use Rattle.model.proofs.Boxes.{choice-live, dead-choice, index_below, live-true, mem-lay, space}
use Rattle.model.proofs.Entries.{entry-narrows}
use Rattle.model.proofs.Narrowing.{tight-is}
use Rattle.range.specs.Entered.{Entered}
use Rattle.range.specs.Judged.{Judged}
use Rattle.range.specs.Ranges.{ranged}
use Rattle.range.specs.Survey.{Able, Sure, common}
use Rattle.range.proofs.Entering.{limit-leaves, live-narrower, wider}
use Rattle.range.proofs.Fitting.{Fit}
use Rattle.range.proofs.Images.{Ranged, ranged-says}
use Rattle.range.proofs.Supports.{obedient}
use Rattle.range.proofs.Witnesses.{loose-slot, near-in, rest_in, rest_out, s-in, s-out, s-unable, t-in, t-out, tied-slot}

module _ (bd : Board) (some : 0 < bd.sensors) (g s t : ℕ) (fit : Fit bd g s t) (x : Box)
    (cands : List ℕ) (same : (i : ℕ) → get_or cands i 0 ≡ cand x i)
    (able : ℕ) (far : Able cands (bit_and (hi x s) g) (hi x t) 0 able) where
  abbrev holds : Layout → Bool
  holds = ranged bd g s t

  -- ---- where there is no support

  pub killed : (r : Box) → Kept bd x → r ≡ narrow bd (limit 0 0) x → ((y : Layout) → On bd y → In bd y x → Ranged bd g s t y → ⊥) → r ≡ tight bd holds x
  killed r k q none =
      let kr : Kept bd r = subst (Kept bd) (sym q) ((entry-narrows bd some (limit 0 0)).kept x k) in
      tight-is bd some holds x r k kr
      (λ c e. elim kr [
        | inl d ↦ absurd (both_ways _ (dead-choice bd some r d c) e)
        | inr v ↦ absurd (eqb-false _ 0 (v.some 0 some) (omega (arith, within-le (cand r 0) 0 (limit-leaves bd some 0 0 x r some k q v))))
      ])
      (λ c u. absurd (none u.0 u.1 u.2 (ranged-says bd g s t u.0 u.3)))

  -- ---- where the sensors of lo S are able, and there is a covering

  module _ (yes : within (lo x s) able ≡ true) (keep : List ℕ) (bound near sure : ℕ)
      (judged : Judged cands able (lo x t) (lo x s) (hi x t) 0 keep bound near) (single : Sure cands (lo x s) (hi x t) 0 sure)
      (k : Kept bd x) (r : Box) (kr : Kept bd r) (done : Entered bd s t able keep bound (bit_or (lo x t) near) sure x r) where
    module _ (lr : Live bd r) where
      l : Live bd x
      l = wider bd some x r k lr done.step.inside

      inside : Narrower bd r x
      inside = live-narrower bd some x r lr done.step.inside

      -- ---- a slot for a sensor

      slot-stays : (i v : ℕ) → has (cand r i) v ≡ true → Supported bd holds x (slotted i v)
      slot-stays i v e =
          let h = index_below bd some r.cands bd.sensors i v lr.cands_many e in
          elim (cases_Bool (has able i)) [
            | inr f ↦ loose-slot bd some g s t fit x l cands same able far yes i v (get_or cands i 0) h
                (record {
                  spared = record {
                    on = judged.on;
                    covers = judged.covers;
                    unused = λ u q z. both_ways _ f (subst (λ (j : ℕ). has able j ≡ true) z (judged.covers.among u q));
                  };
                  inner = λ q. absurd (both_ways _ f (within_has (lo x s) able yes i q));
                  outer = λ _. refl;
                })
                (ap (λ (m : ℕ). has m v) (same i) ∙ within_has (cand r i) (cand x i) (inside.fewer i h) v e)
            | inl a ↦
                let kept : has (get_or keep i 0) v ≡ true = within_has (cand r i) (get_or keep i 0) (done.slots lr i h a) v e in
                elim (judged.each i a (has-zero i)) [
                  | inl f ↦ loose-slot bd some g s t fit x l cands same able far yes i v (get_or keep i 0) h f.loose kept
                  | inr f ↦ tied-slot bd some g s t fit x l cands same able far yes i v (get_or keep i 0) h f.tied kept
                ]
          ]

      -- ---- a number taken into a set

      t-stays : (v : ℕ) → has (hi r t) v ≡ true → Supported bd holds x (taken t v)
      t-stays v e = elim (or_cases _ _ (sym (has-or (lo x t) near v) ∙ within_has (hi r t) (bit_or (lo x t) near) (done.t_high fit.t_there lr) v e)) [
        | inl a ↦ t-in bd some g s t fit x l cands same able far yes judged.on judged.covers v a
        | inr a ↦ (let w = judged.near_from v a in near-in bd some g s t fit x l cands same able far yes w.0 v w.1 w.2 w.3)
      ]

      taken-stays : (j v : ℕ) → has (hi r j) v ≡ true → Supported bd holds x (taken j v)
      taken-stays j v e =
          let h = index_below bd some r.highs bd.sets j v lr.highs_many e in
          elim (cases_eq j s) [
            | inl z ↦ subst (λ (q : ℕ). Supported bd holds x (taken q v)) (sym z)
                (s-in bd some g s t fit x l cands same able far yes judged.on judged.covers v
                (within_has (hi r s) able (done.s_high fit.s_there lr) v (subst (λ (q : ℕ). has (hi r q) v ≡ true) z e)))
            | inr ns ↦ elim (cases_eq j t) [
              | inl z ↦ subst (λ (q : ℕ). Supported bd holds x (taken q v)) (sym z) (t-stays v (subst (λ (q : ℕ). has (hi r q) v ≡ true) z e))
              | inr nt ↦ rest_in bd some g s t fit x l cands same able far yes judged.on judged.covers j v h ns nt (within_has (hi r j) (hi x j) (inside.lower j h) v e)
            ]
          ]

      -- ---- a number left out of a set

      gone : (a b v : ℕ) → within a b ≡ true → has b v ≡ false → has a v ≡ false
      gone a b v w f = elim (cases_Bool (has a v)) [ inl e ↦ absurd (both_ways _ f (within_has a b w v e)) | inr e ↦ e ]

      no-s-stays : (v : ℕ) → v < room bd s → has (lo r s) v ≡ false → Supported bd holds x (omitted s v)
      no-s-stays v q f = elim (cases_Bool (has able v)) [
        | inr a ↦ s-unable bd some g s t fit x l cands same able far yes judged.on judged.covers v q a
        | inl a ↦ elim (judged.each v a (has-zero v)) [
          | inl d ↦ s-out bd some g s t fit x l cands same able far yes v q d.loose.spared (gone (lo x s) (lo r s) v (inside.higher s fit.s_there) f)
          | inr d ↦ absurd (both_ways _ (gone bound (lo r s) v (done.s_low fit.s_there lr) f) d.taken)
        ]
      ]

      -- a sensor of lo S has a slot besides one that is not sure
      other : (v : ℕ) → has sure v ≡ false → (i : ℕ) → has (lo x s) i ≡ true → (u : ℕ) × (has (common cands (hi x t) i) u ≡ true) × (u ≡ v → ⊥)
      other v unsure i e =
          let m = common cands (hi x t) i in
          let h = first-has m m (small m) (far.only i (within_has (lo x s) able yes i e)).1 in
          elim (cases_eq (first m m) v) [
            | inr ne ↦ (first m m, h, ne)
            | inl z ↦
                let q : has m v ≡ true = subst (λ (w : ℕ). has m w ≡ true) z h in
                another v m (λ one. both_ways _ unsure (single.all i v e (has-zero i) one q)) q
          ]

      omitted-stays : (j v : ℕ) → j < bd.sets → v < room bd j → has (lo r j) v ≡ false → Supported bd holds x (omitted j v)
      omitted-stays j v h q f =
          elim (cases_eq j s) [
            | inl z ↦ subst (λ (i : ℕ). Supported bd holds x (omitted i v)) (sym z) (no-s-stays v (subst (λ (i : ℕ). v < room bd i) z q) (subst (λ (i : ℕ). has (lo r i) v ≡ false) z f))
            | inr ns ↦ elim (cases_eq j t) [
              | inl z ↦
                  let ft : has (lo r t) v ≡ false = subst (λ (i : ℕ). has (lo r i) v ≡ false) z f in
                  subst (λ (i : ℕ). Supported bd holds x (omitted i v)) (sym z)
                  (t-out bd some g s t fit x l cands same able far yes judged.on judged.covers v (gone (lo x t) (lo r t) v (inside.higher t fit.t_there) ft)
                  (other v (gone sure (lo r t) v (done.t_low fit.t_there lr) ft)) (subst (λ (i : ℕ). v < room bd i) z q))
              | inr nt ↦ rest_out bd some g s t fit x l cands same able far yes judged.on judged.covers j v h q ns nt (gone (lo x j) (lo r j) v (inside.higher j h) f)
            ]
          ]

      stays : (c : Choice) → offers bd r c ≡ true → Supported bd holds x c
      stays (slotted i v) e = slot-stays i v e
      stays (taken j v) e = taken-stays j v e
      stays (omitted j v) e =
          let p = and_parts _ _ e in
          let d = and_parts _ _ p.0 in
          omitted-stays j v (ltb-true j bd.sets d.0) (ltb-true v (room bd j) d.1) (not-true _ p.1)

    pub range-tight : r ≡ tight bd holds x
    range-tight = tight-is bd some holds x r k kr
        (λ c e. elim kr [
          | inl d ↦ absurd (both_ways _ (dead-choice bd some r d c) e)
          | inr v ↦ stays v c (sym (choice-live bd some r (live-true bd some r v) c) ∙ e)
        ])
        (λ c u.
        let rg = ranged-says bd g s t u.0 u.3 in
        let n = done.step.keeps u.0 u.1 u.2 (obedient bd g s t fit x cands same able far u.0 u.1 u.2 rg keep bound near sure judged single) in
        (space bd some).lay-in r kr u.0 (mem-lay bd some r u.0 u.1 n) c u.4)
