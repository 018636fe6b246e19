-- Supports of Range made from coverings. Assumes nothing.
use Rattle.std.proofs.Common.{◌≡◌, ℕ, zero, suc, ◌^◌, ◌<◌, Bool, true, false, cond, not, ◌&&◌, eqb, List, [], get_or, sym, refl, ap, ◌∙◌, subst, inl, inr, arith}
use lib.Bits.{bit_and, and_le_l}
use Rattle.std.proofs.lemmas.Bool.{both_ways, not-true, eqb-true, eqb-false, lt-ltb, eq-eqb, ne_eqb, and_parts, cases_eq, cases_Bool, and_from, not_from_false, cond-true, cond-false, cond_both}
use Rattle.masks.specs.Masks.{has, within, without}
use Rattle.masks.proofs.Counts.{first, first-has}
use Rattle.masks.proofs.Masks.{has-and, has-below, within_has}
use Rattle.masks.proofs.Subsets.{nonzero, within_all}
use Rattle.model.specs.Board.{Board, room}
use Rattle.model.specs.Box.{Box, Choice, Live, cand, hi, lo, omitted, slotted, tab, taken, uses}
use Rattle.model.specs.Layout.{Layout, layout, set_of, slot_of}
use Rattle.model.specs.Tight.{Supported}
use Rattle.model.proofs.Boxes.{lo-below, made}
use Rattle.model.proofs.Lists.{tab-at}
use Rattle.model.proofs.Witness.{Fills, Picks, hi-fills, lo-fills, put, put-fills, put_other, put-picks, put_same, set-made, slot-made, support}
use Rattle.covering.specs.Covering.{Avoidable, Covering, candidate}
use Rattle.covering.proofs.Singles.{drop-apart, drop-gone, drop_keeps, drop-only}
use Rattle.range.specs.Judged.{Loose, Tied}
use Rattle.range.specs.Ranges.{ranged, slots_of_all}
use Rattle.range.specs.Survey.{Able, common}
use Rattle.range.proofs.Fitting.{Fit, t-room, two}
use Rattle.range.proofs.Images.{Ranged, image-into, image-onto, mask-in, mask-of, mask_of, ranged-from}
use Rattle.range.proofs.Supports.{able-low}

-- the slot that a covering gives sensor k, else d; p says which slots below n are covered
pub given : (ℕ → Bool) → (ℕ → ℕ) → ℕ → ℕ → ℕ → ℕ
given p on k d zero = d
given p on k d (suc n) = cond (p n && eqb (on n) k) n (given p on k d n)

pub given-in : (p : ℕ → Bool) (on : ℕ → ℕ) (k d n : ℕ) (P : ℕ → Type 0) → ((v : ℕ) → p v ≡ true → on v ≡ k → P v) → P d → P (given p on k d n)
unfolding given
given-in p on k d zero P f e = e
given-in p on k d (suc n) P f e = cond_both (p n && eqb (on n) k) n (given p on k d n) P
    (λ t. let w = and_parts _ _ t in f n w.0 (eqb-true (on n) k w.1))
    (λ _. given-in p on k d n P f e)

pub given-here : (p : ℕ → Bool) (on : ℕ → ℕ) (k d n v : ℕ) → v < n → p v ≡ true → on v ≡ k → ((u : ℕ) → p u ≡ true → on u ≡ k → u ≡ v) → given p on k d n ≡ v
unfolding given
given-here p on k d zero v l e q one = absurd (omega arith)
given-here p on k d (suc n) v l e q one = cond_both (p n && eqb (on n) k) n (given p on k d n) (λ u. u ≡ v)
    (λ t. let w = and_parts _ _ t in one n w.0 (eqb-true (on n) k w.1))
    (λ f. given-here p on k d n v (elim (cases_eq v n) [
      | inl z ↦ absurd (both_ways _ f (and_from _ _ (subst (λ (u : ℕ). p u ≡ true) z e) (eq-eqb (on n) k (subst (λ (u : ℕ). on u ≡ k) z q))))
      | inr ne ↦ omega arith
    ]) e q one)

pub given-not : (p : ℕ → Bool) (on : ℕ → ℕ) (k d n : ℕ) → ((v : ℕ) → p v ≡ true → on v ≡ k → ⊥) → given p on k d n ≡ d
given-not p on k d n none = given-in p on k d n (λ u. u ≡ d) (λ v e q. absurd (none v e q)) refl

module _ (bd : Board) (some : 0 < bd.sensors) (g s t : ℕ) (fit : Fit bd g s t) (x : Box) (l : Live bd x)
    (cands : List ℕ) (same : (i : ℕ) → get_or cands i 0 ≡ cand x i)
    (able : ℕ) (far : Able cands (bit_and (hi x s) g) (hi x t) 0 able) where
  claimed-low : (v : ℕ) → has (lo x t) v ≡ true → v < bd.slots
  claimed-low v e = has-below bd.slots (lo x t) v (subst (λ (r : ℕ). lo x t < 2 ^ r) (t-room fit) (lo-below bd some x l t fit.t_there)) e

  able-on : (i : ℕ) → has able i ≡ true → i < bd.sensors
  able-on = able-low bd g s t fit x cands same able far

  -- what a covering and a slot for every other sensor must meet, for the sensors of `in-s` to be S
  pub record Apt (on e : ℕ → ℕ) (in-s : ℕ) : Type 0 where
    pub covers : Covering (candidate cands) able (lo x t) on
    pub picks : (k : ℕ) → k < bd.sensors → has (cand x k) (e k) ≡ true
    pub low : (k : ℕ) → has (lo x s) k ≡ true → has in-s k ≡ true
    pub high : (k : ℕ) → has in-s k ≡ true → has able k ≡ true
    pub inner : (k : ℕ) → has in-s k ≡ true → has (hi x t) (e k) ≡ true
    pub enough : (v : ℕ) → has (lo x t) v ≡ true → has in-s (on v) ≡ true

  abbrev pub slot-by : (ℕ → ℕ) → (ℕ → ℕ) → ℕ → ℕ
  slot-by on e k = given (has (lo x t)) on k (e k) bd.slots

  module _ (on e : ℕ → ℕ) (in-s : ℕ) (apt : Apt on e in-s) (rest : ℕ → ℕ) (fills : Fills bd some x rest) where
    abbrev slot : ℕ → ℕ
    slot = slot-by on e

    pub slot-covered : (v : ℕ) → has (lo x t) v ≡ true → slot (on v) ≡ v
    slot-covered v q = given-here (has (lo x t)) on (on v) (e (on v)) bd.slots v (claimed-low v q) q refl (λ u a z. apt.covers.apart u v a q z)

    slot-picks : Picks bd some x slot
    slot-picks = record {
      pick = λ k h. given-in (has (lo x t)) on k (e k) bd.slots (λ u. has (cand x k) u ≡ true)
          (λ v a z. ap (λ (m : ℕ). has m v) (sym (same k)) ∙ subst (λ (i : ℕ). candidate cands i v ≡ true) z (apt.covers.fits v a))
          (apt.picks k h);
    }

    slot-inner : (k : ℕ) → has in-s k ≡ true → has (hi x t) (slot k) ≡ true
    slot-inner k q = given-in (has (lo x t)) on k (e k) bd.slots (λ u. has (hi x t) u ≡ true)
        (λ v a z. within_has (lo x t) (hi x t) (l.bounds t fit.t_there) v a) (apt.inner k q)

    -- T: the slots of the sensors in S
    pub in-t : ℕ
    in-t = slots_of_all bd (layout (tab slot bd.sensors) []) in-s

    slot_at : (i : ℕ) → i < bd.sensors → slot_of (layout (tab slot bd.sensors) []) i ≡ slot i
    slot_at i h = tab-at slot bd.sensors i 0 h

    pub t-into : (i : ℕ) → has in-s i ≡ true → has in-t (slot i) ≡ true
    unfolding in-t
    t-into i q =
        let h = able-on i (apt.high i q) in
        subst (λ (u : ℕ). has (slots_of_all bd (layout (tab slot bd.sensors) []) in-s) u ≡ true) (slot_at i h) (image-into bd (layout (tab slot bd.sensors) []) in-s i h q)

    pub t-onto : (v : ℕ) → has in-t v ≡ true → (i : ℕ) × (i < bd.sensors) × (has in-s i ≡ true) × (slot i ≡ v)
    unfolding in-t
    t-onto v q =
        let w = image-onto bd (layout (tab slot bd.sensors) []) in-s v q in
        (w.0, w.1, w.2, sym (slot_at w.0 w.1) ∙ w.3)

    abbrev sets : ℕ → ℕ
    sets = put s in-s (put t in-t rest)

    pub t-covers : (v : ℕ) → has (lo x t) v ≡ true → has in-t v ≡ true
    t-covers v q = subst (λ (u : ℕ). has in-t u ≡ true) (slot-covered v q) (t-into (on v) (apt.enough v q))

    sets-fill : Fills bd some x sets
    sets-fill = put-fills bd some x s in-s (put t in-t rest)
        (put-fills bd some x t in-t rest fills
        (within_all (lo x t) in-t t-covers)
        (within_all in-t (hi x t) (λ v q. let w = t-onto v q in subst (λ (u : ℕ). has (hi x t) u ≡ true) w.3 (slot-inner w.0 w.2))))
        (within_all (lo x s) in-s apt.low)
        (within_all in-s (hi x s) (λ i q. (and_parts _ _ (sym (has-and (hi x s) g i) ∙ (far.only i (apt.high i q)).0)).0))

    abbrev y : Layout
    y = made bd some slot sets

    s-is : set_of y s ≡ in-s
    s-is = set-made bd some x slot sets s fit.s_there ∙ put_same s in-s (put t in-t rest)

    t_is : set_of y t ≡ in-t
    t_is = set-made bd some x slot sets t fit.t_there ∙ put_other s in-s (put t in-t rest) t (λ z. two fit (sym z)) ∙ put_same t in-t rest

    y-ranged : Ranged bd g s t y
    y-ranged = record {
      inner = λ i q.
          let a = (far.only i (apt.high i (ap (λ (m : ℕ). has m i) (sym s-is) ∙ q))).0 in
          (and_parts _ _ (sym (has-and (hi x s) g i) ∙ a)).1;
      into = λ i h q. ap (λ (m : ℕ). has m (slot_of y i)) t_is ∙ ap (has in-t) (slot-made bd some x slot sets i h) ∙ t-into i (ap (λ (m : ℕ). has m i) (sym s-is) ∙ q);
      onto = λ v q.
          let w = t-onto v (ap (λ (m : ℕ). has m v) (sym t_is) ∙ q) in
          (w.0, w.1, ap (λ (m : ℕ). has m w.0) s-is ∙ w.2, slot-made bd some x slot sets w.0 w.1 ∙ w.3);
    }

    by : (c : Choice) → uses bd y c ≡ true → Supported bd (ranged bd g s t) x c
    by = support bd some x l (ranged bd g s t) slot sets slot-picks sets-fill (ranged-from bd g s t y y-ranged)

    pub by-slot : (i v : ℕ) → i < bd.sensors → slot i ≡ v → Supported bd (ranged bd g s t) x (slotted i v)
    unfolding uses
    by-slot i v h q = by (slotted i v) (and_from _ _ (lt-ltb i bd.sensors h) (eq-eqb _ v (slot-made bd some x slot sets i h ∙ q)))

    by-taken : (j v : ℕ) → has (set_of y j) v ≡ true → Supported bd (ranged bd g s t) x (taken j v)
    unfolding uses
    by-taken j v q = by (taken j v) q

    by-omitted : (j v : ℕ) → j < bd.sets → v < room bd j → has (set_of y j) v ≡ false → Supported bd (ranged bd g s t) x (omitted j v)
    unfolding uses
    by-omitted j v h r q = by (omitted j v) (and_from _ _ (and_from _ _ (lt-ltb j bd.sets h) (lt-ltb v (room bd j) r)) (not_from_false _ q))

    pub by-s : (v : ℕ) → has in-s v ≡ true → Supported bd (ranged bd g s t) x (taken s v)
    by-s v q = by-taken s v (ap (λ (m : ℕ). has m v) s-is ∙ q)

    pub by-t : (v : ℕ) → has in-t v ≡ true → Supported bd (ranged bd g s t) x (taken t v)
    by-t v q = by-taken t v (ap (λ (m : ℕ). has m v) t_is ∙ q)

    pub by-no-s : (v : ℕ) → v < room bd s → has in-s v ≡ false → Supported bd (ranged bd g s t) x (omitted s v)
    by-no-s v r q = by-omitted s v fit.s_there r (ap (λ (m : ℕ). has m v) s-is ∙ q)

    pub by-no-t : (v : ℕ) → v < room bd t → has in-t v ≡ false → Supported bd (ranged bd g s t) x (omitted t v)
    by-no-t v r q = by-omitted t v fit.t_there r (ap (λ (m : ℕ). has m v) t_is ∙ q)

    other-is : (j : ℕ) → j < bd.sets → (j ≡ s → ⊥) → (j ≡ t → ⊥) → set_of y j ≡ rest j
    other-is j h ns nt = set-made bd some x slot sets j h ∙ put_other s in-s (put t in-t rest) j ns ∙ put_other t in-t rest j nt

    pub by-rest : (j v : ℕ) → j < bd.sets → (j ≡ s → ⊥) → (j ≡ t → ⊥) → has (rest j) v ≡ true → Supported bd (ranged bd g s t) x (taken j v)
    by-rest j v h ns nt q = by-taken j v (ap (λ (m : ℕ). has m v) (other-is j h ns nt) ∙ q)

    pub by-no-rest : (j v : ℕ) → j < bd.sets → v < room bd j → (j ≡ s → ⊥) → (j ≡ t → ⊥) → has (rest j) v ≡ false → Supported bd (ranged bd g s t) x (omitted j v)
    by-no-rest j v h r ns nt q = by-omitted j v h r (ap (λ (m : ℕ). has m v) (other-is j h ns nt) ∙ q)

  -- ---- a slot for each sensor: in hi T for those that may be in S

  plain : ℕ → ℕ
  plain i = cond (has able i) (first bd.slots (common cands (hi x t) i)) (first bd.slots (cand x i))

  common-low : (i : ℕ) → i < bd.sensors → common cands (hi x t) i < 2 ^ bd.slots
  common-low i h = omega (arith, and_le_l (get_or cands i 0) (hi x t), same i, l.cands_on i h)

  common-first : (i : ℕ) → has able i ≡ true → has (common cands (hi x t) i) (first bd.slots (common cands (hi x t) i)) ≡ true
  common-first i e = first-has bd.slots (common cands (hi x t) i) (common-low i (able-on i e)) (far.only i e).1

  common-cand : (i v : ℕ) → has (common cands (hi x t) i) v ≡ true → (has (cand x i) v ≡ true) × (has (hi x t) v ≡ true)
  common-cand i v e =
      let w = and_parts _ _ (sym (has-and (get_or cands i 0) (hi x t) v) ∙ e) in
      (ap (λ (m : ℕ). has m v) (sym (same i)) ∙ w.0, w.1)

  plain-able : (i : ℕ) → has able i ≡ true → has (common cands (hi x t) i) (plain i) ≡ true
  unfolding plain
  plain-able i e = ap (has (common cands (hi x t) i)) (cond-true (has able i) _ _ e) ∙ common-first i e

  plain-inner : (i : ℕ) → has able i ≡ true → has (hi x t) (plain i) ≡ true
  plain-inner i e = (common-cand i (plain i) (plain-able i e)).1

  plain-picks : Picks bd some x plain
  unfolding plain
  plain-picks = record {
    pick = λ i h. elim (cases_Bool (has able i)) [
      | inl e ↦ (common-cand i (plain i) (plain-able i e)).0
      | inr e ↦ ap (has (cand x i)) (cond-false (has able i) _ _ e) ∙ first-has bd.slots (cand x i) (l.cands_on i h) (l.some i h)
    ];
  }

  lows : Fills bd some x (lo x)
  lows = lo-fills bd some x l

  module _ (lower-able : within (lo x s) able ≡ true) where
    lower_in : (i : ℕ) → has (lo x s) i ≡ true → has able i ≡ true
    lower_in = within_has (lo x s) able lower-able

    module _ (on : ℕ → ℕ) (covers : Covering (candidate cands) able (lo x t) on) where
      -- S is all that it may be
      apt-all : Apt on plain able
      apt-all = record { covers = covers; picks = plain-picks.pick; low = lower_in; high = λ i e. e; inner = plain-inner; enough = covers.among }

      -- the same with v for sensor i
      apt-put : (i v : ℕ) → has (cand x i) v ≡ true → (has able i ≡ true → has (hi x t) v ≡ true) → Apt on (put i v plain) able
      apt-put i v c q = record {
        covers = covers;
        picks = (put-picks bd some x i v plain plain-picks c).pick;
        low = lower_in;
        high = λ j e. e;
        inner = λ j e. elim (cases_eq j i) [
          | inl z ↦ subst (λ (u : ℕ). has (hi x t) (put i v plain u) ≡ true) (sym z) (ap (has (hi x t)) (put_same i v plain) ∙ q (subst (λ (u : ℕ). has able u ≡ true) z e))
          | inr ne ↦ ap (has (hi x t)) (put_other i v plain j ne) ∙ plain-inner j e
        ];
        enough = covers.among;
      }

      -- S without sensor i, which the covering does not use
      module _ (i : ℕ) (unused : (u : ℕ) → has (lo x t) u ≡ true → on u ≡ i → ⊥) where
        slot-put : (v : ℕ) → slot-by on (put i v plain) i ≡ v
        slot-put v = given-not (has (lo x t)) on i (put i v plain i) bd.slots unused ∙ put_same i v plain

        module _ (out : has (lo x s) i ≡ false) where
          low-drop : (j : ℕ) → has (lo x s) j ≡ true → has (without able (2 ^ i)) j ≡ true
          low-drop j e = drop_keeps able i j (λ z. both_ways _ out (subst (λ (u : ℕ). has (lo x s) u ≡ true) z e)) (lower_in j e)

          enough-drop : (u : ℕ) → has (lo x t) u ≡ true → has (without able (2 ^ i)) (on u) ≡ true
          enough-drop u e = drop_keeps able i (on u) (unused u e) (covers.among u e)

          apt-drop : Apt on plain (without able (2 ^ i))
          apt-drop = record {
            covers = covers;
            picks = plain-picks.pick;
            low = low-drop;
            high = drop-only able i;
            inner = λ j e. plain-inner j (drop-only able i j e);
            enough = enough-drop;
          }

          apt-drop-put : (v : ℕ) → has (cand x i) v ≡ true → Apt on (put i v plain) (without able (2 ^ i))
          apt-drop-put v c = record {
            covers = covers;
            picks = (put-picks bd some x i v plain plain-picks c).pick;
            low = low-drop;
            high = drop-only able i;
            inner = λ j e. ap (has (hi x t)) (put_other i v plain j (drop-apart able i j e)) ∙ plain-inner j (drop-only able i j e);
            enough = enough-drop;
          }

      -- ---- what a covering supports

      pub s-in : (v : ℕ) → has able v ≡ true → Supported bd (ranged bd g s t) x (taken s v)
      s-in v e = by-s on plain able apt-all (lo x) lows v e

      pub t-in : (v : ℕ) → has (lo x t) v ≡ true → Supported bd (ranged bd g s t) x (taken t v)
      t-in v e = by-t on plain able apt-all (lo x) lows v (t-covers on plain able apt-all (lo x) lows v e)

      pub s-unable : (v : ℕ) → v < room bd s → has able v ≡ false → Supported bd (ranged bd g s t) x (omitted s v)
      s-unable v q e = by-no-s on plain able apt-all (lo x) lows v q e

      pub rest_in : (j v : ℕ) → j < bd.sets → (j ≡ s → ⊥) → (j ≡ t → ⊥) → has (hi x j) v ≡ true → Supported bd (ranged bd g s t) x (taken j v)
      rest_in j v h ns nt e = by-rest on plain able apt-all (hi x) (hi-fills bd some x l) j v h ns nt e

      pub rest_out : (j v : ℕ) → j < bd.sets → v < room bd j → (j ≡ s → ⊥) → (j ≡ t → ⊥) → has (lo x j) v ≡ false → Supported bd (ranged bd g s t) x (omitted j v)
      rest_out j v h q ns nt e = by-no-rest on plain able apt-all (lo x) lows j v h q ns nt e

      -- T without v: each sensor of lo S has another slot, and those that have v are left out of S
      module _ (v : ℕ) (free : has (lo x t) v ≡ false)
          (other : (i : ℕ) → has (lo x s) i ≡ true → (u : ℕ) × (has (common cands (hi x t) i) u ≡ true) × (u ≡ v → ⊥)) where
        apart : ℕ → ℕ
        apart i = cond (has (lo x s) i) (first bd.slots (without (common cands (hi x t) i) (2 ^ v))) (plain i)

        apart-lower : (i : ℕ) → has (lo x s) i ≡ true → (has (common cands (hi x t) i) (apart i) ≡ true) × (apart i ≡ v → ⊥)
        unfolding apart
        apart-lower i e =
            let m = without (common cands (hi x t) i) (2 ^ v) in
            let w = other i e in
            let q : has m (first bd.slots m) ≡ true = first-has bd.slots m (omega (arith, common-low i (able-on i (lower_in i e)))) (nonzero m w.0 (drop_keeps _ v w.0 w.2 w.1)) in
            let is : apart i ≡ first bd.slots m = cond-true (has (lo x s) i) _ _ e in
            (ap (has (common cands (hi x t) i)) is ∙ drop-only _ v _ q, λ z. drop-apart _ v _ q (sym is ∙ z))

        apart-else : (i : ℕ) → has (lo x s) i ≡ false → apart i ≡ plain i
        unfolding apart
        apart-else i e = cond-false (has (lo x s) i) _ _ e

        apart-inner : (i : ℕ) → has able i ≡ true → has (hi x t) (apart i) ≡ true
        apart-inner i e = elim (cases_Bool (has (lo x s) i)) [
          | inl q ↦ (common-cand i (apart i) (apart-lower i q).0).1
          | inr q ↦ ap (has (hi x t)) (apart-else i q) ∙ plain-inner i e
        ]

        apart-picks : (i : ℕ) → i < bd.sensors → has (cand x i) (apart i) ≡ true
        apart-picks i h = elim (cases_Bool (has (lo x s) i)) [
          | inl q ↦ (common-cand i (apart i) (apart-lower i q).0).0
          | inr q ↦ ap (has (cand x i)) (apart-else i q) ∙ plain-picks.pick i h
        ]

        few : ℕ
        few = mask_of (λ i. has able i && not (eqb (slot-by on apart i) v)) bd.sensors

        few-in : (i : ℕ) → has able i ≡ true → (slot-by on apart i ≡ v → ⊥) → has few i ≡ true
        unfolding few
        few-in i e ne = mask-in (λ i. has able i && not (eqb (slot-by on apart i) v)) bd.sensors i (able-on i e) (and_from _ _ e (not_from_false _ (ne_eqb _ v ne)))

        few-of : (i : ℕ) → has few i ≡ true → (has able i ≡ true) × (slot-by on apart i ≡ v → ⊥)
        unfolding few
        few-of i e =
            let w = and_parts _ _ (mask-of (λ i. has able i && not (eqb (slot-by on apart i) v)) bd.sensors i e).1 in
            (w.0, eqb-false _ v (not-true _ w.1))

        not-claimed : (u : ℕ) → has (lo x t) u ≡ true → u ≡ v → ⊥
        not-claimed u e z = both_ways _ free (subst (λ (w : ℕ). has (lo x t) w ≡ true) z e)

        keeps-own : (u : ℕ) → has (lo x t) u ≡ true → slot-by on apart (on u) ≡ u
        keeps-own u e = given-here (has (lo x t)) on (on u) (apart (on u)) bd.slots u (claimed-low u e) e refl (λ w a z. covers.apart w u a e z)

        apt-few : Apt on apart few
        apt-few = record {
          covers = covers;
          picks = apart-picks;
          low = λ i e. few-in i (lower_in i e) (given-in (has (lo x t)) on i (apart i) bd.slots (λ u. u ≡ v → ⊥) (λ u q _. not-claimed u q) (apart-lower i e).1);
          high = λ i e. (few-of i e).0;
          inner = λ i e. apart-inner i (few-of i e).0;
          enough = λ u e. few-in (on u) (covers.among u e) (λ z. not-claimed u e (sym (keeps-own u e) ∙ z));
        }

        pub t-out : v < room bd t → Supported bd (ranged bd g s t) x (omitted t v)
        t-out q = by-no-t on apart few apt-few (lo x) lows v q
            (elim (cases_Bool (has (in-t on apart few apt-few (lo x) lows) v)) [
              | inr e ↦ e
              | inl e ↦ (let w = t-onto on apart few apt-few (lo x) lows v e in absurd ((few-of w.0 w.2).1 w.3))
            ])

    -- ---- what the coverings say of a sensor

    pub loose-slot : (i v slots : ℕ) → i < bd.sensors → Loose (candidate cands) able (lo x t) (lo x s) (hi x t) (get_or cands i 0) slots i → has slots v ≡ true
        → Supported bd (ranged bd g s t) x (slotted i v)
    loose-slot i v slots h f e =
        let on = f.spared.on in
        let cov = f.spared.covers in
        let un = f.spared.unused in
        elim (cases_Bool (has (lo x s) i)) [
          | inl q ↦
              let c = common-cand i v (ap (λ (m : ℕ). has m v) (sym (f.inner q)) ∙ e) in
              by-slot on (put i v plain) able (apt-put on cov i v c.0 (λ _. c.1)) (lo x) lows i v h (slot-put on cov i un v)
          | inr q ↦
              let c : has (cand x i) v ≡ true = ap (λ (m : ℕ). has m v) (sym (f.outer q ∙ same i)) ∙ e in
              by-slot on (put i v plain) (without able (2 ^ i)) (apt-drop-put on cov i un q v c) (lo x) lows i v h (slot-put on cov i un v)
        ]

    pub tied-slot : (i v slots : ℕ) → i < bd.sensors → Tied (candidate cands) able (lo x t) (get_or cands i 0) slots i → has slots v ≡ true
        → Supported bd (ranged bd g s t) x (slotted i v)
    tied-slot i v slots h f e =
        let w = and_parts _ _ (sym (has-and (get_or cands i 0) f.group v) ∙ ap (λ (m : ℕ). has m v) (sym f.cut) ∙ e) in
        let m = f.needed.may v w.1 w.0 in
        let apt = apt-all m.on m.covers in
        by-slot m.on plain able apt (lo x) lows i v h (ap (slot-by m.on plain) (sym m.here) ∙ slot-covered m.on plain able apt (lo x) lows v m.claims)

    pub near-in : (i v : ℕ) → has able i ≡ true → Avoidable (candidate cands) able (lo x t) i → has (common cands (hi x t) i) v ≡ true
        → Supported bd (ranged bd g s t) x (taken t v)
    near-in i v e a q =
        let c = common-cand i v q in
        let apt = apt-put a.on a.covers i v c.0 (λ _. c.1) in
        by-t a.on (put i v plain) able apt (lo x) lows v
        (subst (λ (u : ℕ). has (in-t a.on (put i v plain) able apt (lo x) lows) u ≡ true) (slot-put a.on a.covers i a.unused v)
        (t-into a.on (put i v plain) able apt (lo x) lows i e))

    pub s-out : (v : ℕ) → v < room bd s → Avoidable (candidate cands) able (lo x t) v → has (lo x s) v ≡ false → Supported bd (ranged bd g s t) x (omitted s v)
    s-out v q a out = by-no-s a.on plain (without able (2 ^ v)) (apt-drop a.on a.covers v a.unused out) (lo x) lows v q (drop-gone able v)
