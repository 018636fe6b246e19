-- Layouts that show a choice of a live box supported. Assumes nothing.
use Rattle.std.proofs.Common.{◌≡◌, ℕ, ◌<◌, Bool, true, false, cond, not, eqb, sym, refl, ap, ◌∙◌, subst, inl, inr}
use Rattle.std.proofs.lemmas.Bool.{not-true, ltb-true, lt-ltb, eq-eqb, ne_eqb, and_parts, cases_eq, and_from, not_from_false, cond-true, cond-false}
use Rattle.masks.specs.Masks.{has, within}
use Rattle.masks.proofs.Counts.{first, first-has}
use Rattle.masks.proofs.Subsets.{within-self}
use Rattle.model.specs.Board.{Board, room}
use Rattle.model.specs.Box.{Box, Choice, Live, cand, hi, lo, offers, omitted, slotted, taken, uses}
use Rattle.model.specs.Layout.{Layout, set_of, slot_of}
use Rattle.model.specs.Tight.{Supported}
use Rattle.model.proofs.Boxes.{index_below, lay-mem, made, made-mem}
use Rattle.model.proofs.Lists.{tab-at}

-- g with m at place a
abbrev pub put : ℕ → ℕ → (ℕ → ℕ) → ℕ → ℕ
put a m g k = cond (eqb k a) m (g k)

pub put_same : (a m : ℕ) (g : ℕ → ℕ) → put a m g a ≡ m
put_same a m g = cond-true (eqb a a) m (g a) (eq-eqb a a refl)

pub put_other : (a m : ℕ) (g : ℕ → ℕ) (k : ℕ) → (k ≡ a → ⊥) → put a m g k ≡ g k
put_other a m g k ne = cond-false (eqb k a) m (g k) (ne_eqb k a ne)

module _ (bd : Board) (some : 0 < bd.sensors) (r : Box) where
  -- slots for the sensors among the candidates of r, and masks for the sets within its bounds
  pub record Picks (f : ℕ → ℕ) : Type 0 where
    pub pick : (i : ℕ) → i < bd.sensors → has (cand r i) (f i) ≡ true

  pub record Fills (g : ℕ → ℕ) : Type 0 where
    pub over : (j : ℕ) → j < bd.sets → within (lo r j) (g j) ≡ true
    pub under : (j : ℕ) → j < bd.sets → within (g j) (hi r j) ≡ true

  pub put-picks : (i s : ℕ) (f : ℕ → ℕ) → Picks f → has (cand r i) s ≡ true → Picks (put i s f)
  put-picks i s f p e = record {
    pick = λ k h. elim (cases_eq k i) [
      | inl q ↦ subst (λ t. has (cand r t) (put i s f t) ≡ true) (sym q) (ap (has (cand r i)) (put_same i s f) ∙ e)
      | inr q ↦ ap (has (cand r k)) (put_other i s f k q) ∙ p.pick k h
    ];
  }

  pub put-fills : (a m : ℕ) (g : ℕ → ℕ) → Fills g → within (lo r a) m ≡ true → within m (hi r a) ≡ true → Fills (put a m g)
  put-fills a m g f p q = record {
    over = λ j h. elim (cases_eq j a) [
      | inl e ↦ subst (λ t. within (lo r t) (put a m g t) ≡ true) (sym e) (ap (within (lo r a)) (put_same a m g) ∙ p)
      | inr e ↦ ap (within (lo r j)) (put_other a m g j e) ∙ f.over j h
    ];
    under = λ j h. elim (cases_eq j a) [
      | inl e ↦ subst (λ t. within (put a m g t) (hi r t) ≡ true) (sym e) (ap (λ n. within n (hi r a)) (put_same a m g) ∙ q)
      | inr e ↦ ap (λ n. within n (hi r j)) (put_other a m g j e) ∙ f.under j h
    ];
  }

  pub set-made : (f g : ℕ → ℕ) (j : ℕ) → j < bd.sets → set_of (made bd some f g) j ≡ g j
  unfolding made
  set-made f g j h = tab-at g bd.sets j 0 h

  pub slot-made : (f g : ℕ → ℕ) (i : ℕ) → i < bd.sensors → slot_of (made bd some f g) i ≡ f i
  unfolding made
  slot-made f g i h = tab-at f bd.sensors i 0 h

  module _ (lr : Live bd r) where
    -- the first candidates, the lower bounds, the upper bounds
    pub firsts : ℕ → ℕ
    firsts k = first bd.slots (cand r k)

    pub firsts-pick : Picks firsts
    unfolding firsts
    firsts-pick = record { pick = λ k h. first-has bd.slots (cand r k) (lr.cands_on k h) (lr.some k h) }

    pub lo-fills : Fills (lo r)
    lo-fills = record { over = λ j h. within-self (lo r j); under = lr.bounds }

    pub hi-fills : Fills (hi r)
    hi-fills = record { over = lr.bounds; under = λ j h. within-self (hi r j) }

    -- the lower bounds with one set at its upper bound
    abbrev pub raise : ℕ → ℕ → ℕ
    raise j = put j (hi r j) (lo r)

    pub raise-fills : (j : ℕ) → j < bd.sets → Fills (raise j)
    raise-fills j h = put-fills j (hi r j) (lo r) lo-fills (lr.bounds j h) (within-self (hi r j))

    module _ (holds : Layout → Bool) where
      pub support : (f g : ℕ → ℕ) → Picks f → Fills g → holds (made bd some f g) ≡ true → (c : Choice) → uses bd (made bd some f g) c ≡ true → Supported bd holds r c
      support f g p q h c u =
          let m = lay-mem bd some r (made bd some f g) (made-mem bd some r lr f g p.pick q.over q.under) in
          (made bd some f g, m.0, m.1, h, u)

      -- ---- rules that look at sets alone

      -- masks that satisfy the rule: some, and for each open member some that take it and some that leave it out
      pub record Covered (Good : (ℕ → ℕ) → Type 0) : Type 0 where
        pub base : (g : ℕ → ℕ) × Fills g × Good g
        pub top : (j v : ℕ) → j < bd.sets → has (hi r j) v ≡ true → (g : ℕ → ℕ) × Fills g × Good g × (has (g j) v ≡ true)
        pub low : (j v : ℕ) → j < bd.sets → v < room bd j → has (lo r j) v ≡ false → (g : ℕ → ℕ) × Fills g × Good g × (has (g j) v ≡ false)

      pub covers : (Good : (ℕ → ℕ) → Type 0) → ((f g : ℕ → ℕ) → Good g → holds (made bd some f g) ≡ true) → Covered Good → (c : Choice) → offers bd r c ≡ true → Supported bd holds r c
      unfolding uses
      covers Good at w (slotted i s) e =
          let q = index_below bd some r.cands bd.sensors i s lr.cands_many e in
          let g = w.base.0 in
          support (put i s firsts) g (put-picks i s firsts firsts-pick e) w.base.1 (at (put i s firsts) g w.base.2) (slotted i s)
          (and_from _ _ (lt-ltb i bd.sensors q) (eq-eqb _ s (slot-made (put i s firsts) g i q ∙ put_same i s firsts)))
      covers Good at w (taken j v) e =
          let q = index_below bd some r.highs bd.sets j v lr.highs_many e in
          let t = w.top j v q e in
          support firsts t.0 firsts-pick t.1 (at firsts t.0 t.2) (taken j v) (ap (λ m. has m v) (set-made firsts t.0 j q) ∙ t.3)
      covers Good at w (omitted j v) e =
          let p = and_parts _ _ e in
          let d = and_parts _ _ p.0 in
          let q = ltb-true j bd.sets d.0 in
          let t = w.low j v q (ltb-true v (room bd j) d.1) (not-true _ p.1) in
          support firsts t.0 firsts-pick t.1 (at firsts t.0 t.2) (omitted j v) (and_from _ _ p.0 (ap (λ m. not (has m v)) (set-made firsts t.0 j q) ∙ not_from_false _ t.3))

      -- it is enough that the lower bounds satisfy the rule, and do so with any one set raised
      pub raised : (Good : (ℕ → ℕ) → Type 0) → Good (lo r) → ((j : ℕ) → j < bd.sets → Good (raise j)) → Covered Good
      raised Good g f = record {
        base = (lo r, lo-fills, g);
        top = λ j v h e. (raise j, raise-fills j h, f j h, ap (λ m. has m v) (put_same j (hi r j) (lo r)) ∙ e);
        low = λ j v h q e. (lo r, lo-fills, g, e);
      }
