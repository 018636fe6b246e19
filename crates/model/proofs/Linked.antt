-- Rules on one sensor's slot and two sets: when every choice of a live box is supported, by masks alone. Assumes nothing.
use Rattle.std.proofs.Common.{◌≡◌, ℕ, ◌<◌, Bool, true, false, sym, ap, ◌∙◌, subst, ap₂, inl, inr}
use Rattle.std.proofs.lemmas.Bool.{not-true, ltb-true, lt-ltb, eq-eqb, and_parts, cases_eq, and_from, not_from_false}
use Rattle.masks.specs.Masks.{has, within}
use Rattle.model.specs.Board.{Board}
use Rattle.model.specs.Box.{Box, Choice, Live, cand, hi, lo, offers, omitted, slotted, taken, uses}
use Rattle.model.specs.Layout.{Layout, set_of, slot_of}
use Rattle.model.specs.Tight.{Supported}
use Rattle.model.proofs.Boxes.{index_below, made}
use Rattle.model.proofs.Witness.{Fills, Picks, firsts, firsts-pick, hi-fills, lo-fills, put, put-fills, put_other, put-picks, put_same, set-made, slot-made, support}

-- a candidate w of sensor i and members p and q for the sets s and t, at which the rule holds
pub record Trio (ok : ℕ → ℕ → ℕ → Bool) (r : Box) (i s t w p q : ℕ) : Type 0 where
  pub pick : has (cand r i) w ≡ true
  pub over_s : within (lo r s) p ≡ true
  pub under_s : within p (hi r s) ≡ true
  pub over_t : within (lo r t) q ≡ true
  pub under_t : within q (hi r t) ≡ true
  pub holds : ok w p q ≡ true

abbrev pub Some : (ℕ → ℕ → ℕ → Bool) → Box → ℕ → ℕ → ℕ → (ℕ → ℕ → ℕ → Type 0) → Type 0
Some ok r i s t P = (w : ℕ) × (p : ℕ) × (q : ℕ) × Trio ok r i s t w p q × P w p q

-- a trio for every choice of the sensor's slot and of the two sets
pub record Linked (ok : ℕ → ℕ → ℕ → Bool) (r : Box) (i s t : ℕ) : Type 0 where
  pub slot : (w : ℕ) → has (cand r i) w ≡ true → (p : ℕ) × (q : ℕ) × Trio ok r i s t w p q
  pub top_s : (v : ℕ) → has (hi r s) v ≡ true → Some ok r i s t (λ w p q. has p v ≡ true)
  pub low_s : (v : ℕ) → has (lo r s) v ≡ false → Some ok r i s t (λ w p q. has p v ≡ false)
  pub top_t : (v : ℕ) → has (hi r t) v ≡ true → Some ok r i s t (λ w p q. has q v ≡ true)
  pub low_t : (v : ℕ) → has (lo r t) v ≡ false → Some ok r i s t (λ w p q. has q v ≡ false)

module _ (bd : Board) (some : 0 < bd.sensors) (r : Box) (lr : Live bd r) (ok : ℕ → ℕ → ℕ → Bool)
    (i s t : ℕ) (on-i : i < bd.sensors) (on-s : s < bd.sets) (on-t : t < bd.sets) (two : s ≡ t → ⊥) where
  abbrev rule : Layout → Bool
  rule y = ok (slot_of y i) (set_of y s) (set_of y t)

  abbrev sets : ℕ → ℕ → (ℕ → ℕ) → ℕ → ℕ
  sets p q g = put t q (put s p g)

  sets-s : (p q : ℕ) (g : ℕ → ℕ) → sets p q g s ≡ p
  sets-s p q g = put_other t q (put s p g) s two ∙ put_same s p g

  sets-t : (p q : ℕ) (g : ℕ → ℕ) → sets p q g t ≡ q
  sets-t p q g = put_same t q (put s p g)

  sets-there : (p q : ℕ) (g : ℕ → ℕ) (j : ℕ) → (j ≡ s → ⊥) → (j ≡ t → ⊥) → sets p q g j ≡ g j
  sets-there p q g j a b = put_other t q (put s p g) j b ∙ put_other s p g j a

  -- any slots and members for the others
  link : (f g : ℕ → ℕ) (p q : ℕ) → Picks bd some r f → Fills bd some r g → Trio ok r i s t (f i) p q
      → (c : Choice) → uses bd (made bd some f (sets p q g)) c ≡ true → Supported bd rule r c
  link f g p q pf fg o c u =
      let G = sets p q g in
      support bd some r lr rule f G pf
      (put-fills bd some r t q (put s p g) (put-fills bd some r s p g fg o.over_s o.under_s) o.over_t o.under_t)
      (ap (λ w. ok w (set_of (made bd some f G) s) (set_of (made bd some f G) t)) (slot-made bd some r f G i on-i)
      ∙ ap₂ (ok (f i)) (set-made bd some r f G s on-s ∙ sets-s p q g) (set-made bd some r f G t on-t ∙ sets-t p q g) ∙ o.holds)
      c u

  -- set j as asked: a trio where it is s or t, else the members that g has
  member : (g : ℕ → ℕ) → Fills bd some r g → (P : ℕ → Type 0) (j : ℕ) → j < bd.sets → Linked ok r i s t
      → (j ≡ s → Some ok r i s t (λ w p q. P p)) → (j ≡ t → Some ok r i s t (λ w p q. P q)) → P (g j)
      → (c : Choice) → ((x : Layout) → P (set_of x j) → uses bd x c ≡ true) → Supported bd rule r c
  member g fg P j h w at-s at-t at_g c u = elim (cases_eq j s) [
    | inl y ↦ let o = at-s y in build o.0 o.1 o.2 o.3 (subst P (sym (ap (sets o.1 o.2 g) y ∙ sets-s o.1 o.2 g)) o.4)
    | inr y ↦ elim (cases_eq j t) [
      | inl z ↦ let o = at-t z in build o.0 o.1 o.2 o.3 (subst P (sym (ap (sets o.1 o.2 g) z ∙ sets-t o.1 o.2 g)) o.4)
      | inr z ↦
          let v = firsts bd some r lr i in
          let o = w.slot v ((firsts-pick bd some r lr).pick i on-i) in
          build v o.0 o.1 o.2 (subst P (sym (sets-there o.0 o.1 g j y z)) at_g)
    ]
  ]
    where
      build : (v p q : ℕ) → Trio ok r i s t v p q → P (sets p q g j) → Supported bd rule r c
      build v p q o e =
          let f = put i v (firsts bd some r lr) in
          link f g p q (put-picks bd some r i v (firsts bd some r lr) (firsts-pick bd some r lr) o.pick) fg
          (subst (λ z. Trio ok r i s t z p q) (sym (put_same i v (firsts bd some r lr))) o)
          c (u _ (subst P (sym (set-made bd some r f (sets p q g) j h)) e))

  pub linked : Linked ok r i s t → (c : Choice) → offers bd r c ≡ true → Supported bd (λ y. ok (slot_of y i) (set_of y s) (set_of y t)) r c
  unfolding uses
  linked w (slotted k v) e =
      let h = index_below bd some r.cands bd.sensors k v lr.cands_many e in
      let f = put k v (firsts bd some r lr) in
      let pf = put-picks bd some r k v (firsts bd some r lr) (firsts-pick bd some r lr) e in
      let o = w.slot (f i) (pf.pick i on-i) in
      link f (lo r) o.0 o.1 pf (lo-fills bd some r lr) o.2 (slotted k v)
      (and_from _ _ (lt-ltb k bd.sensors h) (eq-eqb _ v (slot-made bd some r f (sets o.0 o.1 (lo r)) k h ∙ put_same k v (firsts bd some r lr))))
  linked w (taken j v) e =
      member (hi r) (hi-fills bd some r lr) (λ m. has m v ≡ true) j (index_below bd some r.highs bd.sets j v lr.highs_many e) w
      (λ y. w.top_s v (ap (λ k. has (hi r k) v) (sym y) ∙ e)) (λ z. w.top_t v (ap (λ k. has (hi r k) v) (sym z) ∙ e)) e (taken j v) (λ x u. u)
  linked w (omitted j v) e =
      let a = and_parts _ _ e in
      let n = not-true _ a.1 in
      member (lo r) (lo-fills bd some r lr) (λ m. has m v ≡ false) j (ltb-true j bd.sets (and_parts _ _ a.0).0) w
      (λ y. w.low_s v (ap (λ k. has (lo r k) v) (sym y) ∙ n)) (λ z. w.low_t v (ap (λ k. has (lo r k) v) (sym z) ∙ n)) n (omitted j v) (λ x u. and_from _ _ a.0 (not_from_false _ u))
