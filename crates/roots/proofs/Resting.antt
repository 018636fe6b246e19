-- What a box at rest under a Roots rule shows of each sensor. Assumes nothing.
use Rattle.std.proofs.Common.{◌≡◌, ℕ, ◌^◌, ◌<◌, Bool, true, false, cond, [], ◌∷◌, sym, ap, ◌∙◌, subst, inl, inr}
use Rattle.std.specs.List.{AllByRecursion}
use Rattle.std.proofs.lemmas.Bool.{both_ways, not-true, eqb-true, lt-ltb, and_parts, cases_Bool, and_from, not_from_false}
use Rattle.masks.specs.Masks.{has}
use Rattle.masks.proofs.Masks.{has-below, within_has}
use Rattle.model.specs.Board.{Board, room}
use Rattle.model.specs.Box.{Box, Choice, cand, choice, hi, lo, offers, omitted, slotted, taken, uses}
use Rattle.model.specs.Layout.{set_of, slot_of}
use Rattle.model.specs.Tight.{Supported}
use Rattle.model.proofs.Boxes.{choice-live, live-true}
use Rattle.model.proofs.Bundle.{each-still}
use Rattle.model.proofs.Lists.{mem-all}
use Rattle.model.proofs.Tight.{tightness}
use Rattle.roots.specs.Exact.{Resting}
use Rattle.roots.specs.Implications.{implication_run, implied}
use Rattle.roots.specs.Roots.{parts}
use Rattle.roots.proofs.Bools.{no, not-then, then}
use Rattle.roots.specs.Parts.{Rooted, each_at, each_laws, rooted}
use Rattle.roots.specs.declared.implication.Implication.TheVariants.{Excluded, Implies, ImpliedBy}
use Rattle.roots.specs.declared.roots.Roots.{Roots}

module _ (bd : Board) (some : 0 < bd.sensors) (r : Roots) (b : Box) (at : Resting bd r b) where
  abbrev g : ℕ
  g = r.g

  abbrev s : ℕ
  s = r.s

  abbrev t : ℕ
  t = r.t

  pub on : Rooted bd r
  on = rooted bd r at.fit

  -- no implication changes the box, so each supports each choice
  by_all : AllByRecursion (λ q. (c : Choice) → choice bd b c ≡ true → Supported bd (implied bd q) b c) (parts bd r)
  by_all = mem-all _ (parts bd r) (λ q m c e.
      (tightness bd some (implied bd q)).used b (inr at.live) c
      (ap (λ x. choice bd x c) (each-still bd some (implied bd) (implication_run bd) (parts bd r) (each_laws bd some (parts bd r)) b (inr at.live) at.still q m) ∙ e))

  by-own : (i : ℕ) → i < bd.sensors → (v : Bool) → has g i ≡ v
      → AllByRecursion (λ q. (c : Choice) → choice bd b c ≡ true → Supported bd (implied bd q) b c) (cond v (Implies i s t ∷ ImpliedBy i s t ∷ []) (Excluded i s ∷ []))
  by-own i h v e = subst (λ v. AllByRecursion (λ q. (c : Choice) → choice bd b c ≡ true → Supported bd (implied bd q) b c) (cond v (Implies i s t ∷ ImpliedBy i s t ∷ []) (Excluded i s ∷ []))) e
      (each_at _ r bd.sensors by_all i h)

  open-choice : (c : Choice) → offers bd b c ≡ true → choice bd b c ≡ true
  open-choice c e = choice-live bd some b (live-true bd some b at.live) c ∙ e

  pub room-s : room bd r.s ≡ bd.sensors
  room-s = ap (λ v. cond v bd.slots bd.sensors) on.sensors

  pub room-t : room bd r.t ≡ bd.slots
  room-t = ap (λ v. cond v bd.slots bd.sensors) on.slots

  pub in-high : (i : ℕ) → has (lo b r.s) i ≡ true → has (hi b r.s) i ≡ true
  in-high i e = within_has (lo b s) (hi b s) (at.live.bounds s on.first) i e

  pub high-sensor : (i : ℕ) → has (hi b r.s) i ≡ true → i < bd.sensors
  high-sensor i e = has-below bd.sensors (hi b s) i (subst (λ n. hi b s < 2 ^ n) room-s (at.live.highs_on s on.first)) e

  -- what may be in S is in G
  pub grouped : (i : ℕ) → has (hi b r.s) i ≡ true → has r.g i ≡ true
  unfolding uses
  grouped i e = elim (cases_Bool (has g i)) [
    | inl v ↦ v
    | inr v ↦
        let y = (by-own i (high-sensor i e) false v).0 (taken s i) (open-choice (taken s i) e) in
        absurd (both_ways _ (not-true _ y.3) y.4)
  ]

  module _ (i : ℕ) (h : i < bd.sensors) (m : has r.g i ≡ true) where
    there : (c : Choice) → offers bd b c ≡ true → Supported bd (implied bd (Implies i r.s r.t)) b c
    there c e = (by-own i h true m).0 c (open-choice c e)

    back : (c : Choice) → offers bd b c ≡ true → Supported bd (implied bd (ImpliedBy i r.s r.t)) b c
    back c e = (by-own i h true m).1.0 c (open-choice c e)

    -- surely in S: every candidate may be in T
    pub member-may : has (lo b r.s) i ≡ true → (w : ℕ) → has (cand b i) w ≡ true → has (hi b r.t) w ≡ true
    unfolding uses
    member-may e w c =
        let y = there (slotted i w) c in
        let z = eqb-true _ w (and_parts _ _ y.4).1 in
        within_has (set_of y.0 t) (hi b t) (y.2.under t on.second) w (subst (λ k. has (set_of y.0 t) k ≡ true) z (then _ _ y.3 (within_has (lo b s) (set_of y.0 s) (y.2.over s on.first) i e)))

    -- a candidate surely in T: it may be in S
    pub sure-member : (w : ℕ) → has (cand b i) w ≡ true → has (lo b r.t) w ≡ true → has (hi b r.s) i ≡ true
    unfolding uses
    sure-member w c e =
        let y = back (slotted i w) c in
        let z = eqb-true _ w (and_parts _ _ y.4).1 in
        within_has (set_of y.0 s) (hi b s) (y.2.under s on.first) i (then _ _ y.3 (subst (λ k. has (set_of y.0 t) k ≡ true) (sym z) (within_has (lo b t) (set_of y.0 t) (y.2.over t on.second) w e)))

    -- may be in S: some candidate may be in T
    pub joins : has (hi b r.s) i ≡ true → (u : ℕ) × (has (cand b i) u ≡ true) × (has (hi b r.t) u ≡ true)
    unfolding uses
    joins e =
        let y = there (taken s i) e in
        (slot_of y.0 i, y.2.slots_in i h, within_has (set_of y.0 t) (hi b t) (y.2.under t on.second) _ (then _ _ y.3 y.4))

    -- may be left out of S: some candidate may be left out of T
    pub leaves : has (lo b r.s) i ≡ false → (u : ℕ) × (has (cand b i) u ≡ true) × (has (lo b r.t) u ≡ false)
    unfolding uses
    leaves e =
        let y = back (omitted s i) (and_from _ _ (and_from _ _ (lt-ltb s bd.sets on.first) (lt-ltb i (room bd s) (subst (λ n. i < n) (sym room-s) h))) (not_from_false _ e)) in
        let z = not-then _ _ y.3 (not-true _ (and_parts _ _ y.4).1) in
        (slot_of y.0 i, y.2.slots_in i h, no _ (λ k. both_ways _ z (within_has (lo b t) (set_of y.0 t) (y.2.over t on.second) _ k)))

    -- surely not in S: a candidate besides any that may be in T
    pub dodges : has (hi b r.s) i ≡ false → (v : ℕ) → has (hi b r.t) v ≡ true → (u : ℕ) × (has (cand b i) u ≡ true) × (u ≡ v → ⊥)
    unfolding uses
    dodges e v k =
        let y = back (taken t v) k in
        let z = not-then _ _ y.3 (no _ (λ f. both_ways _ e (within_has (set_of y.0 s) (hi b s) (y.2.under s on.first) i f))) in
        (slot_of y.0 i, y.2.slots_in i h, λ q. both_ways _ z (ap (has (set_of y.0 t)) q ∙ y.4))

    -- surely in S: a candidate besides any that may be left out of T
    pub spares : has (lo b r.s) i ≡ true → (v : ℕ) → v < bd.slots → has (lo b r.t) v ≡ false → (u : ℕ) × (has (cand b i) u ≡ true) × (u ≡ v → ⊥)
    unfolding uses
    spares e v l k =
        let y = there (omitted t v) (and_from _ _ (and_from _ _ (lt-ltb t bd.sets on.second) (lt-ltb v (room bd t) (subst (λ n. v < n) (sym room-t) l))) (not_from_false _ k)) in
        let z = then _ _ y.3 (within_has (lo b s) (set_of y.0 s) (y.2.over s on.first) i e) in
        (slot_of y.0 i, y.2.slots_in i h, λ q. both_ways _ (not-true _ (and_parts _ _ y.4).1) (ap (has (set_of y.0 t)) (sym q) ∙ z))
