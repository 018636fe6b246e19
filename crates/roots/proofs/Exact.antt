-- Supports of a Roots rule in a box at rest: the cases in which each choice that is left has one. Assumes nothing.
use Rattle.std.proofs.Common.{◌≡◌, ℕ, ◌^◌, ◌<◌, Bool, true, false, cond, not, ◌&&◌, sym, refl, ap, ◌∙◌, subst, ap₂, inl, inr, arith}
use lib.Bits.{bit_or}
use Rattle.std.proofs.lemmas.Bool.{both_ways, not-true, ltb-true, eqb-true, lt-ltb, eq-eqb, and_parts, cases_eq, cases_Bool, and_from, and_left, and_right, or_cases, or_left, or_right, not_from_false, cond-true, cond-false}
use Rattle.masks.specs.Masks.{has, within, without}
use Rattle.masks.proofs.Counts.{first, first-has}
use Rattle.masks.proofs.Masks.{has-or, has-single, has-without, within_has}
use Rattle.masks.proofs.Subsets.{nonzero, single-has, single-other, single-within, within_all, within-or, within-or-l, within-self}
use Rattle.model.specs.Board.{Board, room}
use Rattle.model.specs.Box.{Box, Choice, Live, cand, hi, lo, offers, omitted, slotted, taken, uses}
use Rattle.model.specs.Layout.{Layout, set_of}
use Rattle.model.specs.Tight.{Supported, below, union}
use Rattle.model.proofs.Boxes.{choice-live, index_below, live-true, made}
use Rattle.model.proofs.Lists.{any-mem, any_some, below-mem, every-from, mem_below, union-has}
use Rattle.model.proofs.Witness.{Fills, Picks, firsts, firsts-pick, hi-fills, lo-fills, put, put-fills, put_other, put-picks, put_same, set-made, slot-made, support}
use Rattle.roots.specs.Exact.{DecidedExact, Exact, MembersSure, Resting, SlotsDecided}
use Rattle.roots.specs.Roots.{agree, roots_holds}
use Rattle.roots.proofs.Bools.{no}
use Rattle.roots.specs.Parts.{Rooted}
use Rattle.roots.proofs.Resting.{dodges, grouped, high-sensor, in-high, joins, leaves, member-may, on, room-s, room-t, sure-member}
use Rattle.roots.specs.declared.roots.Roots.{Roots}

-- ---- the numbers below n that pass, as a mask

gathered : (ℕ → Bool) → ℕ → ℕ
gathered p n = union (λ i. 2 ^ i) (below p n)

gathered-in : (p : ℕ → Bool) (n i : ℕ) → has (gathered p n) i ≡ true → (i < n) × (p i ≡ true)
unfolding gathered
gathered-in p n i e =
    let a = any_some (λ k. has (2 ^ k) i) (below p n) (sym (union-has (λ k. 2 ^ k) (below p n) i) ∙ e) in
    subst (λ k. (k < n) × (p k ≡ true)) (eqb-true a.0 i (sym (has-single a.0 i) ∙ a.2)) (below-mem p n a.0 a.1)

gathered-has : (p : ℕ → Bool) (n i : ℕ) → i < n → has (gathered p n) i ≡ p i
unfolding gathered
gathered-has p n i h = elim (cases_Bool (p i)) [
  | inl e ↦ union-has (λ k. 2 ^ k) (below p n) i ∙ any-mem (λ k. has (2 ^ k) i) (below p n) i (mem_below p n i h e) (single-has i) ∙ sym e
  | inr e ↦ no _ (λ q. both_ways _ e (gathered-in p n i q).1) ∙ sym e
]

agree-self : (p : Bool) → agree p p ≡ true
agree-self true = refl
agree-self false = refl

module _ (bd : Board) (some : 0 < bd.sensors) (r : Roots) (b : Box) (at : Resting bd r b) where
  abbrev l : Live bd b
  l = at.live

  abbrev o : Rooted bd r
  o = on bd some r b at

  apart : r.t ≡ r.s → ⊥
  apart e = both_ways (has bd.kinds r.s) o.sensors (ap (has bd.kinds) (sym e) ∙ o.slots)

  -- slots for the sensors and members for T, such that the sensors of G whose slot is in T are members that S may have
  record Tuned (f : ℕ → ℕ) (q : ℕ) : Type 0 where
    picks : Picks bd some b f
    over : within (lo b r.t) q ≡ true
    under : within q (hi b r.t) ≡ true
    lower : (i : ℕ) → i < bd.sensors → has (lo b r.s) i ≡ true → has q (f i) ≡ true
    upper : (i : ℕ) → i < bd.sensors → has r.g i ≡ true → has q (f i) ≡ true → has (hi b r.s) i ≡ true

  -- enough of them for all choices
  record Tunings : Type 0 where
    slot : (i w : ℕ) → i < bd.sensors → has (cand b i) w ≡ true → (f : ℕ → ℕ) × (q : ℕ) × Tuned f q × (f i ≡ w)
    top : (v : ℕ) → has (hi b r.t) v ≡ true → (f : ℕ → ℕ) × (q : ℕ) × Tuned f q × (has q v ≡ true)
    low : (v : ℕ) → v < bd.slots → has (lo b r.t) v ≡ false → (f : ℕ → ℕ) × (q : ℕ) × Tuned f q × (has q v ≡ false)
    joined : (i : ℕ) → has (hi b r.s) i ≡ true → (f : ℕ → ℕ) × (q : ℕ) × Tuned f q × (has q (f i) ≡ true)
    left : (i : ℕ) → i < bd.sensors → has r.g i ≡ true → has (lo b r.s) i ≡ false → (f : ℕ → ℕ) × (q : ℕ) × Tuned f q × (has q (f i) ≡ false)

  abbrev rooted-in : (ℕ → ℕ) → ℕ → ℕ → Bool
  rooted-in f q i = has r.g i && has q (f i)

  abbrev sets : (ℕ → ℕ) → ℕ → (ℕ → ℕ) → ℕ → ℕ
  sets f q g = put r.s (gathered (rooted-in f q) bd.sensors) (put r.t q g)

  sets-t : (f : ℕ → ℕ) (q : ℕ) (g : ℕ → ℕ) → sets f q g r.t ≡ q
  sets-t f q g = put_other r.s _ (put r.t q g) r.t apart ∙ put_same r.t q g

  sets-s : (f : ℕ → ℕ) (q : ℕ) (g : ℕ → ℕ) (i : ℕ) → i < bd.sensors → has (sets f q g r.s) i ≡ rooted-in f q i
  sets-s f q g i h = ap (λ m. has m i) (put_same r.s _ (put r.t q g)) ∙ gathered-has (rooted-in f q) bd.sensors i h

  sets-there : (f : ℕ → ℕ) (q : ℕ) (g : ℕ → ℕ) (j : ℕ) → (j ≡ r.s → ⊥) → (j ≡ r.t → ⊥) → sets f q g j ≡ g j
  sets-there f q g j a c = put_other r.s _ (put r.t q g) j a ∙ put_other r.t q g j c

  tuned : (f : ℕ → ℕ) (q : ℕ) → Tuned f q → (g : ℕ → ℕ) → Fills bd some b g → (c : Choice) → uses bd (made bd some f (sets f q g)) c ≡ true → Supported bd (roots_holds bd r) b c
  unfolding roots_holds
  tuned f q u g fg c e =
      let x = made bd some f (sets f q g) in
      support bd some b l (roots_holds bd r) f (sets f q g) u.picks
      (put-fills bd some b r.s _ (put r.t q g) (put-fills bd some b r.t q g fg u.over u.under)
      (within_all (lo b r.s) _ (λ i e.
      let m = in-high bd some r b at i e in
      let h = high-sensor bd some r b at i m in
      gathered-has (rooted-in f q) bd.sensors i h ∙ and_from _ _ (grouped bd some r b at i m) (u.lower i h e)))
      (within_all _ (hi b r.s) (λ i e.
      let p = gathered-in (rooted-in f q) bd.sensors i e in
      let m = and_parts (has r.g i) (has q (f i)) p.1 in
      u.upper i p.0 m.0 m.1)))
      (every-from _ bd.sensors (λ i h.
      ap₂ agree (ap (λ m. has m i) (set-made bd some b f (sets f q g) r.s o.first) ∙ sets-s f q g i h)
      (ap (λ z. has r.g i && z) (ap₂ has (set-made bd some b f (sets f q g) r.t o.second ∙ sets-t f q g) (slot-made bd some b f (sets f q g) i h)))
      ∙ agree-self (rooted-in f q i)))
      c e

  module _ (w : Tunings) where
    -- some slots and members
    any-tuned : (f : ℕ → ℕ) × (q : ℕ) × Tuned f q × (f 0 ≡ firsts bd some b l 0)
    any-tuned = w.slot 0 (firsts bd some b l 0) some ((firsts-pick bd some b l).pick 0 some)

    -- a set as asked
    with-set : (f : ℕ → ℕ) (q : ℕ) → Tuned f q → (g : ℕ → ℕ) → Fills bd some b g → (P : ℕ → Type 0) (j : ℕ) → j < bd.sets → P (sets f q g j)
        → (c : Choice) → ((x : Layout) → P (set_of x j) → uses bd x c ≡ true) → Supported bd (roots_holds bd r) b c
    with-set f q u g fg P j h e c k = tuned f q u g fg c (k _ (subst P (sym (set-made bd some b f (sets f q g) j h)) e))

    tuned-exact : Exact bd r b
    unfolding uses
    tuned-exact c e = go c (sym (choice-live bd some b (live-true bd some b l) c) ∙ e)
      where
        go : (c : Choice) → offers bd b c ≡ true → Supported bd (roots_holds bd r) b c
        go (slotted i v) e =
            let h = index_below bd some b.cands bd.sensors i v l.cands_many e in
            let a = w.slot i v h e in
            tuned a.0 a.1 a.2 (lo b) (lo-fills bd some b l) (slotted i v) (and_from _ _ (lt-ltb i bd.sensors h) (eq-eqb _ v (slot-made bd some b a.0 _ i h ∙ a.3)))
        go (taken j v) e =
            let h = index_below bd some b.highs bd.sets j v l.highs_many e in
            elim (cases_eq j r.s) [
              | inl y ↦
                  let m : has (hi b r.s) v ≡ true = ap (λ k. has (hi b k) v) (sym y) ∙ e in
                  let a = w.joined v m in
                  with-set a.0 a.1 a.2 (hi b) (hi-fills bd some b l) (λ z. has z v ≡ true) j h
                  (ap (λ k. has (sets a.0 a.1 (hi b) k) v) y ∙ sets-s a.0 a.1 (hi b) v (high-sensor bd some r b at v m) ∙ and_from _ _ (grouped bd some r b at v m) a.3)
                  (taken j v) (λ x u. u)
              | inr y ↦ elim (cases_eq j r.t) [
                | inl z ↦
                    let a = w.top v (ap (λ k. has (hi b k) v) (sym z) ∙ e) in
                    with-set a.0 a.1 a.2 (hi b) (hi-fills bd some b l) (λ z. has z v ≡ true) j h
                    (ap (λ m. has m v) (ap (sets a.0 a.1 (hi b)) z ∙ sets-t a.0 a.1 (hi b)) ∙ a.3) (taken j v) (λ x u. u)
                | inr z ↦
                    let a = any-tuned in
                    with-set a.0 a.1 a.2 (hi b) (hi-fills bd some b l) (λ z. has z v ≡ true) j h
                    (ap (λ m. has m v) (sets-there a.0 a.1 (hi b) j y z) ∙ e) (taken j v) (λ x u. u)
              ]
            ]
        go (omitted j v) e =
            let p = and_parts _ _ e in
            let d = and_parts _ _ p.0 in
            let h = ltb-true j bd.sets d.0 in
            let k = not-true _ p.1 in
            let leaving : (x : Layout) → has (set_of x j) v ≡ false → uses bd x (omitted j v) ≡ true = λ x u. and_from _ _ p.0 (not_from_false _ u) in
            elim (cases_eq j r.s) [
              | inl y ↦
                  let m : v < bd.sensors = subst (λ z. v < z) (ap (room bd) y ∙ room-s bd some r b at) (ltb-true v (room bd j) d.1) in
                  elim (cases_Bool (has r.g v)) [
                    | inl i ↦
                        let a = w.left v m i (ap (λ z. has (lo b z) v) (sym y) ∙ k) in
                        with-set a.0 a.1 a.2 (lo b) (lo-fills bd some b l) (λ z. has z v ≡ false) j h
                        (ap (λ z. has (sets a.0 a.1 (lo b) z) v) y ∙ sets-s a.0 a.1 (lo b) v m ∙ and_right _ _ a.3) (omitted j v) leaving
                    | inr i ↦
                        let a = any-tuned in
                        with-set a.0 a.1 a.2 (lo b) (lo-fills bd some b l) (λ z. has z v ≡ false) j h
                        (ap (λ z. has (sets a.0 a.1 (lo b) z) v) y ∙ sets-s a.0 a.1 (lo b) v m ∙ and_left _ _ i) (omitted j v) leaving
                  ]
              | inr y ↦ elim (cases_eq j r.t) [
                | inl z ↦
                    let a = w.low v (subst (λ q. v < q) (ap (room bd) z ∙ room-t bd some r b at) (ltb-true v (room bd j) d.1)) (ap (λ z. has (lo b z) v) (sym z) ∙ k) in
                    with-set a.0 a.1 a.2 (lo b) (lo-fills bd some b l) (λ z. has z v ≡ false) j h
                    (ap (λ m. has m v) (ap (sets a.0 a.1 (lo b)) z ∙ sets-t a.0 a.1 (lo b)) ∙ a.3) (omitted j v) leaving
                | inr z ↦
                    let a = any-tuned in
                    with-set a.0 a.1 a.2 (lo b) (lo-fills bd some b l) (λ z. has z v ≡ false) j h
                    (ap (λ m. has m v) (sets-there a.0 a.1 (lo b) j y z) ∙ k) (omitted j v) leaving
              ]
            ]

  -- ---- slots that are not v at some of the sensors

  avoid : (ℕ → Bool) → ℕ → ℕ → ℕ
  avoid which v k = cond (which k) (first bd.slots (without (cand b k) (2 ^ v))) (firsts bd some b l k)

  module _ (which : ℕ → Bool) (v : ℕ) (others : (k : ℕ) → k < bd.sensors → which k ≡ true → (u : ℕ) × (has (cand b k) u ≡ true) × (u ≡ v → ⊥)) where
    avoids : (k : ℕ) → k < bd.sensors → which k ≡ true → has (without (cand b k) (2 ^ v)) (avoid which v k) ≡ true
    unfolding avoid
    avoids k h e =
        let u = others k h e in
        let m = without (cand b k) (2 ^ v) in
        let z : has m u.0 ≡ true = has-without (cand b k) (2 ^ v) u.0 ∙ and_from _ _ u.1 (not_from_false _ (single-other v u.0 (λ y. u.2 (sym y)))) in
        ap (has m) (cond-true (which k) _ _ e) ∙ first-has bd.slots m (omega (arith, l.cands_on k h)) (nonzero m u.0 z)

    avoid-picks : Picks bd some b (avoid which v)
    unfolding avoid
    avoid-picks = record {
      pick = λ k h. elim (cases_Bool (which k)) [
        | inl e ↦ (and_parts _ _ (sym (has-without (cand b k) (2 ^ v) (avoid which v k)) ∙ avoids k h e)).0
        | inr e ↦ ap (has (cand b k)) (cond-false (which k) _ _ e) ∙ (firsts-pick bd some b l).pick k h
      ];
    }

    avoid-not : (k : ℕ) → k < bd.sensors → which k ≡ true → avoid which v k ≡ v → ⊥
    avoid-not k h e z =
        both_ways _ (not-true _ (and_parts _ _ (sym (has-without (cand b k) (2 ^ v) (avoid which v k)) ∙ avoids k h e)).1) (ap (has (2 ^ v)) z ∙ single-has v)

  single-is : (u w : ℕ) → has (2 ^ u) w ≡ true → w ≡ u
  single-is u w e = sym (eqb-true u w (sym (has-single u w) ∙ e))

  placed : (i w : ℕ) → has (cand b i) w ≡ true → Picks bd some b (put i w (firsts bd some b l))
  placed i w e = put-picks bd some b i w (firsts bd some b l) (firsts-pick bd some b l) e

  -- ---- each sensor surely in S has all its candidates surely in T

  module _ (sure : MembersSure bd r b) where
    low-tuned : (f : ℕ → ℕ) → Picks bd some b f → Tuned f (lo b r.t)
    low-tuned f p = record {
      picks = p;
      over = within-self (lo b r.t);
      under = l.bounds r.t o.second;
      lower = λ i h e. within_has (cand b i) (lo b r.t) (sure i h e) (f i) (p.pick i h);
      upper = λ i h m e. sure-member bd some r b at i h m (f i) (p.pick i h) e;
    }

    abbrev more : ℕ → ℕ
    more u = bit_or (lo b r.t) (2 ^ u)

    more-has : (u : ℕ) → has (more u) u ≡ true
    more-has u = has-or (lo b r.t) (2 ^ u) u ∙ or_right _ _ (single-has u)

    abbrev outside : ℕ → Bool
    outside k = has r.g k && not (has (hi b r.s) k)

    -- T takes u too: no sensor of G outside S may stand there
    more-tuned : (u : ℕ) → has (hi b r.t) u ≡ true → (f : ℕ → ℕ) → Picks bd some b f → ((k : ℕ) → k < bd.sensors → outside k ≡ true → f k ≡ u → ⊥) → Tuned f (more u)
    more-tuned u q f p none = record {
      picks = p;
      over = within-or-l (lo b r.t) (2 ^ u);
      under = within-or (lo b r.t) (2 ^ u) (hi b r.t) (l.bounds r.t o.second) (single-within u (hi b r.t) q);
      lower = λ i h e. has-or (lo b r.t) (2 ^ u) (f i) ∙ or_left _ _ (within_has (cand b i) (lo b r.t) (sure i h e) (f i) (p.pick i h));
      upper = λ i h m e. elim (or_cases _ _ (sym (has-or (lo b r.t) (2 ^ u) (f i)) ∙ e)) [
        | inl z ↦ sure-member bd some r b at i h m (f i) (p.pick i h) z
        | inr z ↦ elim (cases_Bool (has (hi b r.s) i)) [
          | inl y ↦ y
          | inr y ↦ absurd (none i h (and_from _ _ m (not_from_false _ y)) (single-is u (f i) z))
        ]
      ];
    }

    off-members : (u : ℕ) → has (hi b r.t) u ≡ true → (k : ℕ) → k < bd.sensors → outside k ≡ true → (w : ℕ) × (has (cand b k) w ≡ true) × (w ≡ u → ⊥)
    off-members u q k h e = let p = and_parts _ _ e in dodges bd some r b at k h p.0 (not-true _ p.1) u q

    members-tunings : Tunings
    members-tunings = record {
      slot = λ i w h e. (put i w (firsts bd some b l), lo b r.t, low-tuned _ (placed i w e), put_same i w (firsts bd some b l));
      top = λ v h. (avoid outside v, more v, more-tuned v h _ (avoid-picks outside v (off-members v h)) (avoid-not outside v (off-members v h)), more-has v);
      low = λ v h e. (firsts bd some b l, lo b r.t, low-tuned _ (firsts-pick bd some b l), e);
      joined = λ i e.
          let j = joins bd some r b at i (high-sensor bd some r b at i e) (grouped bd some r b at i e) e in
          let u = j.0 in
          let f = avoid outside u in (
            put i u f,
            more u,
            more-tuned u j.2 (put i u f) (put-picks bd some b i u f (avoid-picks outside u (off-members u j.2)) j.1)
                (λ k h y z. elim (cases_eq k i) [
                  | inl q ↦ both_ways _ (not-true _ (and_parts _ _ y).1) (ap (has (hi b r.s)) q ∙ e)
                  | inr q ↦ avoid-not outside u (off-members u j.2) k h y (sym (put_other i u f k q) ∙ z)
                ]),
            ap (has (more u)) (put_same i u f) ∙ more-has u,
          );
      left = λ i h m e.
          let j = leaves bd some r b at i h m e in
          (put i j.0 (firsts bd some b l), lo b r.t, low-tuned _ (placed i j.0 j.1), ap (has (lo b r.t)) (put_same i j.0 (firsts bd some b l)) ∙ j.2);
    }

    members-exact : Exact bd r b
    members-exact = tuned-exact members-tunings

  -- ---- at rest, decided slots make the members sure

  slots-sure : SlotsDecided bd r b → MembersSure bd r b
  slots-sure d i h e = within_all (cand b i) (lo b r.t) (λ w c.
      ap (λ m. has m w) (eqb-true (lo b r.t) (hi b r.t) d) ∙ member-may bd some r b at i h (grouped bd some r b at i (in-high bd some r b at i e)) e w c)

pub decided-exact : DecidedExact
decided-exact bd some r b at = record {
  slots_decided = λ d. members-exact bd some r b at (slots-sure bd some r b at d);
}
