-- The planner's boxes and layouts are a space of choices. Assumes nothing.
use Rattle.std.proofs.Common.{◌≡◌, ℕ, zero, suc, ◌^◌, ◌<◌, ◌≤◌, Bool, true, false, cond, not, ◌&&◌, ◌||◌, eqb, ltb, List, [], ◌∷◌, length, get_or, replicate, sym, refl, ap, ◌∙◌, subst, ap₂, inl, inr, arith}
use mathlib.Core.Bool.{false≢true}
use lib.ListN.{length-replicate, get_or-replicate}
use lib.Pow.{pow-lt}
use Rattle.std.specs.List.{AllByRecursion}
use Rattle.std.proofs.lemmas.Bool.{both_ways, not-true, ltb-true, eqb-true, lt-ltb, le-ltb, eq-eqb, cases_lt, and_parts, cases_Bool, and_from, and_left, not_from_false, cond-true, cond-false}
use Rattle.std.proofs.lemmas.List.{ext_get_or, get_or_past}
use Rattle.masks.specs.Masks.{has, within}
use Rattle.masks.proofs.Counts.{first, first-has}
use Rattle.masks.proofs.Masks.{has-below, has_same, has-single, has-zero, within-from, within_has}
use Rattle.masks.proofs.Subsets.{nonzero, within-le, within-self}
use Rattle.model.specs.Board.{Board, room}
use Rattle.model.specs.Box.{Box, Choice, In, Kept, Live, cand, choice, dead, every, hi, live, lo, offers, omitted, slotted, tab, taken, uses}
use Rattle.model.specs.Calls.{Mem}
use Rattle.model.specs.Layout.{Layout, On, layout, set_of, slot_of}
use Rattle.model.specs.Tight.{choose, hull, layouts, sets_of, shared, slots_of, union}
use Rattle.model.proofs.Lists.{all, all-mem, any, any-mem, below-mem, choose-mem, every-at, every-from, mem_below, mem-choose, mem-pairs, not-all, pairs-mem, shared-below, shared_has, tab-at, tab-length, union-below, union-has}
use Rattle.model.proofs.Space.{Space}

pub turned : (p q : Bool) → (p ≡ true → q ≡ true) → not q ≡ true → not p ≡ true
turned true q f e = ap not (sym (f refl)) ∙ e
turned false q f e = refl

pub not_same : (p q : Bool) → not p ≡ not q → p ≡ q
not_same true true e = refl
not_same false false e = refl
not_same true false e = sym e
not_same false true e = sym e

any_same : {X : Type 0} (p q : X → Bool) (xs : List X) → ((x : X) → Mem x xs → p x ≡ q x) → any p xs ≡ any q xs
any_same p q [] f = refl
any_same p q (x ∷ xs) f = ap₂ (λ s t. s || t) (f x (inl refl)) (any_same p q xs (λ y m. f y (inr m)))

any_none : {X : Type 0} (p : X → Bool) (xs : List X) → ((x : X) → Mem x xs → p x ≡ false) → any p xs ≡ false
any_none p [] f = refl
any_none p (x ∷ xs) f = ap₂ (λ s t. s || t) (f x (inl refl)) (any_none p xs (λ y m. f y (inr m)))

all-at : {X : Type 0} (p : X → Bool) (x : X) (xs : List X) → all p (x ∷ xs) ≡ true → p x ≡ true
all-at p x xs e = (and_parts (p x) (all p xs) e).0

tab-zero : (n : ℕ) → tab {X = ℕ} (λ i. 0) n ≡ replicate n 0
unfolding tab
tab-zero zero = refl
tab-zero (suc n) = ap (λ xs. 0 ∷ xs) (tab-zero n)

module _ (bd : Board) (some : 0 < bd.sensors) where
  pub live-true : (b : Box) → Live bd b → live bd b ≡ true
  unfolding live
  live-true b l = and_from _ _ (every-from _ bd.sensors (λ i h. not_from_false _ (l.some i h))) (every-from _ bd.sets (λ j h. l.bounds j h))

  pub live-zero : (b : Box) → cand b 0 ≡ 0 → live bd b ≡ false
  unfolding live
  live-zero b z = elim (cases_Bool (every (λ i. not (eqb (cand b i) 0)) bd.sensors)) [
    | inl e ↦ absurd (both_ways (eqb (cand b 0) 0) (not-true _ (every-at _ bd.sensors e 0 some)) (eq-eqb (cand b 0) 0 z))
    | inr e ↦ and_left _ _ e
  ]

  pub dead-cand : cand (dead bd) 0 ≡ 0
  unfolding dead
  dead-cand = get_or-replicate bd.sensors 0 0 0 some

  pub dead-long : (i : ℕ) → i < bd.sensors → i < length (dead bd).cands
  unfolding dead
  dead-long i h = omega (arith, length-replicate {A = ℕ} bd.sensors 0)

  pub live-dead : live bd (dead bd) ≡ false
  live-dead = live-zero (dead bd) dead-cand

  pub choice-live : (b : Box) → live bd b ≡ true → (c : Choice) → choice bd b c ≡ offers bd b c
  unfolding choice
  choice-live b e c = ap (λ t. t && offers bd b c) e

  pub choice-not : (b : Box) → live bd b ≡ false → (c : Choice) → choice bd b c ≡ false
  unfolding choice
  choice-not b e c = ap (λ t. t && offers bd b c) e

  pub lay-mem : (b : Box) (x : Layout) → Mem x (layouts bd b) → On bd x × In bd x b
  unfolding layouts
  lay-mem b x m =
      let p = pairs-mem x (choose (slots_of bd b) bd.sensors) (choose (sets_of bd b) bd.sets) m in
      let s = choose-mem (slots_of bd b) bd.sensors x.slot p.0 in
      let t = choose-mem (sets_of bd b) bd.sets x.members p.1 in
      let at : (j : ℕ) → j < bd.sets → (set_of x j < 2 ^ room bd j) × ((within (lo b j) (set_of x j) && within (set_of x j) (hi b j)) ≡ true) =
      λ j h. below-mem (λ y. within (lo b j) y && within y (hi b j)) (2 ^ room bd j) (set_of x j) (t.1 j h) in (
        record { slots_many = s.0; sets_many = t.0; slots_on = λ i h. (below-mem (has (cand b i)) bd.slots (slot_of x i) (s.1 i h)).0; sets_on = λ j h. (at j h).0 },
        record { slots_in = λ i h. (below-mem (has (cand b i)) bd.slots (slot_of x i) (s.1 i h)).1; over = λ j h. (and_parts _ _ (at j h).1).0; under = λ j h. (and_parts _ _ (at j h).1).1 },
      )

  pub mem-lay : (b : Box) (x : Layout) → On bd x → In bd x b → Mem x (layouts bd b)
  unfolding layouts
  mem-lay b x o i =
      mem-pairs x.slot x.members (choose (slots_of bd b) bd.sensors) (choose (sets_of bd b) bd.sets)
      (mem-choose (slots_of bd b) bd.sensors x.slot o.slots_many (λ k h. mem_below (has (cand b k)) bd.slots (slot_of x k) (o.slots_on k h) (i.slots_in k h)))
      (mem-choose (sets_of bd b) bd.sets x.members o.sets_many (λ j h. mem_below (λ y. within (lo b j) y && within y (hi b j)) (2 ^ room bd j) (set_of x j) (o.sets_on j h) (and_from _ _ (i.over j h) (i.under j h))))

  pub set_below : (x : Layout) (j v : ℕ) → On bd x → has (set_of x j) v ≡ true → j < bd.sets
  set_below x j v o e = elim (cases_lt j bd.sets) [
    | inl h ↦ h
    | inr h ↦ absurd (false≢true (sym (has-zero v) ∙ ap (λ m. has m v) (sym (get_or_past x.members j 0 (omega (arith, o.sets_many)))) ∙ e))
  ]

  pub in-uses : (b : Box) (x : Layout) → Live bd b → On bd x → In bd x b → (c : Choice) → uses bd x c ≡ true → choice bd b c ≡ true
  unfolding uses
  in-uses b x l o n (slotted i s) u =
      let p = and_parts _ _ u in
      choice-live b (live-true b l) (slotted i s) ∙ ap (has (cand b i)) (sym (eqb-true (slot_of x i) s p.1)) ∙ n.slots_in i (ltb-true i bd.sensors p.0)
  in-uses b x l o n (taken j v) u =
      choice-live b (live-true b l) (taken j v) ∙ within_has (set_of x j) (hi b j) (n.under j (set_below x j v o u)) v u
  in-uses b x l o n (omitted j v) u =
      let p = and_parts _ _ u in
      let q = and_parts _ _ p.0 in
      choice-live b (live-true b l) (omitted j v) ∙ and_from _ _ p.0
      (turned (has (lo b j) v) (has (set_of x j) v) (within_has (lo b j) (set_of x j) (n.over j (ltb-true j bd.sets q.0)) v) p.1)

  pub uses-in : (b : Box) (x : Layout) → Live bd b → On bd x → ((c : Choice) → uses bd x c ≡ true → choice bd b c ≡ true) → In bd x b
  unfolding uses
  uses-in b x l o f =
      let g : (c : Choice) → uses bd x c ≡ true → offers bd b c ≡ true = λ c u. sym (choice-live b (live-true b l) c) ∙ f c u in
      record {
        slots_in = λ i h. g (slotted i (slot_of x i)) (and_from _ _ (lt-ltb i bd.sensors h) (eq-eqb (slot_of x i) (slot_of x i) refl));
        over = λ j h. within-from (room bd j) (lo b j) (set_of x j) (omega (arith, within-le (lo b j) (hi b j) (l.bounds j h), l.highs_on j h))
            (λ v r e. elim (cases_Bool (has (set_of x j) v)) [
              | inl t ↦ t
              | inr t ↦ absurd (both_ways (has (lo b j) v)
                  (not-true _ (and_parts _ _ (g (omitted j v) (and_from _ _ (and_from _ _ (lt-ltb j bd.sets h) (lt-ltb v (room bd j) r)) (not_from_false _ t)))).1) e)
            ]);
        under = λ j h. within-from (room bd j) (set_of x j) (hi b j) (o.sets_on j h) (λ v r e. g (taken j v) e);
      }

  dead-uses : (x : Layout) → ((c : Choice) → uses bd x c ≡ true → choice bd (dead bd) c ≡ true) → ⊥
  unfolding uses
  dead-uses x f =
      let c = slotted 0 (slot_of x 0) in
      both_ways (choice bd (dead bd) c) (choice-not (dead bd) live-dead c)
      (f c (and_from _ _ (lt-ltb 0 bd.sensors some) (eq-eqb (slot_of x 0) (slot_of x 0) refl)))

  dead-lay : (x : Layout) → Mem x (layouts bd (dead bd)) → ⊥
  dead-lay x m =
      let i = (lay-mem (dead bd) x m).1 in
      false≢true (sym (has-zero (slot_of x 0)) ∙ ap (λ m. has m (slot_of x 0)) (sym dead-cand) ∙ i.slots_in 0 some)

  -- a layout made from a function for the slots and one for the sets
  unfoldable pub made : (ℕ → ℕ) → (ℕ → ℕ) → Layout
  made f g = layout (tab f bd.sensors) (tab g bd.sets)

  pub made-mem : (b : Box) → Live bd b → (f g : ℕ → ℕ) → ((i : ℕ) → i < bd.sensors → has (cand b i) (f i) ≡ true)
      → ((j : ℕ) → j < bd.sets → within (lo b j) (g j) ≡ true) → ((j : ℕ) → j < bd.sets → within (g j) (hi b j) ≡ true)
      → Mem (made f g) (layouts bd b)
  unfolding made
  made-mem b l f g hf hl hh =
      let s : (i : ℕ) → i < bd.sensors → get_or (tab f bd.sensors) i 0 ≡ f i = λ i h. tab-at f bd.sensors i 0 h in
      let t : (j : ℕ) → j < bd.sets → get_or (tab g bd.sets) j 0 ≡ g j = λ j h. tab-at g bd.sets j 0 h in
      mem-lay b (layout (tab f bd.sensors) (tab g bd.sets))
      (record {
        slots_many = tab-length f bd.sensors;
        sets_many = tab-length g bd.sets;
        slots_on = λ i h. subst (λ n. n < bd.slots) (sym (s i h)) (has-below bd.slots (cand b i) (f i) (l.cands_on i h) (hf i h));
        sets_on = λ j h. subst (λ n. n < 2 ^ room bd j) (sym (t j h)) (omega (arith, within-le (g j) (hi b j) (hh j h), l.highs_on j h));
      })
      (record {
        slots_in = λ i h. subst (λ n. has (cand b i) n ≡ true) (sym (s i h)) (hf i h);
        over = λ j h. subst (λ n. within (lo b j) n ≡ true) (sym (t j h)) (hl j h);
        under = λ j h. subst (λ n. within n (hi b j) ≡ true) (sym (t j h)) (hh j h);
      })

  pub index_below : (xs : List ℕ) (n i v : ℕ) → length xs ≡ n → has (get_or xs i 0) v ≡ true → i < n
  index_below xs n i v e h = elim (cases_lt i n) [
    | inl l ↦ l
    | inr l ↦ absurd (false≢true (sym (has-zero v) ∙ ap (λ m. has m v) (sym (get_or_past xs i 0 (omega arith))) ∙ h))
  ]

  pub live-each : (b : Box) → Live bd b → (c : Choice) → offers bd b c ≡ true → (x : Layout) × Mem x (layouts bd b) × (uses bd x c ≡ true)
  unfolding uses made
  live-each b l (slotted i s) e =
      let n = index_below b.cands bd.sensors i s l.cands_many e in
      let f : ℕ → ℕ = λ k. cond (eqb k i) s (first bd.slots (cand b k)) in
      let hf : (k : ℕ) → k < bd.sensors → has (cand b k) (f k) ≡ true = λ k h.
      elim (cases_Bool (eqb k i)) [
        | inl q ↦ ap (has (cand b k)) (cond-true (eqb k i) _ _ q) ∙ ap (λ m. has (cand b m) s) (eqb-true k i q) ∙ e
        | inr q ↦ ap (has (cand b k)) (cond-false (eqb k i) _ _ q) ∙ first-has bd.slots (cand b k) (l.cands_on k h) (l.some k h)
      ] in
      let at : f i ≡ s = cond-true (eqb i i) s _ (eq-eqb i i refl) in (
        made f (lo b),
        made-mem b l f (lo b) hf (λ j h. within-self (lo b j)) (λ j h. l.bounds j h),
        and_from _ _ (lt-ltb i bd.sensors n) (eq-eqb _ s (tab-at f bd.sensors i 0 n ∙ at)),
      )
  live-each b l (taken j v) e =
      let n = index_below b.highs bd.sets j v l.highs_many e in
      let f : ℕ → ℕ = λ k. first bd.slots (cand b k) in (
        made f (hi b),
        made-mem b l f (hi b) (λ k h. first-has bd.slots (cand b k) (l.cands_on k h) (l.some k h)) (λ j h. l.bounds j h) (λ j h. within-self (hi b j)),
        ap (λ m. has m v) (tab-at (hi b) bd.sets j 0 n) ∙ e,
      )
  live-each b l (omitted j v) e =
      let p = and_parts _ _ e in
      let n = ltb-true j bd.sets (and_parts _ _ p.0).0 in
      let f : ℕ → ℕ = λ k. first bd.slots (cand b k) in (
        made f (lo b),
        made-mem b l f (lo b) (λ k h. first-has bd.slots (cand b k) (l.cands_on k h) (l.some k h)) (λ j h. within-self (lo b j)) (λ j h. l.bounds j h),
        and_from _ _ p.0 (ap (λ m. not (has m v)) (tab-at (lo b) bd.sets j 0 n) ∙ p.1),
      )

  -- ---- the hull

  abbrev slot-bit : ℕ → Layout → ℕ
  slot-bit i x = 2 ^ slot_of x i

  hull-cand : (xs : List Layout) (i : ℕ) → i < bd.sensors → cand (hull bd xs) i ≡ union (λ x. 2 ^ slot_of x i) xs
  unfolding hull
  hull-cand xs i h = tab-at (λ i. union (λ x. 2 ^ slot_of x i) xs) bd.sensors i 0 h

  hull-lo : (xs : List Layout) (j : ℕ) → j < bd.sets → lo (hull bd xs) j ≡ shared (λ x. set_of x j) xs
  unfolding hull
  hull-lo xs j h = tab-at (λ j. shared (λ x. set_of x j) xs) bd.sets j 0 h

  hull-hi : (xs : List Layout) (j : ℕ) → j < bd.sets → hi (hull bd xs) j ≡ union (λ x. set_of x j) xs
  unfolding hull
  hull-hi xs j h = tab-at (λ j. union (λ x. set_of x j) xs) bd.sets j 0 h

  hull-cand-past : (xs : List Layout) (i : ℕ) → bd.sensors ≤ i → cand (hull bd xs) i ≡ 0
  unfolding hull
  hull-cand-past xs i h = get_or_past (tab (λ i. union (λ x. 2 ^ slot_of x i) xs) bd.sensors) i 0 (omega (arith, tab-length (λ i. union (λ x. 2 ^ slot_of x i) xs) bd.sensors))

  hull-hi-past : (xs : List Layout) (j : ℕ) → bd.sets ≤ j → hi (hull bd xs) j ≡ 0
  unfolding hull
  hull-hi-past xs j h = get_or_past (tab (λ j. union (λ x. set_of x j) xs) bd.sets) j 0 (omega (arith, tab-length (λ j. union (λ x. set_of x j) xs) bd.sets))

  hull-cands-many : (xs : List Layout) → length (hull bd xs).cands ≡ bd.sensors
  unfolding hull
  hull-cands-many xs = tab-length (λ i. union (λ x. 2 ^ slot_of x i) xs) bd.sensors

  hull-lows-many : (xs : List Layout) → length (hull bd xs).lows ≡ bd.sets
  unfolding hull
  hull-lows-many xs = tab-length (λ j. shared (λ x. set_of x j) xs) bd.sets

  hull-highs-many : (xs : List Layout) → length (hull bd xs).highs ≡ bd.sets
  unfolding hull
  hull-highs-many xs = tab-length (λ j. union (λ x. set_of x j) xs) bd.sets

  hull-live : (x : Layout) (xs : List Layout) → AllByRecursion (On bd) (x ∷ xs) → Live bd (hull bd (x ∷ xs))
  hull-live x xs o =
      let ys = x ∷ xs in
      let on : (y : Layout) → Mem y ys → On bd y = all-mem (On bd) ys o in
      record {
        cands_many = hull-cands-many ys;
        lows_many = hull-lows-many ys;
        highs_many = hull-highs-many ys;
        cands_on = λ i h. subst (λ n. n < 2 ^ bd.slots) (sym (hull-cand ys i h)) (union-below (λ x. 2 ^ slot_of x i) bd.slots ys (λ y m. pow-lt ((on y m).slots_on i h)));
        highs_on = λ j h. subst (λ n. n < 2 ^ room bd j) (sym (hull-hi ys j h)) (union-below (λ x. set_of x j) (room bd j) ys (λ y m. (on y m).sets_on j h));
        some = λ i h. nonzero _ (slot_of x i) (ap (λ n. has n (slot_of x i)) (hull-cand ys i h) ∙ union-has (λ x. 2 ^ slot_of x i) ys (slot_of x i)
            ∙ any-mem (λ y. has (2 ^ slot_of y i) (slot_of x i)) ys x (inl refl) (has-single (slot_of x i) (slot_of x i) ∙ eq-eqb (slot_of x i) (slot_of x i) refl));
        bounds = λ j h. ap₂ within (hull-lo ys j h) (hull-hi ys j h) ∙ within-from (room bd j) (shared (λ x. set_of x j) ys) (union (λ x. set_of x j) ys)
            (shared-below (λ x. set_of x j) (room bd j) ys (λ y m. (on y m).sets_on j h))
            (λ v r e. union-has (λ x. set_of x j) ys v ∙ any-mem (λ y. has (set_of y j) v) ys x (inl refl)
            (all-at (λ y. has (set_of y j) v) x xs (sym (shared_has (λ y. set_of y j) x xs v) ∙ e)));
      }

  hull-none : hull bd [] ≡ dead bd
  unfolding hull dead union shared
  hull-none = λ i. record { cands = tab-zero bd.sensors i; lows = tab-zero bd.sets i; highs = tab-zero bd.sets i }

  hull-offers : (x : Layout) (xs : List Layout) → AllByRecursion (On bd) (x ∷ xs) → (c : Choice) → offers bd (hull bd (x ∷ xs)) c ≡ any (λ y. uses bd y c) (x ∷ xs)
  unfolding uses
  hull-offers x xs o (slotted i s) =
      let ys = x ∷ xs in
      elim (cases_lt i bd.sensors) [
        | inl h ↦ ap (λ n. has n s) (hull-cand ys i h) ∙ union-has (λ y. 2 ^ slot_of y i) ys s
            ∙ any_same (λ y. has (2 ^ slot_of y i) s) (λ y. ltb i bd.sensors && eqb (slot_of y i) s) ys
            (λ y m. has-single (slot_of y i) s ∙ sym (ap (λ t. t && eqb (slot_of y i) s) (lt-ltb i bd.sensors h)))
        | inr h ↦ ap (λ n. has n s) (hull-cand-past ys i h) ∙ has-zero s
            ∙ sym (any_none (λ y. ltb i bd.sensors && eqb (slot_of y i) s) ys (λ y m. and_left _ _ (le-ltb i bd.sensors h)))
      ]
  hull-offers x xs o (taken j v) =
      let ys = x ∷ xs in
      elim (cases_lt j bd.sets) [
        | inl h ↦ ap (λ n. has n v) (hull-hi ys j h) ∙ union-has (λ y. set_of y j) ys v
        | inr h ↦ ap (λ n. has n v) (hull-hi-past ys j h) ∙ has-zero v
            ∙ sym (any_none (λ y. has (set_of y j) v) ys (λ y m. ap (λ n. has n v) (get_or_past y.members j 0 (omega (arith, (all-mem (On bd) ys o y m).sets_many))) ∙ has-zero v))
      ]
  hull-offers x xs o (omitted j v) =
      let ys = x ∷ xs in
      elim (cases_Bool (ltb j bd.sets && ltb v (room bd j))) [
        | inl e ↦
            let h = ltb-true j bd.sets (and_parts _ _ e).0 in
            ap₂ (λ s t. s && t) e (ap (λ n. not (has n v)) (hull-lo ys j h) ∙ ap not (shared_has (λ y. set_of y j) x xs v) ∙ not-all (λ y. has (set_of y j) v) ys)
            ∙ any_same (λ y. not (has (set_of y j) v)) (λ y. (ltb j bd.sets && ltb v (room bd j)) && not (has (set_of y j) v)) ys
            (λ y m. sym (ap (λ t. t && not (has (set_of y j) v)) e))
        | inr e ↦ and_left _ _ e
            ∙ sym (any_none (λ y. (ltb j bd.sets && ltb v (room bd j)) && not (has (set_of y j) v)) ys (λ y m. and_left _ _ e))
      ]

  hull-choice : (xs : List Layout) → AllByRecursion (On bd) xs → (c : Choice) → choice bd (hull bd xs) c ≡ any (λ y. uses bd y c) xs
  hull-choice [] o c = choice-not (hull bd []) (ap (live bd) hull-none ∙ live-dead) c
  hull-choice (x ∷ xs) o c = choice-live (hull bd (x ∷ xs)) (live-true _ (hull-live x xs o)) c ∙ hull-offers x xs o c

  hull-kept : (xs : List Layout) → AllByRecursion (On bd) xs → Kept bd (hull bd xs)
  hull-kept [] o = inl hull-none
  hull-kept (x ∷ xs) o = inr (hull-live x xs o)

  -- ---- boxes with the same choices are one

  pub lo-below : (b : Box) → Live bd b → (j : ℕ) → j < bd.sets → lo b j < 2 ^ room bd j
  lo-below b l j h = omega (arith, within-le (lo b j) (hi b j) (l.bounds j h), l.highs_on j h)

  live-one : (a b : Box) → Live bd a → Live bd b → ((c : Choice) → offers bd a c ≡ offers bd b c) → a ≡ b
  live-one a b la lb f =
      let cs : a.cands ≡ b.cands = ext_get_or 0 a.cands b.cands (la.cands_many ∙ sym lb.cands_many) (λ i h.
      let n : i < bd.sensors = omega (arith, la.cands_many) in
      has_same bd.slots (cand a i) (cand b i) (la.cands_on i n) (lb.cands_on i n) (λ s _. f (slotted i s))) in
      let ls : a.lows ≡ b.lows = ext_get_or 0 a.lows b.lows (la.lows_many ∙ sym lb.lows_many) (λ j h.
      let n : j < bd.sets = omega (arith, la.lows_many) in
      has_same (room bd j) (lo a j) (lo b j) (lo-below a la j n) (lo-below b lb j n) (λ v r.
      let e : (ltb j bd.sets && ltb v (room bd j)) ≡ true = and_from _ _ (lt-ltb j bd.sets n) (lt-ltb v (room bd j) r) in
      not_same (has (lo a j) v) (has (lo b j) v)
      (sym (ap (λ t. t && not (has (lo a j) v)) e) ∙ f (omitted j v) ∙ ap (λ t. t && not (has (lo b j) v)) e))) in
      let hs : a.highs ≡ b.highs = ext_get_or 0 a.highs b.highs (la.highs_many ∙ sym lb.highs_many) (λ j h.
      let n : j < bd.sets = omega (arith, la.highs_many) in
      has_same (room bd j) (hi a j) (hi b j) (la.highs_on j n) (lb.highs_on j n) (λ v _. f (taken j v))) in
      λ i. record { cands = cs i; lows = ls i; highs = hs i }

  pub live-choice : (b : Box) → Live bd b → choice bd b (slotted 0 (first bd.slots (cand b 0))) ≡ true
  live-choice b l = choice-live b (live-true b l) _ ∙ first-has bd.slots (cand b 0) (l.cands_on 0 some) (l.some 0 some)

  pub dead-choice : (b : Box) → b ≡ dead bd → (c : Choice) → choice bd b c ≡ false
  dead-choice b e c = choice-not b (ap (live bd) e ∙ live-dead) c

  pub kept-one : (a b : Box) → Kept bd a → Kept bd b → ((c : Choice) → choice bd a c ≡ choice bd b c) → a ≡ b
  kept-one a b (inl p) (inl q) f = p ∙ sym q
  kept-one a b (inl p) (inr q) f = absurd (both_ways _ (dead-choice a p _) (f _ ∙ live-choice b q))
  kept-one a b (inr p) (inl q) f = absurd (both_ways _ (dead-choice b q _) (sym (f _) ∙ live-choice a p))
  kept-one a b (inr p) (inr q) f =
      live-one a b p q (λ c. sym (choice-live a (live-true a p) c) ∙ f c ∙ choice-live b (live-true b q) c)

  -- ---- together

  lay-uses : (b : Box) → Kept bd b → (x : Layout) → Mem x (layouts bd b) → (c : Choice) → uses bd x c ≡ true → choice bd b c ≡ true
  lay-uses b (inl e) x m c u = absurd (dead-lay x (subst (λ d. Mem x (layouts bd d)) e m))
  lay-uses b (inr l) x m c u = let h = lay-mem b x m in in-uses b x l h.0 h.1 c u

  uses-lay : (b : Box) → Kept bd b → (x : Layout) → On bd x → ((c : Choice) → uses bd x c ≡ true → choice bd b c ≡ true) → Mem x (layouts bd b)
  uses-lay b (inl e) x o f = absurd (dead-uses x (λ c u. ap (λ d. choice bd d c) (sym e) ∙ f c u))
  uses-lay b (inr l) x o f = mem-lay b x o (uses-in b x l o f)

  each-lay : (b : Box) → Kept bd b → (c : Choice) → choice bd b c ≡ true → (x : Layout) × Mem x (layouts bd b) × (uses bd x c ≡ true)
  each-lay b (inl e) c h = absurd (both_ways _ (dead-choice b e c) h)
  each-lay b (inr l) c h = live-each b l c (sym (choice-live b (live-true b l) c) ∙ h)

  pub space : Space (choice bd) (uses bd) (Kept bd) (On bd) (layouts bd) (hull bd)
  space = record {
    lay-on = λ b g x m. (lay-mem b x m).0;
    lay-in = lay-uses;
    lay-all = uses-lay;
    lay-each = each-lay;
    hull-has = hull-choice;
    hull-good = hull-kept;
    one = kept-one;
  }
