-- The order of the planner's boxes: by their choices, which is 'inside'; their size falls with it. Assumes nothing.
use Rattle.std.proofs.Common.{◌≡◌, ℕ, zero, suc, ◌+◌, ◌<◌, ◌≤◌, true, false, not, ◌&&◌, ◌⊎◌, sym, ap, ◌∙◌, subst, inl, inr, arith}
use mathlib.Core.Bool.{false≢true}
use lib.Count.{ones}
use Rattle.std.proofs.lemmas.Bool.{both_ways, not-true, ltb-true, lt-ltb, and_parts, cases_eq, cases_Bool, and_from, not_from_false, cond-true, cond-false}
use Rattle.masks.specs.Masks.{has, within, without}
use Rattle.masks.proofs.Counts.{first, first-has, has-ones, ones-same, ones-within}
use Rattle.masks.proofs.Masks.{has-without, has-zero, within-from, within_has}
use Rattle.masks.proofs.Subsets.{within_all, within-self}
use Rattle.model.specs.Board.{Board, room}
use Rattle.model.specs.Box.{Box, Choice, Inside, Kept, Live, Narrower, cand, choice, dead, hi, live, lo, offers, omitted, size, slotted, taken, total, uses}
use Rattle.model.specs.Layout.{On}
use Rattle.model.specs.Tight.{hull, layouts}
use Rattle.model.proofs.Boxes.{choice-live, choice-not, dead-cand, dead-choice, index_below, live-choice, live-dead, live-true, lo-below, space, turned}
use Rattle.model.proofs.Rounds.{Ordered}
use Rattle.model.proofs.Space.{sub-one}

total-le : (f g : ℕ → ℕ) (n : ℕ) → ((i : ℕ) → i < n → f i ≤ g i) → total f n ≤ total g n
total-le f g zero h = omega arith
total-le f g (suc n) h = omega (arith, h n (omega arith), total-le f g n (λ i r. h i (omega arith)))

total-cases : (f g : ℕ → ℕ) (n : ℕ) → ((i : ℕ) → i < n → f i ≤ g i) → (total f n < total g n) ⊎ ((i : ℕ) → i < n → f i ≡ g i)
total-cases f g zero h = inr (λ i r. absurd (omega arith))
total-cases f g (suc n) h = elim (total-cases f g n (λ i r. h i (omega arith))) [
  | inl l ↦ inl (omega (arith, h n (omega arith)))
  | inr e ↦ elim (cases_eq (f n) (g n)) [
    | inl q ↦ inr (λ i r. elim (cases_eq i n) [ inl z ↦ ap f z ∙ q ∙ ap g (sym z) | inr z ↦ e i (omega arith) ])
    | inr q ↦ inl (omega (arith, h n (omega arith), total-le f g n (λ i r. h i (omega arith))))
  ]
]

total-some : (f : ℕ → ℕ) (n i : ℕ) → i < n → 1 ≤ f i → 1 ≤ total f n
total-some f zero i h e = absurd (omega arith)
total-some f (suc n) i h e = elim (cases_eq i n) [
  | inl z ↦ let w : 1 ≤ f n = subst (λ k. 1 ≤ f k) z e in omega arith
  | inr z ↦ omega (arith, total-some f n i (omega arith) e)
]

-- the members of hi outside lo shrink with the bounds, and tell them
module _ (l h l' h' : ℕ) (low : within h h' ≡ true) (high : within l' l ≡ true) (bounds : within l h ≡ true) where
  open-within : within (without h l) (without h' l') ≡ true
  open-within = within_all _ _ (λ v e.
      let p = and_parts _ _ (sym (has-without h l v) ∙ e) in
      has-without h' l' v ∙ and_from _ _ (within_has h h' low v p.0) (turned (has l' v) (has l v) (within_has l' l high v) p.1))

  module _ (same : without h l ≡ without h' l') where
    back : (v : ℕ) → has h' v ≡ true → has l' v ≡ false → (has h v && not (has l v)) ≡ true
    back v e f = sym (has-without h l v) ∙ ap (λ m. has m v) same ∙ has-without h' l' v ∙ and_from _ _ e (not_from_false _ f)

    high-back : within h' h ≡ true
    high-back = within_all h' h (λ v e. elim (cases_Bool (has l' v)) [
      | inl t ↦ within_has l h bounds v (within_has l' l high v t)
      | inr t ↦ (and_parts _ _ (back v e t)).0
    ])

    low-back : within l l' ≡ true
    low-back = within_all l l' (λ v e. elim (cases_Bool (has l' v)) [
      | inl t ↦ t
      | inr t ↦ absurd (both_ways _ (not-true _ (and_parts _ _ (back v (within_has h h' low v (within_has l h bounds v e)) t)).1) e)
    ])

module _ (bd : Board) (some : 0 < bd.sensors) where
  -- choices of a are choices of b
  abbrev pub Fewer : Box → Box → Type 0
  Fewer a b = (c : Choice) → choice bd a c ≡ true → choice bd b c ≡ true

  pub fewer-one : (a b : Box) → Kept bd a → Kept bd b → Fewer a b → Fewer b a → a ≡ b
  fewer-one = sub-one (choice bd) (uses bd) (Kept bd) (On bd) (layouts bd) (hull bd) (space bd some)

  -- ---- 'inside'

  narrower-offers : (a b : Box) → Live bd a → Live bd b → Narrower bd a b → (c : Choice) → offers bd a c ≡ true → offers bd b c ≡ true
  narrower-offers a b la lb n (slotted i s) e =
      within_has (cand a i) (cand b i) (n.fewer i (index_below bd some a.cands bd.sensors i s la.cands_many e)) s e
  narrower-offers a b la lb n (taken j v) e =
      within_has (hi a j) (hi b j) (n.lower j (index_below bd some a.highs bd.sets j v la.highs_many e)) v e
  narrower-offers a b la lb n (omitted j v) e =
      let p = and_parts _ _ e in
      and_from _ _ p.0 (turned (has (lo b j) v) (has (lo a j) v) (within_has (lo b j) (lo a j) (n.higher j (ltb-true j bd.sets (and_parts _ _ p.0).0)) v) p.1)

  offers-narrower : (a b : Box) → Live bd a → Live bd b → ((c : Choice) → offers bd a c ≡ true → offers bd b c ≡ true) → Narrower bd a b
  offers-narrower a b la lb f = record {
    fewer = λ i h. within-from bd.slots (cand a i) (cand b i) (la.cands_on i h) (λ s r e. f (slotted i s) e);
    lower = λ j h. within-from (room bd j) (hi a j) (hi b j) (la.highs_on j h) (λ v r e. f (taken j v) e);
    higher = λ j h. within-from (room bd j) (lo b j) (lo a j) (lo-below bd some b lb j h) (λ v r e.
        elim (cases_Bool (has (lo a j) v)) [
          | inl t ↦ t
          | inr t ↦ absurd (both_ways (has (lo b j) v)
              (not-true _ (and_parts _ _ (f (omitted j v) (and_from _ _ (and_from _ _ (lt-ltb j bd.sets h) (lt-ltb v (room bd j) r)) (not_from_false _ t)))).1) e)
        ]);
  }

  not_live : (b : Box) → Kept bd b → live bd b ≡ false → b ≡ dead bd
  not_live b (inl e) h = e
  not_live b (inr l) h = absurd (both_ways _ h (live-true bd some b l))

  pub inside-fewer : (a b : Box) → Kept bd a → Kept bd b → Inside bd a b → Fewer a b
  inside-fewer a b ka kb (inl e) c h = absurd (both_ways _ (choice-not bd some a e c) h)
  inside-fewer a b (inl e) kb (inr n) c h = absurd (both_ways _ (dead-choice bd some a e c) h)
  inside-fewer a b (inr la) (inr lb) (inr n) c h =
      choice-live bd some b (live-true bd some b lb) c ∙ narrower-offers a b la lb n c (sym (choice-live bd some a (live-true bd some a la) c) ∙ h)
  inside-fewer a b (inr la) (inl e) (inr n) c h =
      let f = first bd.slots (cand a 0) in
      let z : cand b 0 ≡ 0 = ap (λ d. cand d 0) e ∙ dead-cand bd some in
      absurd (false≢true (sym (has-zero f) ∙ ap (λ m. has m f) (sym z)
      ∙ within_has (cand a 0) (cand b 0) (n.fewer 0 some) f (first-has bd.slots (cand a 0) (la.cands_on 0 some) (la.some 0 some))))

  pub fewer-inside : (a b : Box) → Kept bd a → Kept bd b → Fewer a b → Inside bd a b
  fewer-inside a b (inl e) kb f = inl (ap (live bd) e ∙ live-dead bd some)
  fewer-inside a b (inr la) (inl e) f = absurd (both_ways _ (dead-choice bd some b e _) (f _ (live-choice bd some a la)))
  fewer-inside a b (inr la) (inr lb) f =
      inr (offers-narrower a b la lb (λ c h. sym (choice-live bd some b (live-true bd some b lb) c) ∙ f c (choice-live bd some a (live-true bd some a la) c ∙ h)))

  -- ---- the size

  abbrev open-cands : Box → ℕ
  open-cands b = total (λ i. ones (cand b i)) bd.sensors

  abbrev open-sets : Box → ℕ
  open-sets b = total (λ j. ones (without (hi b j) (lo b j))) bd.sets

  size-live : (b : Box) → live bd b ≡ true → size bd b ≡ open-cands b + open-sets b
  unfolding size
  size-live b e = cond-true (live bd b) _ 0 e

  size-not : (b : Box) → live bd b ≡ false → size bd b ≡ 0
  unfolding size
  size-not b e = cond-false (live bd b) (open-cands b + open-sets b) 0 e

  live-narrower : (a b : Box) → Live bd a → Live bd b → Fewer a b → Narrower bd a b
  live-narrower a b la lb f = elim (fewer-inside a b (inr la) (inr lb) f) [
    | inl e ↦ absurd (both_ways _ e (live-true bd some a la))
    | inr n ↦ n
  ]

  live-size : (a b : Box) → Live bd a → Live bd b → Fewer a b → (size bd a < size bd b) ⊎ (a ≡ b)
  live-size a b la lb f =
      let n = live-narrower a b la lb f in
      let ea = size-live a (live-true bd some a la) in
      let eb = size-live b (live-true bd some b lb) in
      let hs : (j : ℕ) → j < bd.sets → within (without (hi a j) (lo a j)) (without (hi b j) (lo b j)) ≡ true = λ j h. open-within (lo a j) (hi a j) (lo b j) (hi b j) (n.lower j h) (n.higher j h) (la.bounds j h) in
      let lc : (i : ℕ) → i < bd.sensors → ones (cand a i) ≤ ones (cand b i) = λ i h. ones-within _ _ (n.fewer i h) in
      let ls : (j : ℕ) → j < bd.sets → ones (without (hi a j) (lo a j)) ≤ ones (without (hi b j) (lo b j)) = λ j h. ones-within _ _ (hs j h) in
      elim (total-cases (λ i. ones (cand a i)) (λ i. ones (cand b i)) bd.sensors lc) [
        | inl l ↦ inl (omega (arith, ea, eb, total-le (λ j. ones (without (hi a j) (lo a j))) (λ j. ones (without (hi b j) (lo b j))) bd.sets ls))
        | inr ec ↦ elim (total-cases (λ j. ones (without (hi a j) (lo a j))) (λ j. ones (without (hi b j) (lo b j))) bd.sets ls) [
          | inl l ↦ inl (omega (arith, ea, eb, total-le (λ i. ones (cand a i)) (λ i. ones (cand b i)) bd.sensors lc))
          | inr es ↦ inr (fewer-one a b (inr la) (inr lb) f (inside-fewer b a (inr lb) (inr la) (inr (record {
            fewer = λ i h. subst (λ m. within (cand b i) m ≡ true) (sym (ones-same _ _ (n.fewer i h) (ec i h))) (within-self (cand b i));
            lower = λ j h. high-back (lo a j) (hi a j) (lo b j) (hi b j) (n.lower j h) (n.higher j h) (la.bounds j h) (ones-same _ _ (hs j h) (es j h));
            higher = λ j h. low-back (lo a j) (hi a j) (lo b j) (hi b j) (n.lower j h) (n.higher j h) (la.bounds j h) (ones-same _ _ (hs j h) (es j h));
          }))))
        ]
      ]

  fewer-size : (a b : Box) → Kept bd a → Kept bd b → Fewer a b → (size bd a < size bd b) ⊎ (a ≡ b)
  fewer-size a b (inl ea) (inl eb) f = inr (ea ∙ sym eb)
  fewer-size a b (inl ea) (inr lb) f =
      let z = size-not a (ap (live bd) ea ∙ live-dead bd some) in
      let e = size-live b (live-true bd some b lb) in
      let w = first-has bd.slots (cand b 0) (lb.cands_on 0 some) (lb.some 0 some) in
      inl (omega (arith, z, e, total-some (λ i. ones (cand b i)) bd.sensors 0 some (has-ones (first bd.slots (cand b 0)) (cand b 0) w)))
  fewer-size a b (inr la) (inl eb) f = absurd (both_ways _ (dead-choice bd some b eb _) (f _ (live-choice bd some a la)))
  fewer-size a b (inr la) (inr lb) f = live-size a b la lb f

  pub ordered : Ordered (Kept bd) Fewer (size bd)
  ordered = record {
    itself = λ a c e. e;
    chain = λ a b d f g c e. g c (f c e);
    one = fewer-one;
    smaller = fewer-size;
  }
