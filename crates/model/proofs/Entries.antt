-- An entry makes of a box what the tight box of 'keeps the entry' is. Assumes nothing.
use Rattle.std.proofs.Common.{◌≡◌, ℕ, ◌^◌, ◌<◌, Bool, true, false, eqb, ◌⊎◌, List, length, get_or, set, sym, refl, ap, ◌∙◌, subst, subst₂, inl, inr, arith, length-set, get_or-set_other, get_or-set_same}
use lib.Bits.{bit_and, bit_or, and_le_l}
use Rattle.std.proofs.lemmas.Bool.{both_ways, not-true, ltb-true, eqb-true, lt-ltb, eq-eqb, and_parts, cases_eq, cases_Bool, and_from, not_from_false}
use Rattle.masks.specs.Masks.{has, within, without}
use Rattle.masks.proofs.Masks.{has-and, has-below, within_has}
use Rattle.masks.proofs.Subsets.{apart_from, apart-has, nonzero, within_all, within-or, within-or-l, within-or-r, within-trans, within-without, without-apart, without-within}
use Rattle.model.specs.Board.{Board, room}
use Rattle.model.specs.Box.{Box, Choice, In, Inside, Kept, Live, cand, choice, dead, hi, live, lo, omitted, slotted, taken, uses}
use Rattle.model.specs.Entries.{Entry, bar, claim, cut, keeps, limit, narrow, placed, stored}
use Rattle.model.specs.Laws.{Narrows}
use Rattle.model.specs.Layout.{Layout, On, set_of, slot_of}
use Rattle.model.specs.Tight.{tight}
use Rattle.model.proofs.Boxes.{dead-cand, dead-choice, dead-long, in-uses, lay-mem, live-zero, space}
use Rattle.model.proofs.Lists.{every-at, every-from}
use Rattle.model.proofs.Order.{Fewer, fewer-one}
use Rattle.model.proofs.Tight.{from, no-choice, ordering, tightness}

module _ (bd : Board) (some : 0 < bd.sensors) where
  -- a box in which a layout lies is live
  pub in-live : (b : Box) (x : Layout) → On bd x → In bd x b → live bd b ≡ true
  unfolding live
  in-live b x o n = and_from _ _
      (every-from _ bd.sensors (λ i h. not_from_false _ (nonzero (cand b i) (slot_of x i) (n.slots_in i h))))
      (every-from _ bd.sets (λ j h. within-trans (lo b j) (set_of x j) (hi b j) (n.over j h) (n.under j h)))

  -- what a write at place i leaves
  pub at_set : (P : ℕ → Type 0) (xs : List ℕ) (n i k a : ℕ) → length xs ≡ n → i < n → (k ≡ i → P a) → ((k ≡ i → ⊥) → P (get_or xs k 0)) → P (get_or (set xs i a) k 0)
  at_set P xs n i k a e h p q = elim (cases_eq k i) [
    | inl r ↦ subst (λ m. P (get_or (set xs i a) m 0)) (sym r) (subst P (sym (get_or-set_same xs i a 0 (omega arith))) (p r))
    | inr r ↦ subst P (sym (get_or-set_other xs i k a 0 r)) (q r)
  ]

  pub of-set : (P : ℕ → Type 0) (xs : List ℕ) (n i k a : ℕ) → length xs ≡ n → i < n → P (get_or (set xs i a) k 0) → ((k ≡ i) × P a) ⊎ ((k ≡ i → ⊥) × P (get_or xs k 0))
  of-set P xs n i k a e h p = elim (cases_eq k i) [
    | inl r ↦ inl (r, subst P (get_or-set_same xs i a 0 (omega arith)) (subst (λ m. P (get_or (set xs i a) m 0)) r p))
    | inr r ↦ inr (r, subst P (get_or-set_other xs i k a 0 r) p)
  ]

  pub cut_in : (e : Entry) (b : Box) (x : Layout) → placed bd e ≡ true → Live bd b → On bd x → In bd x b → keeps e x ≡ true → In bd x (cut e b)
  unfolding keeps cut
  cut_in (limit i m) b x ok l o n k =
      let h = ltb-true i bd.sensors ok in
      record {
        slots_in = λ s r. at_set (λ c. has c (slot_of x s) ≡ true) b.cands bd.sensors i s (bit_and (cand b i) m) l.cands_many h
            (λ e. has-and (cand b i) m (slot_of x s) ∙ and_from _ _ (subst (λ t. has (cand b t) (slot_of x s) ≡ true) e (n.slots_in s r)) (subst (λ t. has m (slot_of x t) ≡ true) (sym e) k))
            (λ _. n.slots_in s r);
        over = n.over;
        under = n.under;
      }
  cut_in (claim j m) b x ok l o n k =
      let h = ltb-true j bd.sets ok in
      record {
        slots_in = n.slots_in;
        over = λ s r. at_set (λ c. within c (set_of x s) ≡ true) b.lows bd.sets j s (bit_or (lo b j) m) l.lows_many h
            (λ e. subst (λ t. within (bit_or (lo b j) m) (set_of x t) ≡ true) (sym e)
            (within-or (lo b j) m (set_of x j) (n.over j h) k))
            (λ _. n.over s r);
        under = n.under;
      }
  cut_in (bar j m) b x ok l o n k =
      let h = ltb-true j bd.sets ok in
      record {
        slots_in = n.slots_in;
        over = n.over;
        under = λ s r. at_set (λ c. within (set_of x s) c ≡ true) b.highs bd.sets j s (without (hi b j) m) l.highs_many h
            (λ e. subst (λ t. within (set_of x t) (without (hi b j) m) ≡ true) (sym e)
            (within-without (set_of x j) (hi b j) m (n.under j h) k))
            (λ _. n.under s r);
      }

  pub in_cut : (e : Entry) (b : Box) (x : Layout) → placed bd e ≡ true → Live bd b → On bd x → In bd x (cut e b) → In bd x b × (keeps e x ≡ true)
  unfolding keeps cut
  in_cut (limit i m) b x ok l o n =
      let h = ltb-true i bd.sensors ok in
      let at : (s : ℕ) → s < bd.sensors → ((s ≡ i) × (has (bit_and (cand b i) m) (slot_of x s) ≡ true)) ⊎ ((s ≡ i → ⊥) × (has (cand b s) (slot_of x s) ≡ true)) =
      λ s r. of-set (λ c. has c (slot_of x s) ≡ true) b.cands bd.sensors i s (bit_and (cand b i) m) l.cands_many h (n.slots_in s r) in (
        record {
          slots_in = λ s r. elim (at s r) [
            | inl q ↦ subst (λ t. has (cand b t) (slot_of x s) ≡ true) (sym q.0) (and_parts _ _ (sym (has-and (cand b i) m (slot_of x s)) ∙ q.1)).0
            | inr q ↦ q.1
          ];
          over = n.over;
          under = n.under;
        },
        elim (at i h) [
          | inl q ↦ (and_parts _ _ (sym (has-and (cand b i) m (slot_of x i)) ∙ q.1)).1
          | inr q ↦ absurd (q.0 refl)
        ],
      )
  in_cut (claim j m) b x ok l o n =
      let h = ltb-true j bd.sets ok in
      let at : (s : ℕ) → s < bd.sets → ((s ≡ j) × (within (bit_or (lo b j) m) (set_of x s) ≡ true)) ⊎ ((s ≡ j → ⊥) × (within (lo b s) (set_of x s) ≡ true)) =
      λ s r. of-set (λ c. within c (set_of x s) ≡ true) b.lows bd.sets j s (bit_or (lo b j) m) l.lows_many h (n.over s r) in (
        record {
          slots_in = n.slots_in;
          over = λ s r. elim (at s r) [
            | inl q ↦ subst (λ t. within (lo b t) (set_of x s) ≡ true) (sym q.0) (within-trans (lo b j) (bit_or (lo b j) m) (set_of x s) (within-or-l (lo b j) m) q.1)
            | inr q ↦ q.1
          ];
          under = n.under;
        },
        elim (at j h) [
          | inl q ↦ within-trans m (bit_or (lo b j) m) (set_of x j) (within-or-r (lo b j) m) q.1
          | inr q ↦ absurd (q.0 refl)
        ],
      )
  in_cut (bar j m) b x ok l o n =
      let h = ltb-true j bd.sets ok in
      let at : (s : ℕ) → s < bd.sets → ((s ≡ j) × (within (set_of x s) (without (hi b j) m) ≡ true)) ⊎ ((s ≡ j → ⊥) × (within (set_of x s) (hi b s) ≡ true)) =
      λ s r. of-set (λ c. within (set_of x s) c ≡ true) b.highs bd.sets j s (without (hi b j) m) l.highs_many h (n.under s r) in (
        record {
          slots_in = n.slots_in;
          over = n.over;
          under = λ s r. elim (at s r) [
            | inl q ↦ subst (λ t. within (set_of x s) (hi b t) ≡ true) (sym q.0) (within-trans (set_of x s) (without (hi b j) m) (hi b j) q.1 (without-within (hi b j) m))
            | inr q ↦ q.1
          ];
        },
        elim (at j h) [
          | inl q ↦ without-apart (set_of x j) (hi b j) m q.1
          | inr q ↦ absurd (q.0 refl)
        ],
      )

  pub live-some : (b : Box) → live bd b ≡ true → (i : ℕ) → i < bd.sensors → eqb (cand b i) 0 ≡ false
  unfolding live
  live-some b e i h = not-true _ (every-at _ bd.sensors (and_parts _ _ e).0 i h)

  pub live-bounds : (b : Box) → live bd b ≡ true → (j : ℕ) → j < bd.sets → within (lo b j) (hi b j) ≡ true
  unfolding live
  live-bounds b e j h = every-at _ bd.sets (and_parts _ _ e).1 j h

  pub cut-live : (e : Entry) (b : Box) → placed bd e ≡ true → Live bd b → live bd (cut e b) ≡ true → Live bd (cut e b)
  unfolding cut
  cut-live (limit i m) b ok l v =
      let h = ltb-true i bd.sensors ok in
      record {
        cands_many = length-set b.cands i _ ∙ l.cands_many;
        lows_many = l.lows_many;
        highs_many = l.highs_many;
        cands_on = λ s r. at_set (λ c. c < 2 ^ bd.slots) b.cands bd.sensors i s (bit_and (cand b i) m) l.cands_many h
            (λ e. omega (arith, and_le_l (cand b i) m, l.cands_on i h)) (λ _. l.cands_on s r);
        highs_on = l.highs_on;
        some = live-some _ v;
        bounds = live-bounds _ v;
      }
  cut-live (claim j m) b ok l v =
      record {
        cands_many = l.cands_many;
        lows_many = length-set b.lows j _ ∙ l.lows_many;
        highs_many = l.highs_many;
        cands_on = l.cands_on;
        highs_on = l.highs_on;
        some = live-some _ v;
        bounds = live-bounds _ v;
      }
  cut-live (bar j m) b ok l v =
      let h = ltb-true j bd.sets ok in
      record {
        cands_many = l.cands_many;
        lows_many = l.lows_many;
        highs_many = length-set b.highs j _ ∙ l.highs_many;
        cands_on = l.cands_on;
        highs_on = λ s r. at_set (λ c. c < 2 ^ room bd s) b.highs bd.sets j s (without (hi b j) m) l.highs_many h
            (λ e. subst (λ t. without (hi b j) m < 2 ^ room bd t) (sym e) (omega (arith, l.highs_on j h))) (λ _. l.highs_on s r);
        some = live-some _ v;
        bounds = live-bounds _ v;
      }

  cut-dead : (e : Entry) → placed bd e ≡ true → live bd (cut e (dead bd)) ≡ false
  unfolding cut
  cut-dead (limit i m) ok = live-zero bd some _ (go (cases_eq 0 i))
    where
      go : (0 ≡ i) ⊎ (0 ≡ i → ⊥) → get_or (set (dead bd).cands i (bit_and (cand (dead bd) i) m)) 0 0 ≡ 0
      go (inl e) =
          let z : cand (dead bd) i ≡ 0 = ap (cand (dead bd)) (sym e) ∙ dead-cand bd some in
          subst (λ k. get_or (set (dead bd).cands i (bit_and (cand (dead bd) i) m)) k 0 ≡ 0) (sym e)
          (get_or-set_same (dead bd).cands i _ 0 (dead-long bd some i (ltb-true i bd.sensors ok)) ∙ ap (λ c. bit_and c m) z)
      go (inr e) = get_or-set_other (dead bd).cands i 0 _ 0 e ∙ dead-cand bd some
  cut-dead (claim j m) ok = live-zero bd some _ (dead-cand bd some)
  cut-dead (bar j m) ok = live-zero bd some _ (dead-cand bd some)

  -- ---- an entry is the tight box of 'keeps the entry'

  pub stored-live : (b : Box) → live bd b ≡ true → stored bd b ≡ b
  unfolding stored
  stored-live b e = ap (λ t. elim t [ true ↦ b | false ↦ dead bd ]) e

  pub stored-not : (b : Box) → live bd b ≡ false → stored bd b ≡ dead bd
  unfolding stored
  stored-not b e = ap (λ t. elim t [ true ↦ b | false ↦ dead bd ]) e

  pub tight-kept : (p : Layout → Bool) (b : Box) → Kept bd b → Kept bd (tight bd p b)
  tight-kept p = (tightness bd some p).laws.kept

  pub stored-tight : (e : Entry) (b : Box) → placed bd e ≡ true → Kept bd b → stored bd (cut e b) ≡ tight bd (keeps e) b
  stored-tight e b ok (inl d) =
      stored-not (cut e b) (ap (λ x. live bd (cut e x)) d ∙ cut-dead e ok)
      ∙ sym (no-choice bd some _ (tight-kept (keeps e) b (inl d)) (λ c h.
      both_ways _ (dead-choice bd some b d c) (from bd some _ b (tight-kept (keeps e) b (inl d)) (inl d) ((tightness bd some (keeps e)).laws.shrinks b (inl d)) c h)))
  stored-tight e b ok (inr l) = elim (cases_Bool (live bd (cut e b))) [
    | inl v ↦
        let lc = cut-live e b ok l v in
        stored-live (cut e b) v ∙ fewer-one bd some (cut e b) (tight bd (keeps e) b) (inr lc) (tight-kept (keeps e) b (inr l))
        (λ c h. let s = (space bd some).lay-each (cut e b) (inr lc) c h in
        let m = lay-mem bd some (cut e b) s.0 s.1 in
        let n = in_cut e b s.0 ok l m.0 m.1 in
        (tightness bd some (keeps e)).uses_all b (inr l) c (s.0, m.0, n.0, n.1, s.2))
        (λ c h. let s = (tightness bd some (keeps e)).used b (inr l) c h in
        in-uses bd some (cut e b) s.0 lc s.1 (cut_in e b s.0 ok l s.1 s.2 s.3) c s.4)
    | inr v ↦ stored-not (cut e b) v ∙ sym (no-choice bd some _ (tight-kept (keeps e) b (inr l)) (λ c h.
        let s = (tightness bd some (keeps e)).used b (inr l) c h in
        both_ways _ v (in-live (cut e b) s.0 s.1 (cut_in e b s.0 ok l s.1 s.2 s.3))))
  ]

  pub narrow-yes : (e : Entry) (b : Box) → placed bd e ≡ true → narrow bd e b ≡ stored bd (cut e b)
  unfolding narrow
  narrow-yes e b ok = ap (λ t. elim t [ true ↦ stored bd (cut e b) | false ↦ b ]) ok

  pub narrow-is : (e : Entry) (b : Box) → placed bd e ≡ true → Kept bd b → narrow bd e b ≡ tight bd (keeps e) b
  narrow-is e b ok k = narrow-yes e b ok ∙ stored-tight e b ok k

  pub narrow-not : (e : Entry) (b : Box) → placed bd e ≡ false → narrow bd e b ≡ b
  unfolding narrow
  narrow-not e b no' = ap (λ t. elim t [ true ↦ stored bd (cut e b) | false ↦ b ]) no'

  pub entry-narrows : (e : Entry) → Narrows bd (narrow bd e)
  entry-narrows e = elim (cases_Bool (placed bd e)) [
    | inl ok ↦ let t = (tightness bd some (keeps e)).laws in
        record {
          kept = λ b k. subst (Kept bd) (sym (narrow-is e b ok k)) (t.kept b k);
          shrinks = λ b k. subst (λ x. Inside bd x b) (sym (narrow-is e b ok k)) (t.shrinks b k);
          monotone = λ a b ka kb i. subst₂ (Inside bd) (sym (narrow-is e a ok ka)) (sym (narrow-is e b ok kb)) (t.monotone a b ka kb i);
        }
    | inr nk ↦ record {
      kept = λ b k. subst (Kept bd) (sym (narrow-not e b nk)) k;
      shrinks = λ b k. subst (λ x. Inside bd x b) (sym (narrow-not e b nk)) ((ordering bd some).itself b k);
      monotone = λ a b ka kb i. subst₂ (Inside bd) (sym (narrow-not e a nk)) (sym (narrow-not e b nk)) i;
    }
  ]

  pub entry-keeps : (e : Entry) (b : Box) (x : Layout) → Kept bd b → On bd x → In bd x b → (placed bd e ≡ true → keeps e x ≡ true) → In bd x (narrow bd e b)
  entry-keeps e b x k o n h = elim (cases_Bool (placed bd e)) [
    | inl ok ↦ subst (In bd x) (sym (narrow-is e b ok k)) ((tightness bd some (keeps e)).laws.keeps_supports b k x o n (h ok))
    | inr nk ↦ subst (In bd x) (sym (narrow-not e b nk)) n
  ]

  -- whether a layout keeps an entry shows in its choices: where each is used by one that keeps it, it keeps it
  keeps-by : (e : Entry) (y : Layout) → placed bd e ≡ true → On bd y → ((c : Choice) → uses bd y c ≡ true → (x : Layout) × On bd x × (keeps e x ≡ true) × (uses bd x c ≡ true)) → keeps e y ≡ true
  unfolding keeps uses
  keeps-by (limit i m) y ok o f =
      let s = f (slotted i (slot_of y i)) (and_from _ _ ok (eq-eqb (slot_of y i) (slot_of y i) refl)) in
      ap (has m) (sym (eqb-true (slot_of s.0 i) (slot_of y i) (and_parts _ _ s.3).1)) ∙ s.2
  keeps-by (claim j m) y ok o f = within_all m (set_of y j) (λ v e. elim (cases_Bool (has (set_of y j) v)) [
    | inl t ↦ t
    | inr t ↦
        let w = f (slotted 0 (slot_of y 0)) (and_from _ _ (lt-ltb 0 bd.sensors some) (eq-eqb (slot_of y 0) (slot_of y 0) refl)) in
        let r : v < room bd j = has-below (room bd j) (set_of w.0 j) v (w.1.sets_on j (ltb-true j bd.sets ok)) (within_has m (set_of w.0 j) w.2 v e) in
        let s = f (omitted j v) (and_from _ _ (and_from _ _ ok (lt-ltb v (room bd j) r)) (not_from_false _ t)) in
        absurd (both_ways _ (not-true _ (and_parts _ _ s.3).1) (within_has m (set_of s.0 j) s.2 v e))
  ])
  keeps-by (bar j m) y ok o f = apart_from (set_of y j) m (λ v e.
      let s = f (taken j v) e in
      apart-has (set_of s.0 j) m v s.2 s.3)

  pub entry-firm : (e : Entry) (a b : Box) → Kept bd a → Kept bd b → Fewer bd some a (narrow bd e b) → narrow bd e a ≡ a
  entry-firm e a b ka kb f = elim (cases_Bool (placed bd e)) [
    | inl ok ↦ narrow-is e a ok ka ∙ fewer-one bd some _ a (tight-kept (keeps e) a ka) ka
        (from bd some _ a (tight-kept (keeps e) a ka) ka ((tightness bd some (keeps e)).laws.shrinks a ka))
        (λ c h.
        let s = (space bd some).lay-each a ka c h in
        let m = lay-mem bd some a s.0 s.1 in
        let k = keeps-by e s.0 ok m.0 (λ d u.
        let t = (tightness bd some (keeps e)).used b kb d (ap (λ x. choice bd x d) (sym (narrow-is e b ok kb)) ∙ f d ((space bd some).lay-in a ka s.0 s.1 d u)) in
        (t.0, t.1, t.3, t.4)) in
        (tightness bd some (keeps e)).uses_all a ka c (s.0, m.0, m.1, k, s.2))
    | inr nk ↦ narrow-not e a nk
  ]
