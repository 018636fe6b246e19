-- What the named constraints mean. Assumes nothing.
use Rattle.std.proofs.Common.{◌≡◌, ℕ, ◌-◌, ◌^◌, ◌<◌, ◌≤◌, Bool, true, false, ◌&&◌, ◌||◌, eqb, ltb, List, [], ◌∷◌, ◌++◌, get_or, sym, refl, ap, ◌∙◌, subst, ap₂, subst₂, inl, inr, true≢false, arith, pow_pos}
use mathlib.Core.Bool.{false≢true}
use lib.Bits.{bit_and}
use lib.Count.{ones}
use Rattle.std.proofs.lemmas.Bool.{both_ways, leb-false, eqb-false, cases_Bool, or_parts}
use Rattle.masks.specs.Masks.{has, tally, within}
use Rattle.masks.proofs.Counts.{ones-tally}
use Rattle.masks.proofs.Masks.{has-below, has-full, within_has}
use Rattle.masks.proofs.Subsets.{apart_from, apart-has, small, within_all, within-le}
use Rattle.model.specs.Board.{Board}
use Rattle.model.specs.Calls.{Call, post}
use Rattle.model.specs.Layout.{Layout, On, set_of, slot_of}
use Rattle.model.specs.Refusals.{refusal}
use Rattle.model.proofs.Lists.{every-at, every-from}
use Rattle.roots.specs.Roots.{agree, roots_holds}
use Rattle.range.specs.Ranges.{slots_of_all}
use Rattle.range.proofs.Images.{image-into, image-onto, mask-in, mask-of, mask_of}
use Rattle.kinds.specs.SheetRules.{sheet_holds}
use Rattle.named.specs.Causes.{absent, among_causes, beyond, misfit, n_value_causes, no_range}
use Rattle.named.specs.Meanings.{AllDifferent, AllDifferentMeans, Among, AmongMeans, Between, Disjoint, Exactly, Four, KeepsCalls, NValue, NValueMeans, Two, Uses, chosen}
use Rattle.named.specs.Parts.{all_different_calls, among_calls, apart_rule, count_rule, disjoint_calls, is_calls, n_value_calls, range_calls, roots_rule, uses_calls, within_rule}
use Rattle.named.proofs.Accepted.{Groups, Helpers, helpers, s-room, t-room}
use Rattle.named.proofs.Chosen.{image-on, is-keeps, is-kept, keeps-join, keeps-left, keeps-right, kinds-apart, pair-on, pair-other, pair-s, pair-t, range-keeps, range-kept}
use Rattle.named.proofs.Counting.{all-different-counts, counted-from, counted-says, counts-all-different, distinct, iff-eq, tally-ext}
use Rattle.named.proofs.Quiet.{none-there}
use Rattle.kinds.specs.declared.SheetRule.{SheetRule}

-- ---- S is G, Range G S T, Count T

module _ (bd : Board) (small : bd.sensors ≤ 64) (g s t : ℕ) (h : Helpers bd s t) (g_on : g < 2 ^ bd.sensors) (x : Layout) (on : On bd x) where
  -- the helper sets as they must be
  range-count : (p q : ℕ) → Between p q (ones (slots_of_all bd x g)) → Two bd (n_value_calls bd g p q s t) s t x
  range-count p q b =
      let v = slots_of_all bd x g in
      let y = chosen (chosen x s g) t v in
      let ys = pair-s bd x on s t g v h g_on in
      let yt = pair-t bd x on s t g v h g_on in
      record {
        s_mask = g;
        t_mask = v;
        on = pair-on bd x on s t g v h g_on (image-on bd x g on);
        kept = keeps-join bd y (range_calls bd g s t) (post (count_rule t p q) ∷ []) (range-keeps bd y g s t ys yt)
            (counted-from p q (set_of y t) (subst (λ (m : ℕ). Between p q (ones m)) (sym yt) b), tt);
      }

  count-range : (p q : ℕ) → Two bd (n_value_calls bd g p q s t) s t x → Between p q (ones (slots_of_all bd x g))
  count-range p q w =
      let y = chosen (chosen x s w.s_mask) t w.t_mask in
      let e = range-kept bd y g s t w.on h small (keeps-left bd y (range_calls bd g s t) (post (count_rule t p q) ∷ []) w.kept) in
      let k = keeps-right bd y (range_calls bd g s t) (post (count_rule t p q) ∷ []) w.kept in
      subst (λ (m : ℕ). Between p q (ones m)) e (counted-says p q (set_of y t) k.0)

  pub n-value-meant : (p q : ℕ) → Exactly (NValue bd g p q x) (Two bd (n_value_calls bd g p q s t) s t x)
  n-value-meant p q = record {
    there = λ b. range-count p q (subst (λ (n : ℕ). Between p q n) (sym (distinct bd x g on)) b);
    back = λ w. subst (λ (n : ℕ). Between p q n) (distinct bd x g on) (count-range p q w);
  }

  pub all-different-meant : Exactly (AllDifferent g x) (Two bd (all_different_calls bd g s t) s t x)
  all-different-meant = record {
    there = λ d. let e = all-different-counts bd x g g_on d in range-count (ones g) (ones g) (omega arith, omega arith);
    back = λ w. let b = count-range (ones g) (ones g) w in counts-all-different bd x g g_on (omega (arith, b.0, b.1));
  }

-- ---- T is V, Roots G S T, Count S

agrees : (p q : Bool) → agree p q ≡ true → p ≡ q
agrees true true e = refl
agrees true false e = absurd (false≢true e)
agrees false true e = absurd (false≢true e)
agrees false false e = refl

agree_same : (p q : Bool) → p ≡ q → agree p q ≡ true
agree_same true true e = refl
agree_same true false e = absurd (true≢false e)
agree_same false true e = absurd (false≢true e)
agree_same false false e = refl

-- the sensors below n that pass, as a mask
mask-on : (p : ℕ → Bool) (n : ℕ) → mask_of p n < 2 ^ n
mask-on p n = omega (arith, pow_pos n, within-le (mask_of p n) (2 ^ n - 1) (within_all (mask_of p n) (2 ^ n - 1) (λ i e. has-full n i (mask-of p n i e).0)))

mask-has : (p : ℕ → Bool) (n i : ℕ) → i < n → has (mask_of p n) i ≡ p i
mask-has p n i l = iff-eq _ _ (λ e. (mask-of p n i e).1) (λ e. mask-in p n i l e)

module _ (bd : Board) (small : bd.slots ≤ 64) (g v s t : ℕ) (h : Helpers bd s t) (v-on : v < 2 ^ bd.slots) (x : Layout) (on : On bd x) where
  hit : ℕ → Bool
  hit i = has g i && has v (slot_of x i)

  roots-said : (y : Layout) → y.slot ≡ x.slot → set_of y t ≡ v → sheet_holds bd (roots_rule g s t) y ≡ true → (i : ℕ) → i < bd.sensors → has (set_of y s) i ≡ hit i
  unfolding roots_holds hit
  roots-said y e f k i l =
      agrees _ _ (every-at (λ (i : ℕ). agree (has (set_of y s) i) (has g i && has (set_of y t) (slot_of y i))) bd.sensors k i l)
      ∙ ap₂ (λ (a b : ℕ). has g i && has a b) f (ap (λ (l : List ℕ). get_or l i 0) e)

  roots-from : (y : Layout) → y.slot ≡ x.slot → set_of y t ≡ v → ((i : ℕ) → i < bd.sensors → has (set_of y s) i ≡ hit i) → sheet_holds bd (roots_rule g s t) y ≡ true
  unfolding roots_holds hit
  roots-from y e f k = every-from (λ (i : ℕ). agree (has (set_of y s) i) (has g i && has (set_of y t) (slot_of y i))) bd.sensors
      (λ i l. agree_same _ _ (k i l ∙ sym (ap₂ (λ (a b : ℕ). has g i && has a b) f (ap (λ (l : List ℕ). get_or l i 0) e))))

  hits : (y : Layout) → On bd y → ((i : ℕ) → i < bd.sensors → has (set_of y s) i ≡ hit i) → ones (set_of y s) ≡ tally hit bd.sensors
  hits y yo k =
      let b : set_of y s < 2 ^ bd.sensors = subst (λ (n : ℕ). set_of y s < 2 ^ n) (s-room h) (yo.sets_on s (leb-false _ s h.s_there)) in
      ones-tally bd.sensors (set_of y s) b ∙ tally-ext (has (set_of y s)) hit bd.sensors k

  pub among-meant : (p q : ℕ) → Exactly (Among bd g v p q x) (Two bd (among_calls bd g v p q s t) s t x)
  unfolding hit
  among-meant p q = record {
    there = λ b.
        let a = mask_of hit bd.sensors in
        let f = mask-on hit bd.sensors in
        let y = chosen (chosen x s a) t v in
        let ys = pair-s bd x on s t a v h f in
        let yt = pair-t bd x on s t a v h f in
        let yo = pair-on bd x on s t a v h f v-on in
        let m : (i : ℕ) → i < bd.sensors → has (set_of y s) i ≡ hit i = λ i l. ap (λ (w : ℕ). has w i) ys ∙ mask-has hit bd.sensors i l in
        record {
          s_mask = a;
          t_mask = v;
          on = yo;
          kept = keeps-join bd y (is_calls bd t v) (post (roots_rule g s t) ∷ post (count_rule s p q) ∷ []) (is-keeps bd y t v yt)
              (roots-from y refl yt m, (counted-from p q (set_of y s) (subst (λ (n : ℕ). Between p q n) (sym (hits y yo m)) b), tt));
        };
    back = λ w.
        let y = chosen (chosen x s w.s_mask) t w.t_mask in
        let i = keeps-left bd y (is_calls bd t v) (post (roots_rule g s t) ∷ post (count_rule s p q) ∷ []) w.kept in
        let k = keeps-right bd y (is_calls bd t v) (post (roots_rule g s t) ∷ post (count_rule s p q) ∷ []) w.kept in
        let f = is-kept bd y t v w.on (leb-false _ t h.t_there) (subst (λ (n : ℕ). n ≤ 64) (sym (t-room h)) small) i in
        subst (λ (n : ℕ). Between p q n) (hits y w.on (roots-said y refl f k.0)) (counted-says p q (set_of y s) k.1.0);
  }

-- ---- two groups: S is G, Range G S T, U is H, Range H U W, and a rule on T and W

module _ (bd : Board) (small : bd.sensors ≤ 64) (g h s t u w : ℕ) (b : Groups bd g h s t u w) (x : Layout) (on : On bd x) where
  g-in : g < 2 ^ bd.sensors
  g-in = leb-false _ g b.g_on

  h-in : h < 2 ^ bd.sensors
  h-in = leb-false _ h b.h_on

  abbrev calls : SheetRule → List (Call SheetRule)
  calls r = range_calls bd g s t ++ (range_calls bd h u w ++ (post r ∷ []))

  -- the layout with the helper sets as they must be
  abbrev z : Layout
  z = chosen (chosen (chosen (chosen x s g) t (slots_of_all bd x g)) u h) w (slots_of_all bd x h)

  mid-on : On bd (chosen (chosen x s g) t (slots_of_all bd x g))
  mid-on = pair-on bd x on s t g (slots_of_all bd x g) b.first g-in (image-on bd x g on)

  z-s : set_of z s ≡ g
  z-s = pair-other bd (chosen (chosen x s g) t (slots_of_all bd x g)) mid-on u w h (slots_of_all bd x h) b.second h-in s
      (λ e. eqb-false s u b.s_apart (sym e)) (λ e. kinds-apart b.first b.second (sym e))
      ∙ pair-s bd x on s t g (slots_of_all bd x g) b.first g-in

  z-t : set_of z t ≡ slots_of_all bd x g
  z-t = pair-other bd (chosen (chosen x s g) t (slots_of_all bd x g)) mid-on u w h (slots_of_all bd x h) b.second h-in t
      (kinds-apart b.second b.first) (λ e. eqb-false t w b.t_apart (sym e))
      ∙ pair-t bd x on s t g (slots_of_all bd x g) b.first g-in

  z-w : set_of z w ≡ slots_of_all bd x h
  z-w = pair-t bd (chosen (chosen x s g) t (slots_of_all bd x g)) mid-on u w h (slots_of_all bd x h) b.second h-in

  both-chosen : (r : SheetRule) → (set_of z t ≡ slots_of_all bd x g → set_of z w ≡ slots_of_all bd x h → sheet_holds bd r z ≡ true) → Four bd (calls r) s t u w x
  both-chosen r k =
      let z-u = pair-s bd (chosen (chosen x s g) t (slots_of_all bd x g)) mid-on u w h (slots_of_all bd x h) b.second h-in in
      record {
        s_mask = g;
        t_mask = slots_of_all bd x g;
        u_mask = h;
        w_mask = slots_of_all bd x h;
        on = pair-on bd (chosen (chosen x s g) t (slots_of_all bd x g)) mid-on u w h (slots_of_all bd x h) b.second h-in (image-on bd x h on);
        kept = keeps-join bd z (range_calls bd g s t) (range_calls bd h u w ++ (post r ∷ [])) (range-keeps bd z g s t z-s z-t)
            (keeps-join bd z (range_calls bd h u w) (post r ∷ []) (range-keeps bd z h u w z-u z-w) (k z-t z-w, tt));
      }

  pub record Both (r : SheetRule) (y : Layout) : Type 0 where
    pub t_is : set_of y t ≡ slots_of_all bd y g
    pub w_is : set_of y w ≡ slots_of_all bd y h
    pub rule : sheet_holds bd r y ≡ true

  both-kept : (r : SheetRule) (y : Layout) → On bd y → KeepsCalls bd y (calls r) → Both r y
  both-kept r y yo k =
      let rest = keeps-right bd y (range_calls bd g s t) (range_calls bd h u w ++ (post r ∷ [])) k in
      record {
        t_is = range-kept bd y g s t yo b.first small (keeps-left bd y (range_calls bd g s t) (range_calls bd h u w ++ (post r ∷ [])) k);
        w_is = range-kept bd y h u w yo b.second small (keeps-left bd y (range_calls bd h u w) (post r ∷ []) rest);
        rule = (keeps-right bd y (range_calls bd h u w) (post r ∷ []) rest).0;
      }

  pub disjoint-meant : Exactly (Disjoint g h x) (Four bd (disjoint_calls bd g h s t u w) s t u w x)
  disjoint-meant = record {
    there = λ d. both-chosen (apart_rule t w) (λ e f.
        subst₂ (λ (a c : ℕ). eqb (bit_and a c) 0 ≡ true) (sym e) (sym f) (apart_from (slots_of_all bd x g) (slots_of_all bd x h) (λ v k.
        elim (cases_Bool (has (slots_of_all bd x h) v)) [
          | inl l ↦
              let i = image-onto bd x g v k in
              let j = image-onto bd x h v l in
              absurd (d i.0 j.0 i.2 j.2 (i.3 ∙ sym j.3))
          | inr l ↦ l
        ])));
    back = λ c i j gi hj e.
        let y = chosen (chosen (chosen (chosen x s c.s_mask) t c.t_mask) u c.u_mask) w c.w_mask in
        let k = both-kept (apart_rule t w) y c.on c.kept in
        let a : eqb (bit_and (slots_of_all bd x g) (slots_of_all bd x h)) 0 ≡ true = subst₂ (λ (a c : ℕ). eqb (bit_and a c) 0 ≡ true) k.t_is k.w_is k.rule in
        both_ways _ (apart-has (slots_of_all bd x g) (slots_of_all bd x h) (slot_of x i) a (image-into bd x g i (has-below bd.sensors g i g-in gi) gi))
        (ap (has (slots_of_all bd x h)) e ∙ image-into bd x h j (has-below bd.sensors h j h-in hj) hj);
  }

  pub uses-meant : Exactly (Uses g h x) (Four bd (uses_calls bd g h s t u w) s t u w x)
  uses-meant = record {
    there = λ d. both-chosen (within_rule w t) (λ e f.
        subst₂ (λ (a c : ℕ). within a c ≡ true) (sym f) (sym e) (within_all (slots_of_all bd x h) (slots_of_all bd x g) (λ v k.
        let j = image-onto bd x h v k in
        let i = d j.0 j.2 in
        subst (λ (n : ℕ). has (slots_of_all bd x g) n ≡ true) (i.2 ∙ j.3) (image-into bd x g i.0 (has-below bd.sensors g i.0 g-in i.1) i.1))));
    back = λ c j hj.
        let y = chosen (chosen (chosen (chosen x s c.s_mask) t c.t_mask) u c.u_mask) w c.w_mask in
        let k = both-kept (within_rule w t) y c.on c.kept in
        let a : within (slots_of_all bd x h) (slots_of_all bd x g) ≡ true = subst₂ (λ (a c : ℕ). within a c ≡ true) k.w_is k.t_is k.rule in
        let i = image-onto bd x g (slot_of x j) (within_has (slots_of_all bd x h) (slots_of_all bd x g) a (slot_of x j) (image-into bd x h j (has-below bd.sensors h j h-in hj) hj)) in
        (i.0, i.2, i.3);
  }

-- ---- where no cause is there

module _ (bd : Board) (free g s t : ℕ) where
  pub n-value-so : bd.sensors ≤ 64 → (p q : ℕ) → refusal (n_value_causes bd free g p q s t) ≡ 0 → NValueMeans bd g p q s t
  n-value-so small p q e x on =
      let w = none-there (absent bd s t) (beyond bd.sensors g) (misfit bd s t) (eqb s t) (no_range p q) (ltb free 2) e in
      n-value-meant bd small g s t (helpers bd s t w.there w.kinds_fit) (leb-false _ g w.masks_on) x on p q

  pub all-different-so : bd.sensors ≤ 64 → refusal (n_value_causes bd free g (ones g) (ones g) s t) ≡ 0 → AllDifferentMeans bd g s t
  all-different-so small e x on =
      let w = none-there (absent bd s t) (beyond bd.sensors g) (misfit bd s t) (eqb s t) (no_range (ones g) (ones g)) (ltb free 2) e in
      all-different-meant bd small g s t (helpers bd s t w.there w.kinds_fit) (leb-false _ g w.masks_on) x on

  pub among-so : bd.slots ≤ 64 → (v p q : ℕ) → refusal (among_causes bd free g v p q s t) ≡ 0 → AmongMeans bd g v p q s t
  among-so small v p q e x on =
      let w = none-there (absent bd s t) (beyond bd.sensors g || beyond bd.slots v) (misfit bd s t) (eqb s t) (no_range p q) (ltb free 2) e in
      among-meant bd small g v s t (helpers bd s t w.there w.kinds_fit) (leb-false _ v (or_parts _ _ w.masks_on).1) x on p q
