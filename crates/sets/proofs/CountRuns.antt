-- The run of Count is its tight box. Assumes nothing.
use Rattle.std.proofs.Common.{◌≡◌, ℕ, ◌-◌, ◌^◌, ◌<◌, ◌≤◌, Bool, true, false, not, ◌&&◌, eqb, ltb, ◌⊎◌, sym, refl, ap, ◌∙◌, ap₂, inl, inr, arith}
use mathlib.Core.Bool.{false≢true}
use lib.Bits.{bit_and, bit_or, or_zero_r, and_zero_r}
use lib.Count.{ones, ones-ones}
use Rattle.std.proofs.lemmas.Bool.{both_ways, leb-true, eqb-true, lt-ltb, le-ltb, le-leb, eq-eqb, ne_eqb, cases_lt, and_parts, cases_order, cases_eq, cases_Bool, and_from, and_right, or_right, not_from_true, cond-true, cond-false}
use Rattle.masks.specs.Masks.{has, within, without}
use Rattle.masks.proofs.Counts.{ones-same, ones-within}
use Rattle.masks.proofs.Masks.{has-or, has-without, within_has}
use Rattle.masks.proofs.Sizes.{amid, ones-less, ones-more}
use Rattle.masks.proofs.Subsets.{apart_from, single-has, single-other, single-within, within_all, within-or, within-or-l, within-or-r, within-self, within-trans, within-without, without-apart, without-within}
use Rattle.model.specs.Board.{Board, room}
use Rattle.model.specs.Box.{Box, Kept, hi, lo}
use Rattle.model.specs.Entries.{narrow, narrowed}
use Rattle.model.specs.Layout.{set_of}
use Rattle.model.specs.Tight.{tight}
use Rattle.model.proofs.OneSet.{Spread, one-tight}
use Rattle.board.specs.Model.{board, model}
use Rattle.board.proofs.Shapes.{some, is-kept}
use Rattle.board.specs.declared.domains.Domains.{Domains}
use Rattle.sets.specs.Counts.{count_entries, count_in, count_out, counted, count_fault, count_run}
use Rattle.sets.specs.declared.count.Count.{Count}
use Rattle.sets.proofs.Fitting.{Range, count_fits}

-- where lo is hi, or each may still change by one member, every choice is supported
spread : (least most k l h : ℕ) → least ≤ most → within l h ≡ true → ones l ≤ most → least ≤ ones h
    → (within h l ≡ true) ⊎ ((ones l < most) × (least < ones h)) → Spread (counted least most) k l h
spread least most k l h o w p q t = record {
  base = let g = amid l h least most w p q o in (g.mask, g.over, g.below, good g.mask g.enough g.few);
  top = λ v e. elim (cases_Bool (has l v)) [
    | inl z ↦ let g = amid l h least most w p q o in (g.mask, g.over, g.below, good g.mask g.enough g.few, within_has l g.mask g.over v z)
    | inr z ↦
        let g = amid (bit_or l (2 ^ v)) h least most (within-or l (2 ^ v) h w (single-within v h e)) (omega (arith, ones-more v l z, room-above v e z)) q o in
        (g.mask, within-trans l _ _ (within-or-l l (2 ^ v)) g.over, g.below, good g.mask g.enough g.few, within_has _ g.mask g.over v (has-or l (2 ^ v) v ∙ or_right _ _ (single-has v)))
  ];
  low = λ v _ e. elim (cases_Bool (has h v)) [
    | inl z ↦
        let g = amid l (without h (2 ^ v)) least most (within-without l h (2 ^ v) w (apart_from l (2 ^ v) (λ i f. single-other v i (λ n. both_ways _ e (ap (has l) n ∙ f))))) p (omega (arith, ones-less v h z, room-below v e z)) o in
        (g.mask, g.over, within-trans _ _ h g.below (without-within h (2 ^ v)), good g.mask g.enough g.few, absent g.mask (without h (2 ^ v)) v g.below (has-without h (2 ^ v) v ∙ and_right _ _ (not_from_true _ (single-has v))))
    | inr z ↦ let g = amid l h least most w p q o in (g.mask, g.over, g.below, good g.mask g.enough g.few, absent g.mask h v g.below z)
  ];
}
  where
    good : (m : ℕ) → least ≤ ones m → ones m ≤ most → counted least most m ≡ true
    good m x y = and_from _ _ (le-leb least (ones m) x) (le-leb (ones m) most y)

    room-above : (v : ℕ) → has h v ≡ true → has l v ≡ false → ones l < most
    room-above v e z = elim t [ inl s ↦ absurd (both_ways _ z (within_has h l s v e)) | inr s ↦ s.0 ]

    room-below : (v : ℕ) → has l v ≡ false → has h v ≡ true → least < ones h
    room-below v e z = elim t [ inl s ↦ absurd (both_ways _ e (within_has h l s v z)) | inr s ↦ s.1 ]

    absent : (m n v : ℕ) → within m n ≡ true → has n v ≡ false → has m v ≡ false
    absent m n v u z = elim (cases_Bool (has m v)) [ inl s ↦ absurd (both_ways _ z (within_has m n u v s)) | inr s ↦ s ]

-- ---- what the run enters, case by case

pub out-few : (l h most : ℕ) → ones l < most → count_out l h most ≡ 0
unfolding count_out
out-few l h most q = cond-true (ltb (ones l) most) _ _ (lt-ltb (ones l) most q)

pub out-full : (l h most : ℕ) → ones l ≡ most → count_out l h most ≡ without h l
unfolding count_out
out-full l h most q = cond-false (ltb (ones l) most) _ _ (le-ltb (ones l) most (omega arith)) ∙ cond-true (eqb (ones l) most) _ _ (eq-eqb (ones l) most q)

pub out-over : (l h most : ℕ) → most < ones l → count_out l h most ≡ h
unfolding count_out
out-over l h most q = cond-false (ltb (ones l) most) _ _ (le-ltb (ones l) most (omega arith)) ∙ cond-false (eqb (ones l) most) _ _ (ne_eqb (ones l) most (λ e. omega arith))

pub in-many : (h least : ℕ) → least < ones h → count_in h least ≡ 0
unfolding count_in
in-many h least q = cond-true (ltb least (ones h)) _ _ (lt-ltb least (ones h) q)

pub in-just : (h least : ℕ) → ones h ≡ least → count_in h least ≡ h
unfolding count_in
in-just h least q = cond-false (ltb least (ones h)) _ _ (le-ltb least (ones h) (omega arith)) ∙ cond-true (eqb (ones h) least) _ _ (eq-eqb (ones h) least q)

pub in-under : (h least : ℕ) → ones h < least → count_in h least ≡ 2 ^ 64 - 1
unfolding count_in
in-under h least q = cond-false (ltb least (ones h)) _ _ (le-ltb least (ones h) (omega arith)) ∙ cond-false (eqb (ones h) least) _ _ (ne_eqb (ones h) least (λ e. omega arith))

module _ (least most : ℕ) (o : least ≤ most) (s : most ≤ 64) (l h : ℕ) where
  abbrev out : ℕ
  out = count_out l h most

  abbrev sure : ℕ
  sure = count_in h least

  -- a mask between the bounds of as many members keeps both
  keeps-out : (m : ℕ) → within l m ≡ true → within m h ≡ true → ones m ≤ most → eqb (bit_and m out) 0 ≡ true
  keeps-out m p q c = elim (cases_order (ones l) most) [
    | inl e ↦
        let z : l ≡ m = ones-same l m p (omega (arith, ones-within l m p)) in
        ap (λ t. eqb (bit_and m t) 0) (out-full l h most e) ∙ apart_from m (without h l) (λ i f. has-without h l i ∙ and_right _ _ (not_from_true _ (ap (λ t. has t i) z ∙ f)))
    | inr t ↦ elim t [
      | inl e ↦ ap (λ t. eqb (bit_and m t) 0) (out-few l h most e) ∙ eq-eqb _ 0 (and_zero_r m)
      | inr e ↦ absurd (omega (arith, ones-within l m p))
    ]
  ]

  keeps-in : (m : ℕ) → within m h ≡ true → least ≤ ones m → within sure m ≡ true
  keeps-in m q c = elim (cases_order (ones h) least) [
    | inl e ↦
        let z : m ≡ h = ones-same m h q (omega (arith, ones-within m h q)) in
        ap₂ within (in-just h least e) z ∙ within-self h
    | inr t ↦ elim t [
      | inl e ↦ absurd (omega (arith, ones-within m h q))
      | inr e ↦ ap (λ t. within t m) (in-many h least e) ∙ eq-eqb 0 0 refl
    ]
  ]

  -- what is left is spread
  left : (k : ℕ) → within l h ≡ true → within (bit_or l sure) (without h out) ≡ true → Spread (counted least most) k (bit_or l sure) (without h out)
  left k w v = elim (cases_eq (ones l) most) [
    | inl e ↦ full e
    | inr e ↦ elim (cases_eq (ones h) least) [ inl f ↦ just f | inr f ↦ free (omega (arith, few)) (omega (arith, many)) ]
  ]
    where
      lower : within l (without h out) ≡ true
      lower = within-trans l _ _ (within-or-l l sure) v

      upper : within (bit_or l sure) h ≡ true
      upper = within-trans _ _ h v (without-within h out)

      -- neither bound is past its count, as the box is live
      few : ones l ≤ most
      few = elim (cases_lt most (ones l)) [
        | inl e ↦
            let z : eqb (bit_and l h) 0 ≡ true = without-apart l h h (sym (ap (λ t. within l (without h t)) (out-over l h most e)) ∙ lower) in
            let n : l ≡ 0 = sym (eqb-true _ l w) ∙ eqb-true _ 0 z in
            absurd (omega (arith, ap ones n, ones-ones 0))
        | inr e ↦ e
      ]

      many : least ≤ ones h
      many = elim (cases_lt (ones h) least) [
        | inl e ↦ absurd (omega (arith, ones-ones 64, ones-within (2 ^ 64 - 1) h (sym (ap (λ t. within t h) (in-under h least e)) ∙ within-trans sure _ h (within-or-r l sure) upper)))
        | inr e ↦ e
      ]

      go : ones (bit_or l sure) ≤ most → least ≤ ones (without h out) → (within (without h out) (bit_or l sure) ≡ true) ⊎ ((ones (bit_or l sure) < most) × (least < ones (without h out))) → Spread (counted least most) k (bit_or l sure) (without h out)
      go = spread least most k (bit_or l sure) (without h out) o v

      -- lo has the most already
      full : ones l ≡ most → Spread (counted least most) k (bit_or l sure) (without h out)
      full e =
          let t : within (without h out) l ≡ true = within_all _ l (λ i f. both (has h i) (has l i) (sym (ap (λ t. has h i && not t) (ap (λ n. has n i) (out-full l h most e) ∙ has-without h l i)) ∙ sym (has-without h out i) ∙ f)) in
          go (omega (arith, ones-within _ _ v, ones-within _ l t)) (omega (arith, ones-within l _ lower)) (inl (within-trans _ l _ t (within-or-l l sure)))
        where
          both : (p q : Bool) → (p && not (p && not q)) ≡ true → q ≡ true
          both true true e = refl
          both true false e = absurd (false≢true e)
          both false q e = absurd (false≢true e)

      -- hi has just the least
      just : ones h ≡ least → Spread (counted least most) k (bit_or l sure) (without h out)
      just e =
          let t : within h (bit_or l sure) ≡ true = sym (ap (λ n. within n (bit_or l sure)) (in-just h least e)) ∙ within-or-r l sure in
          go (omega (arith, ones-within _ h upper)) (omega (arith, ones-within _ _ v, ones-within h _ t)) (inl (within-trans _ h _ (without-within h out) t))

      -- neither changes
      free : ones l < most → least < ones h → Spread (counted least most) k (bit_or l sure) (without h out)
      free p q =
          let a : bit_or l sure ≡ l = ap (bit_or l) (in-many h least q) ∙ or_zero_r l in
          let b : without h out ≡ h = ap (without h) (out-few l h most p) ∙ omega (arith, and_zero_r h) in
          go (omega (arith, ap ones a)) (omega (arith, ap ones b)) (inr (omega (arith, ap ones a), omega (arith, ap ones b)))

-- ---- the tight box

pub count-tight : (bd : Board) (some : 0 < bd.sensors) (a least most : ℕ) → Range bd a least most → (x : Box) (k : Kept bd x)
    → narrowed (narrow bd) (count_entries (record { a = a; least = least; most = most }) x) x ≡ tight bd (λ y. counted least most (set_of y a)) x
count-tight bd some a least most f x k =
    one-tight bd some a f.known (counted least most) (count_out (lo x a) (hi x a) most) (count_in (hi x a) least) x k
    (λ m _ p q e.
    let w = and_parts _ _ e in
    (keeps-out least most f.ordered f.bounded (lo x a) (hi x a) m p q (leb-true (ones m) most w.1), keeps-in least most f.ordered f.bounded (lo x a) (hi x a) m q (leb-true least (ones m) w.0)))
    (λ l v. left least most f.ordered f.bounded (lo x a) (hi x a) (room bd a) (l.bounds a f.known) v)

-- in a stored box, where the rule fits
pub count_runs : (d : Domains) (r : Count) → count_fault (board d) r ≡ 0 → narrowed (narrow (board d)) (count_entries r (model d)) (model d) ≡ count_run (board d) r (model d)
count_runs d r z = count-tight (board d) (some d) r.a r.least r.most (count_fits (board d) r.a r.least r.most z) (model d) (is-kept d)
