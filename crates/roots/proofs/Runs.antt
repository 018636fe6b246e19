-- The run of each implication is its tight box. Assumes nothing.
use Rattle.std.proofs.Common.{◌≡◌, ℕ, ◌^◌, ◌<◌, Bool, true, false, cond, not, eqb, List, [], ◌∷◌, sym, refl, ap, ◌∙◌, subst, inl, inr}
use lib.Bits.{bit_and}
use lib.Count.{ones}
use Rattle.std.specs.List.{AllByRecursion}
use Rattle.std.proofs.lemmas.Bool.{both_ways, not-true, eqb-true, eqb-false, lt-ltb, and_parts, cases_Bool, and_from, or_right, not_from_false}
use Rattle.masks.specs.Masks.{has, within, without}
use Rattle.masks.proofs.Counts.{first, first-has, one_has}
use Rattle.masks.proofs.Masks.{has-and, has-or, has-without, has-zero, within_has}
use Rattle.masks.proofs.Subsets.{and-within-l, and-within-r, apart_from, single-has, single-other, single-within, small, within-and, within_both, within-self, without-within}
use Rattle.model.specs.Board.{Board}
use Rattle.model.specs.Box.{Box, Choice, In, Kept, Live, cand, hi, lo, offers}
use Rattle.model.specs.Entries.{Entry, bar, claim, cut, keeps, limit, narrow, narrowed, placed}
use Rattle.model.specs.Layout.{Layout, On, set_of, slot_of}
use Rattle.model.specs.Tight.{Supported, tight}
use Rattle.model.proofs.Cuts.{bar-at, bar-cand, bar-low, bar-there, claim-at, claim-cand, claim-high, claim-there, limit-at, limit-high, limit-low}
use Rattle.model.proofs.Entries.{entry-narrows}
use Rattle.model.proofs.Linked.{Linked, linked}
use Rattle.model.proofs.Narrowing.{entries-tight, narrow_cut, narrowed-cut}
use Rattle.model.proofs.Witness.{covers, firsts, firsts-pick, hi-fills, lo-fills, set-made}
use Rattle.board.specs.Model.{board, model}
use Rattle.board.proofs.Shapes.{some, is-kept}
use Rattle.board.specs.declared.domains.Domains.{Domains}
use Rattle.roots.specs.Implications.{entries, implication_fault, implication_run, implied_by, implied_by_entries, implies, implies_entries}
use Rattle.roots.proofs.Bools.{no, not-then, off, then}
use Rattle.roots.specs.Fitting.{Excludes, Links, excludes, links, two}
use Rattle.roots.proofs.Rests.{Backward, Forward, backward-linked, forward-linked}
use Rattle.roots.specs.declared.implication.Implication.{Implication}
use Rattle.roots.specs.declared.implication.Implication.TheVariants.{Excluded, Implies, ImpliedBy}

-- no member of a mask is i
pub single-apart : (m i : ℕ) → has m i ≡ false → eqb (bit_and m (2 ^ i)) 0 ≡ true
single-apart m i e = apart_from m (2 ^ i) (λ v h. single-other i v (λ z. both_ways _ e (ap (has m) z ∙ h)))

meet_within : (c m : ℕ) → within m c ≡ true → bit_and c m ≡ m
meet_within c m h = within_both _ m (and-within-r c m) (within-and m c m h (within-self m))

module _ (bd : Board) (some : 0 < bd.sensors) (x : Box) (k : Kept bd x) where
  -- ---- not in s

  module _ (i s : ℕ) (on : Excludes bd i s) where
    abbrev out : Layout → Bool
    out y = not (has (set_of y s) i)

    abbrev r : Box
    r = narrowed (narrow bd) (bar s (2 ^ i) ∷ []) x

    module _ (lr : Live bd r) where
      high : has (hi r s) i ≡ false
      high =
          let c = narrowed-cut bd some (bar s (2 ^ i) ∷ []) x (lt-ltb s bd.sets on.first, tt) k lr in
          ap (λ z. has (hi z s) i) c.1 ∙ ap (λ m. has m i) (bar-at bd some x c.0 s (2 ^ i) on.first) ∙ has-without (hi x s) (2 ^ i) i ∙ off _ _ (single-has i)

      low : has (lo r s) i ≡ false
      low = no _ (λ e. both_ways _ high (within_has (lo r s) (hi r s) (lr.bounds s on.first) i e))

      complete : (c : Choice) → offers bd r c ≡ true → Supported bd out r c
      complete = covers bd some r lr out (λ g. has (g s) i ≡ false)
          (λ f g e. not_from_false _ (ap (λ m. has m i) (set-made bd some r f g s on.first) ∙ e))
          (record {
            base = (lo r, lo-fills bd some r lr, low);
            top = λ j v h e. (hi r, hi-fills bd some r lr, high, e);
            low = λ j v h q e. (lo r, lo-fills bd some r lr, low, e);
          })

    pub excluded-tight : r ≡ tight bd (λ y. not (has (set_of y s) i)) x
    unfolding keeps
    excluded-tight = entries-tight bd some out (bar s (2 ^ i) ∷ []) x k (λ y o n e. (single-apart (set_of y s) i (not-true _ e), tt)) complete

  module _ (i s t : ℕ) (on : Links bd i s t) where
    placed-i : (m : ℕ) → placed bd (limit i m) ≡ true
    placed-i m = lt-ltb i bd.sensors on.sensor

    module _ (ok : ℕ → ℕ → ℕ → Bool) where
      abbrev Sound : List Entry → Type 0
      Sound es = (y : Layout) → On bd y → In bd y x → ok (slot_of y i) (set_of y s) (set_of y t) ≡ true → AllByRecursion (λ e. keeps e y ≡ true) es

      by : (es : List Entry) → Sound es → (Live bd (narrowed (narrow bd) es x) → Linked ok (narrowed (narrow bd) es x) i s t)
          → narrowed (narrow bd) es x ≡ tight bd (λ y. ok (slot_of y i) (set_of y s) (set_of y t)) x
      by es sound f = entries-tight bd some _ es x k sound (λ lr. linked bd some _ lr ok i s t on.sensor on.first on.second (two bd i s t on) (f lr))

    module _ (r : Box) (lr : Live bd r) where
      forwards : Forward r i s t → Linked (implies i) r i s t
      forwards = forward-linked r i s t (firsts bd some r lr i) ((firsts-pick bd some r lr).pick i on.sensor) (lr.bounds s on.first) (lr.bounds t on.second)

      backwards : Backward r i s t → Linked (implied_by i) r i s t
      backwards = backward-linked r i s t (firsts bd some r lr i) ((firsts-pick bd some r lr).pick i on.sensor) (lr.bounds s on.first) (lr.bounds t on.second)

    -- candidates cut to `left`
    module _ (left : ℕ) (part : within left (cand x i) ≡ true) where
      -- alone
      module _ (lr : Live bd (narrowed (narrow bd) (limit i left ∷ []) x)) where
        alone : Live bd x × (narrowed (narrow bd) (limit i left ∷ []) x ≡ cut (limit i left) x)
        alone = narrowed-cut bd some (limit i left ∷ []) x (placed-i left, tt) k lr

        alone-cand : cand (narrowed (narrow bd) (limit i left ∷ []) x) i ≡ left
        alone-cand = ap (λ z. cand z i) alone.1 ∙ limit-at bd some x alone.0 i left on.sensor ∙ meet_within (cand x i) left part

        alone-low : (j : ℕ) → lo (narrowed (narrow bd) (limit i left ∷ []) x) j ≡ lo x j
        alone-low j = ap (λ z. lo z j) alone.1 ∙ limit-low i left x j

        alone-high : (j : ℕ) → hi (narrowed (narrow bd) (limit i left ∷ []) x) j ≡ hi x j
        alone-high j = ap (λ z. hi z j) alone.1 ∙ limit-high i left x j

      -- then an entry of set t
      module _ (e : Entry) (p : placed bd e ≡ true) (lr : Live bd (narrowed (narrow bd) (limit i left ∷ e ∷ []) x)) where
        both : Live bd x × (narrowed (narrow bd) (limit i left ∷ e ∷ []) x ≡ cut e (cut (limit i left) x))
        both = narrowed-cut bd some (limit i left ∷ e ∷ []) x (placed-i left, (p, tt)) k lr

        first_live : Live bd (cut (limit i left) x)
        first_live =
            let l = (narrow_cut bd some e (narrow bd (limit i left) x) p ((entry-narrows bd some (limit i left)).kept x k) lr).0 in
            subst (Live bd) (narrow_cut bd some (limit i left) x (placed-i left) k l).1 l

        both-cand : cand (cut e (cut (limit i left) x)) i ≡ cand (cut (limit i left) x) i → cand (narrowed (narrow bd) (limit i left ∷ e ∷ []) x) i ≡ left
        both-cand q = ap (λ z. cand z i) both.1 ∙ q ∙ limit-at bd some x both.0 i left on.sensor ∙ meet_within (cand x i) left part

    placed-s : (m : ℕ) → placed bd (bar s m) ≡ true
    placed-s m = lt-ltb s bd.sets on.first

    placed-t : (m : ℕ) → placed bd (bar t m) ≡ true
    placed-t m = lt-ltb t bd.sets on.second

    -- ---- in s implies slot in t

    abbrev may : ℕ
    may = bit_and (cand x i) (hi x t)

    may_part : within may (cand x i) ≡ true
    may_part = and-within-l (cand x i) (hi x t)

    may-has : (w : ℕ) → has may w ≡ true → (has (cand x i) w ≡ true) × (has (hi x t) w ≡ true)
    may-has w e = and_parts _ _ (sym (has-and (cand x i) (hi x t) w) ∙ e)

    -- the slot of a layout that has i in s
    may-slot : (y : Layout) → In bd y x → has (set_of y t) (slot_of y i) ≡ true → has may (slot_of y i) ≡ true
    may-slot y n e = has-and (cand x i) (hi x t) (slot_of y i) ∙ and_from _ _ (n.slots_in i on.sensor) (within_has (set_of y t) (hi x t) (n.under t on.second) (slot_of y i) e)

    sure_in : has (lo x s) i ≡ true → (y : Layout) → In bd y x → implies i (slot_of y i) (set_of y s) (set_of y t) ≡ true → has (set_of y t) (slot_of y i) ≡ true
    sure_in a y n e = then _ _ e (within_has (lo x s) (set_of y s) (n.over s on.first) i a)

    pub implies-tight : narrowed (narrow bd) (implies_entries i s t x) x ≡ tight bd (λ y. implies i (slot_of y i) (set_of y s) (set_of y t)) x
    unfolding keeps
    implies-tight = go (has (lo x s) i) (eqb may 0) (eqb (ones may) 1) refl refl refl
      where
        go : (a b d : Bool) → has (lo x s) i ≡ a → eqb may 0 ≡ b → eqb (ones may) 1 ≡ d
            → narrowed (narrow bd) (cond a (limit i may ∷ cond d (claim t may ∷ []) []) (cond b (bar s (2 ^ i) ∷ []) [])) x ≡ tight bd (λ y. implies i (slot_of y i) (set_of y s) (set_of y t)) x
        go true b true a z d = by (implies i) (limit i may ∷ claim t may ∷ [])
            (λ y o n e.
            let inq = sure_in a y n e in
            let inm = may-slot y n inq in
            (inm, (subst (λ m. within m (set_of y t) ≡ true) (sym (one_has may (slot_of y i) (eqb-true (ones may) 1 d) inm)) (single-within (slot_of y i) (set_of y t) inq), tt)))
            (λ lr.
            let q = both may may_part (claim t may) (placed-t may) lr in
            let l = first_live may may_part (claim t may) (placed-t may) lr in
            let c = both-cand may may_part (claim t may) (placed-t may) lr (claim-cand t may _ i) in
            let hi-t = ap (λ z. hi z t) q.1 ∙ claim-high bd some _ l t may on.second t ∙ limit-high i may x t in
            let lo-t = ap (λ z. lo z t) q.1 ∙ claim-at bd some _ l t may on.second in
            let lo-s = ap (λ z. lo z s) q.1 ∙ claim-there bd some _ l t may on.second s (two bd i s t on) ∙ limit-low i may x s in
            forwards _ lr (record {
              sure = λ _ w e. ap (λ m. has m w) hi-t ∙ (may-has w (sym (ap (λ m. has m w) c) ∙ e)).1;
              sole = λ _ _ w e. ap (λ m. has m w) lo-t ∙ has-or _ may w ∙ or_right _ _ (sym (ap (λ m. has m w) c) ∙ e);
              maybe = λ f _. absurd (both_ways _ f (ap (λ m. has m i) lo-s ∙ a));
            }))
        go true b false a z d = by (implies i) (limit i may ∷ [])
            (λ y o n e. (may-slot y n (sure_in a y n e), tt))
            (λ lr.
            let c = alone-cand may may_part lr in
            forwards _ lr (record {
              sure = λ _ w e. ap (λ m. has m w) (alone-high may may_part lr t) ∙ (may-has w (sym (ap (λ m. has m w) c) ∙ e)).1;
              sole = λ _ o w e. absurd (eqb-false (ones may) 1 d (sym (ap ones c) ∙ o));
              maybe = λ f _. absurd (both_ways _ f (ap (λ m. has m i) (alone-low may may_part lr s) ∙ a));
            }))
        go false true d a z _ = by (implies i) (bar s (2 ^ i) ∷ [])
            (λ y o n e. (single-apart (set_of y s) i (no _ (λ h. both_ways (has may (slot_of y i)) (ap (λ m. has m (slot_of y i)) (eqb-true may 0 z) ∙ has-zero (slot_of y i)) (may-slot y n (then _ _ e h)))), tt))
            (λ lr.
            let c = narrowed-cut bd some (bar s (2 ^ i) ∷ []) x (placed-s (2 ^ i), tt) k lr in
            let low = ap (λ z. has (lo z s) i) c.1 ∙ ap (λ m. has m i) (bar-low bd some x c.0 s (2 ^ i) on.first s) ∙ a in
            let high = ap (λ z. has (hi z s) i) c.1 ∙ ap (λ m. has m i) (bar-at bd some x c.0 s (2 ^ i) on.first) ∙ has-without (hi x s) (2 ^ i) i ∙ off _ _ (single-has i) in
            forwards _ lr (record {
              sure = λ t w e. absurd (both_ways _ low t);
              sole = λ t o w e. absurd (both_ways _ low t);
              maybe = λ f h. absurd (both_ways _ high h);
            }))
        go false false d a z _ = by (implies i) [] (λ y o n e. tt)
            (λ lr.
            let u = first may may in
            let p = may-has u (first-has may may (small may) z) in
            forwards x lr (record {
              sure = λ t w e. absurd (both_ways _ a t);
              sole = λ t o w e. absurd (both_ways _ a t);
              maybe = λ f h. (u, p.0, p.1);
            }))

    -- ---- slot in t implies in s

    abbrev free : ℕ
    free = without (cand x i) (lo x t)

    free_part : within free (cand x i) ≡ true
    free_part = without-within (cand x i) (lo x t)

    free-has : (w : ℕ) → has free w ≡ true → (has (cand x i) w ≡ true) × (has (lo x t) w ≡ false)
    free-has w e = let p = and_parts _ _ (sym (has-without (cand x i) (lo x t) w) ∙ e) in (p.0, not-true _ p.1)

    -- the slot of a layout that leaves i out of s
    free-slot : (y : Layout) → In bd y x → has (set_of y t) (slot_of y i) ≡ false → has free (slot_of y i) ≡ true
    free-slot y n e = has-without (cand x i) (lo x t) (slot_of y i)
        ∙ and_from _ _ (n.slots_in i on.sensor) (not_from_false _ (no _ (λ h. both_ways _ e (within_has (lo x t) (set_of y t) (n.over t on.second) (slot_of y i) h))))

    sure-out : has (hi x s) i ≡ false → (y : Layout) → In bd y x → implied_by i (slot_of y i) (set_of y s) (set_of y t) ≡ true → has (set_of y t) (slot_of y i) ≡ false
    sure-out a y n e = not-then _ _ e (no _ (λ h. both_ways _ a (within_has (set_of y s) (hi x s) (n.under s on.first) i h)))

    pub implied-by-tight : narrowed (narrow bd) (implied_by_entries i s t x) x ≡ tight bd (λ y. implied_by i (slot_of y i) (set_of y s) (set_of y t)) x
    unfolding keeps
    implied-by-tight = go (has (hi x s) i) (eqb free 0) (eqb (ones free) 1) refl refl refl
      where
        go : (a b d : Bool) → has (hi x s) i ≡ a → eqb free 0 ≡ b → eqb (ones free) 1 ≡ d
            → narrowed (narrow bd) (cond a (cond b (claim s (2 ^ i) ∷ []) []) (limit i free ∷ cond d (bar t free ∷ []) [])) x ≡ tight bd (λ y. implied_by i (slot_of y i) (set_of y s) (set_of y t)) x
        go false b true a z d = by (implied_by i) (limit i free ∷ bar t free ∷ [])
            (λ y o n e.
            let q = sure-out a y n e in
            let m = free-slot y n q in
            (m, (subst (λ m. eqb (bit_and (set_of y t) m) 0 ≡ true) (sym (one_has free (slot_of y i) (eqb-true (ones free) 1 d) m)) (single-apart (set_of y t) (slot_of y i) q), tt)))
            (λ lr.
            let q = both free free_part (bar t free) (placed-t free) lr in
            let l = first_live free free_part (bar t free) (placed-t free) lr in
            let c = both-cand free free_part (bar t free) (placed-t free) lr (bar-cand t free _ i) in
            let lo-t = ap (λ z. lo z t) q.1 ∙ bar-low bd some _ l t free on.second t ∙ limit-low i free x t in
            let hi-t = ap (λ z. hi z t) q.1 ∙ bar-at bd some _ l t free on.second in
            let hi-s = ap (λ z. hi z s) q.1 ∙ bar-there bd some _ l t free on.second s (two bd i s t on) ∙ limit-high i free x s in
            backwards _ lr (record {
              sure = λ _ w e. ap (λ m. has m w) lo-t ∙ (free-has w (sym (ap (λ m. has m w) c) ∙ e)).1;
              sole = λ _ _ w e. ap (λ m. has m w) hi-t ∙ has-without _ free w ∙ off _ _ (sym (ap (λ m. has m w) c) ∙ e);
              maybe = λ h _. absurd (both_ways _ (ap (λ m. has m i) hi-s ∙ a) h);
            }))
        go false b false a z d = by (implied_by i) (limit i free ∷ [])
            (λ y o n e. (free-slot y n (sure-out a y n e), tt))
            (λ lr.
            let c = alone-cand free free_part lr in
            backwards _ lr (record {
              sure = λ _ w e. ap (λ m. has m w) (alone-low free free_part lr t) ∙ (free-has w (sym (ap (λ m. has m w) c) ∙ e)).1;
              sole = λ _ o w e. absurd (eqb-false (ones free) 1 d (sym (ap ones c) ∙ o));
              maybe = λ h _. absurd (both_ways _ (ap (λ m. has m i) (alone-high free free_part lr s) ∙ a) h);
            }))
        go true true d a z _ = by (implied_by i) (claim s (2 ^ i) ∷ [])
            (λ y o n e. (
              single-within i (set_of y s) (elim (cases_Bool (has (set_of y t) (slot_of y i))) [
                | inl h ↦ then _ _ e h
                | inr h ↦ absurd (both_ways (has free (slot_of y i)) (ap (λ m. has m (slot_of y i)) (eqb-true free 0 z) ∙ has-zero (slot_of y i)) (free-slot y n h))
              ]),
              tt,
            ))
            (λ lr.
            let c = narrowed-cut bd some (claim s (2 ^ i) ∷ []) x (placed-s (2 ^ i), tt) k lr in
            let high = ap (λ z. has (hi z s) i) c.1 ∙ ap (λ m. has m i) (claim-high bd some x c.0 s (2 ^ i) on.first s) ∙ a in
            let low = ap (λ z. has (lo z s) i) c.1 ∙ ap (λ m. has m i) (claim-at bd some x c.0 s (2 ^ i) on.first) ∙ has-or (lo x s) (2 ^ i) i ∙ or_right _ _ (single-has i) in
            backwards _ lr (record {
              sure = λ f w e. absurd (both_ways _ f high);
              sole = λ f o w e. absurd (both_ways _ f high);
              maybe = λ h f. absurd (both_ways _ f low);
            }))
        go true false d a z _ = by (implied_by i) [] (λ y o n e. tt)
            (λ lr.
            let u = first free free in
            let p = free-has u (first-has free free (small free) z) in
            backwards x lr (record {
              sure = λ f w e. absurd (both_ways _ f a);
              sole = λ f o w e. absurd (both_ways _ f a);
              maybe = λ h f. (u, p.0, p.1);
            }))

-- an implication that fits
pub implication-tight : (bd : Board) → 0 < bd.sensors → (q : Implication) → implication_fault bd q ≡ 0 → (x : Box) → Kept bd x → narrowed (narrow bd) (entries q x) x ≡ implication_run bd q x
implication-tight bd some (Excluded i s) e x k = excluded-tight bd some x k i s (excludes bd i s e)
implication-tight bd some (Implies i s t) e x k = implies-tight bd some x k i s t (links bd i s t e)
implication-tight bd some (ImpliedBy i s t) e x k = implied-by-tight bd some x k i s t (links bd i s t e)

-- in a stored box
pub implication_runs : (d : Domains) (q : Implication) → implication_fault (board d) q ≡ 0 → narrowed (narrow (board d)) (entries q (model d)) (model d) ≡ implication_run (board d) q (model d)
implication_runs d q z = implication-tight (board d) (some d) q z (model d) (is-kept d)
