-- The slots that bound slots lead to are the groups of their sensors. Assumes nothing.
use Rattle.std.proofs.Common.{◌≡◌, ℕ, zero, suc, ◌+◌, ◌^◌, ◌<◌, ◌≤◌, Bool, true, false, cond, ◌&&◌, ltb, ◌⊎◌, List, length, get_or, set, sym, refl, ap, ◌∙◌, subst, inl, inr, arith, length-set, get_or-set_other, get_or-set_same}
use lib.Bits.{bit_and, bit_or}
use lib.Count.{ones, ones-ones}
use Rattle.std.proofs.lemmas.Bool.{cases_eq, cases_Bool, both_ways, and_from, and_parts, lt-ltb, ltb-true}
use Rattle.masks.specs.Masks.{has, without, tally, Parted}
use Rattle.masks.proofs.Masks.{has-and, has-zero, has-below}
use Rattle.masks.proofs.Subsets.{has-ext, small, single-has, single-other}
use Rattle.masks.proofs.Counts.{ones-tally}
use Rattle.covering.specs.Covering.{Covering, Short, Allowed, Needed, candidate}
use Rattle.covering.proofs.Coverings.{widen}
use Rattle.covering.proofs.Shorts.{short-needed}
use Rattle.covering.proofs.Singles.{or-here, or-keeps, or-only, or-not, or-other, or-ones, drop_keeps, drop-only, drop-apart, drop-ones, less-has, less-only, part-only, part-out}
use Rattle.spares.specs.Closure.{Leads, stay, step, Closing}
use Rattle.spares.specs.Free.{Idle, Freed}
use Rattle.spares.specs.Rows.{Rowed}
use Rattle.spares.proofs.Moves.{put, put-here, put-there, put-covers}

-- ---- the sensors of some slots below n

image : (ℕ → ℕ) → (ℕ → Bool) → ℕ → ℕ
image on p zero = 0
image on p (suc n) = cond (p n) (bit_or (image on p n) (2 ^ on n)) (image on p n)

image-has : (on : ℕ → ℕ) (p : ℕ → Bool) (n v : ℕ) → v < n → p v ≡ true → has (image on p n) (on v) ≡ true
unfolding image
image-has on p zero v l e = absurd (omega arith)
image-has on p (suc n) v l e = elim (cases_eq v n) [
  | inl z ↦ rw (sym z) (rw e (or-here (image on p v) (on v)))
  | inr ne ↦ go (p n) (image-has on p n v (omega (arith, ne)) e)
]
  where
    go : (b : Bool) → has (image on p n) (on v) ≡ true → has (cond b (bit_or (image on p n) (2 ^ on n)) (image on p n)) (on v) ≡ true
    go true h = or-keeps (image on p n) (on n) (on v) h
    go false h = h

one_more : (m i : ℕ) → ones (bit_or m (2 ^ i)) ≤ ones m + 1
one_more m i = elim (cases_Bool (has m i)) [
  | inl t ↦ omega (arith, ap ones (same t))
  | inr f ↦ omega (arith, or-ones i m f)
]
  where
    same : has m i ≡ true → bit_or m (2 ^ i) ≡ m
    same t = has-ext _ m (λ k. elim (cases_eq k i) [
      | inl z ↦ rw z (or-here m i ∙ sym t)
      | inr ne ↦ or-other m i k ne
    ])

image-ones : (on : ℕ → ℕ) (p : ℕ → Bool) (n : ℕ) → ones (image on p n) ≤ tally p n
unfolding image
image-ones on p zero = omega (arith, ones-ones 0)
image-ones on p (suc n) = go (p n) (image-ones on p n)
  where
    go : (b : Bool) → ones (image on p n) ≤ tally p n → ones (cond b (bit_or (image on p n) (2 ^ on n)) (image on p n)) ≤ cond b 1 0 + tally p n
    go true h = omega (arith, one_more (image on p n) (on n))
    go false h = omega arith

-- ---- edges between bound slots

pub rowed-start : (cands : List ℕ) (on : ℕ → ℕ) (slots : ℕ) (rows : List ℕ) → length rows ≡ 64 → ((v : ℕ) → v < 64 → get_or rows v 0 ≡ 0)
    → Rowed cands on slots slots rows
rowed-start cands on slots rows l z = record { long = l; inside = λ v e. e; each = λ v e f. absurd (both_ways _ f e); none = λ v l f. z v l }

pub rowed-more : {cands rows : List ℕ} {on : ℕ → ℕ} {slots left v rest : ℕ} → Parted left v rest → Rowed cands on slots left rows
    → Rowed cands on slots rest (set rows v (bit_and (get_or cands (on v) 0) slots))
rowed-more {cands} {rows} {on} {slots} {left} {v} p h = record {
  long = length-set rows v _ ∙ h.long;
  inside = λ x e. h.inside x (part-only p x e);
  each = λ x e f. elim (cases_eq x v) [
    | inl z ↦ subst (λ (y : ℕ). get_or (set rows v (bit_and (get_or cands (on v) 0) slots)) y 0 ≡ bit_and (get_or cands (on y) 0) slots) (sym z)
        (get_or-set_same rows v _ 0 (let a = h.long in let b = p.low in omega arith))
    | inr ne ↦ get_or-set_other rows v x _ 0 ne ∙ h.each x e (part-out p x ne f)
  ];
  none = λ x k f. get_or-set_other rows v x _ 0 (λ z. both_ways _ f (subst (λ (y : ℕ). has slots y ≡ true) (sym z) (h.inside v p.member))) ∙ h.none x k f;
}

pub rowed-all : {cands rows : List ℕ} {on : ℕ → ℕ} {slots left : ℕ} → left ≡ 0 → Rowed cands on slots left rows → Rowed cands on slots 0 rows
rowed-all {cands} {rows} {on} {slots} z h = subst (λ (x : ℕ). Rowed cands on slots x rows) z h

-- slot v is next to u where the sensor of v could take u
pub record Edges (can : ℕ → ℕ → Bool) (on : ℕ → ℕ) (bound : ℕ) (edges : List ℕ) : Type 0 where
  pub only : (u v : ℕ) → u < 64 → has (get_or edges u 0) v ≡ true → (has bound u ≡ true) × (has bound v ≡ true) × (can (on v) u ≡ true)
  pub all : (u v : ℕ) → u < 64 → has bound u ≡ true → has bound v ≡ true → can (on v) u ≡ true → has (get_or edges u 0) v ≡ true

pub edges-of : {cands rows edges : List ℕ} {on : ℕ → ℕ} {bound : ℕ} → ((v : ℕ) → has bound v ≡ true → v < 64) → Rowed cands on bound 0 rows
    → ((u v : ℕ) → u < 64 → has (get_or edges u 0) v ≡ (ltb v 64 && has (get_or rows v 0) u)) → Edges (candidate cands) on bound edges
edges-of {cands} {rows} {edges} {on} {bound} low h t = record {
  only = λ u v l e.
      let p = and_parts _ _ (sym (t u v l) ∙ e) in
      elim (cases_Bool (has bound v)) [
        | inl b ↦
            let q = and_parts _ _ (sym (has-and (get_or cands (on v) 0) bound u) ∙ ap (λ (m : ℕ). has m u) (sym (h.each v b (has-zero v))) ∙ p.1) in
            (q.1, b, q.0)
        | inr f ↦ absurd (both_ways _ (ap (λ (m : ℕ). has m u) (h.none v (ltb-true v 64 p.0) f) ∙ has-zero u) p.1)
      ];
  all = λ u v l bu bv e. t u v l ∙ and_from _ _ (lt-ltb v 64 (low v bv))
      (ap (λ (m : ℕ). has m u) (h.each v bv (has-zero v)) ∙ has-and (get_or cands (on v) 0) bound u ∙ and_from _ _ e bu);
}

-- ---- what a bound slot leads to

module _ {can : ℕ → ℕ → Bool} {sensors claimed : ℕ} {on : ℕ → ℕ} (c : Covering can sensors claimed on) {free : ℕ} (h : Freed can sensors claimed on free free)
    (low : (v : ℕ) → has claimed v ≡ true → v < 64)
    (owns : (j : ℕ) → has sensors j ≡ true → Idle claimed on j ⊎ ((w : ℕ) × (has claimed w ≡ true) × (on w ≡ j)))
    {edges next : List ℕ} (g : Edges can on (without claimed free) edges) {end : ℕ} (ends : (v : ℕ) → has (without claimed free) v ≡ true → v < end) (n : Closing end edges (without claimed free) 0 next)
    (u : ℕ) (bu : has (without claimed free) u ≡ true) where
  bound-claimed : (v : ℕ) → has (without claimed free) v ≡ true → has claimed v ≡ true
  bound-claimed v b = (less-only claimed free v b).0

  cu : has claimed u ≡ true
  cu = bound-claimed u bu

  leads-bound : {v : ℕ} → Leads edges u v → has (without claimed free) v ≡ true
  leads-bound stay = bu
  leads-bound (step x y p e) = (g.only x y (low x (bound-claimed x (leads-bound p))) e).1

  group-bound : (v : ℕ) → has (get_or next u 0) v ≡ true → has (without claimed free) v ≡ true
  group-bound v e = leads-bound (n.from u v (ends u bu) e)

  -- a sensor that has a slot of the group as a candidate has a slot of the group
  shut : (j v : ℕ) → has sensors j ≡ true → has (get_or next u 0) v ≡ true → can j v ≡ true → (w : ℕ) × (has (get_or next u 0) w ≡ true) × (on w ≡ j)
  shut j v s e t =
      let bv = group-bound v e in
      let p = less-only claimed free v bv in
      elim (owns j s) [
        | inl idle ↦ absurd (both_ways _ p.1 (h.idle j v s idle p.0 t))
        | inr q ↦
            let took : can (on q.0) v ≡ true = subst (λ (x : ℕ). can x v ≡ true) (sym q.2) t in
            elim (cases_Bool (has free q.0)) [
              | inl f ↦ absurd (both_ways _ p.1 (h.shut q.0 v f p.0 took))
              | inr f ↦
                  let bw = less-has claimed free q.0 q.1 f in
                  let e' = n.edge v q.0 (ends v bv) (g.all v q.0 (low v p.0) bv bw took) in
                  (q.0, n.via v u q.0 bv (has-zero v) (ends u bu) e e', q.2)
            ]
      ]

  group-short : Short can (without sensors (2 ^ on u)) claimed (get_or next u 0)
  group-short = record {
    inside = λ v e. bound-claimed v (group-bound v e);
    near = image on (has others) others;
    all = λ j v s e t.
        let q = shut j v (drop-only sensors (on u) j s) e t in
        let ne : q.0 ≡ u → ⊥ = (λ z. drop-apart sensors (on u) j s (sym q.2 ∙ ap on z)) in
        let k = drop_keeps (get_or next u 0) u q.0 ne q.1 in
        subst (λ (x : ℕ). has (image on (has others) others) x ≡ true) q.2 (image-has on (has others) others q.0 (has-below others others q.0 (small others) k) k);
    fewer = omega (arith, image-ones on (has others) others, ones-tally others others (small others), drop-ones u (get_or next u 0) here);
  }
    where
      others : ℕ
      others = without (get_or next u 0) (2 ^ u)

      here : has (get_or next u 0) u ≡ true
      here = n.edge u u (ends u bu) (g.all u u (low u cu) bu bu (c.fits u cu))

  -- without the sensor of u the other slots can be covered, also with another slot of s bare in place of u; slots outside s are as before
  record Turn (s x : ℕ) : Type 0 where
    over : ℕ → ℕ
    covers : Covering can (without sensors (2 ^ on u)) (without claimed (2 ^ x)) over
    same : (v : ℕ) → has claimed v ≡ true → has s v ≡ false → over v ≡ on v

  turn-start : Turn (2 ^ u) u
  turn-start = record {
    over = on;
    covers = record {
      among = λ v e. drop_keeps sensors (on u) (on v) (λ z. drop-apart claimed u v e (c.apart v u (drop-only claimed u v e) cu z)) (c.among v (drop-only claimed u v e));
      fits = λ v e. c.fits v (drop-only claimed u v e);
      apart = λ v w ev ew. c.apart v w (drop-only claimed u v ev) (drop-only claimed u w ew);
    };
    same = λ v e f. refl;
  }

  turn_step : (s x y : ℕ) → has s x ≡ true → has s y ≡ false → has claimed y ≡ true → can (on y) x ≡ true → Turn s x → Turn (bit_or s (2 ^ y)) y
  turn_step s x y sx sy cy t r =
      let there = drop_keeps claimed x y (λ z. both_ways _ sy (subst (λ (k : ℕ). has s k ≡ true) (sym z) sx)) cy in
      record {
        over = put r.over x (on y);
        covers = put-covers x (on y) r.covers (subst (λ (k : ℕ). has (without sensors (2 ^ on u)) k ≡ true) (r.same y cy sy) (r.covers.among y there)) t
            (λ v e ne. drop_keeps claimed x v ne (drop-only claimed y v e))
            (λ v e ne z. drop-apart claimed y v e (r.covers.apart v y (drop_keeps claimed x v ne (drop-only claimed y v e)) there (z ∙ sym (r.same y cy sy))));
        same = λ v e f.
            let fs = or-not s y v f in
            put-there r.over x (on y) v (λ z. both_ways _ fs (subst (λ (k : ℕ). has s k ≡ true) (sym z) sx)) ∙ r.same v e fs;
      }

  turn-wider : (s y x : ℕ) → Turn s x → Turn (bit_or s (2 ^ y)) x
  turn-wider s y x r = record { over = r.over; covers = r.covers; same = λ v e f. r.same v e (or-not s y v f) }

  Turns : ℕ → Type 0
  Turns s = (x : ℕ) → has s x ≡ true → Turn s x

  turns-start : Turns (2 ^ u)
  unfolding Turns
  turns-start x e = elim (cases_eq x u) [
    | inl z ↦ subst (Turn (2 ^ u)) (sym z) turn-start
    | inr ne ↦ absurd (both_ways _ (single-other u x (λ z. ne (sym z))) e)
  ]

  turns_more : (s x y : ℕ) → Turns s → has s x ≡ true → has s y ≡ false → has claimed y ≡ true → can (on y) x ≡ true → Turns (bit_or s (2 ^ y))
  unfolding Turns
  turns_more s x y r sx sy cy t z e = elim (or-only s y z e) [
    | inl q ↦ subst (Turn (bit_or s (2 ^ y))) (sym q) (turn_step s x y sx sy cy t (r x sx))
    | inr q ↦ turn-wider s y z (r z q)
  ]

  leads-turns : {v : ℕ} → Leads edges u v → (s : ℕ) × Turns s × (has s v ≡ true)
  leads-turns stay = (2 ^ u, turns-start, single-has u)
  leads-turns (step x y p e) =
      let r = leads-turns p in
      let q = g.only x y (low x (bound-claimed x (leads-bound p))) e in
      elim (cases_Bool (has r.0 y)) [
        | inl t ↦ (r.0, r.1, t)
        | inr f ↦ (bit_or r.0 (2 ^ y), turns_more r.0 x y r.1 r.2 f (bound-claimed y q.1) q.2, or-here r.0 y)
      ]

  group-may : (v : ℕ) → has (get_or next u 0) v ≡ true → can (on u) v ≡ true → Allowed can sensors claimed (on u) v
  unfolding Turns
  group-may v e t =
      let q = leads-turns (n.from u v (ends u bu) e) in
      let r = q.1 v q.2 in
      record {
        on = put r.over v (on u);
        covers = put-covers v (on u) (widen sensors (on u) r.covers) (c.among u cu) t (λ w k ne. drop_keeps claimed v w ne k)
            (λ w k ne. drop-apart sensors (on u) (r.over w) (r.covers.among w (drop_keeps claimed v w ne k)));
        claims = bound-claimed v (group-bound v e);
        here = put-here r.over v (on u) v refl;
      }

  pub group-needed : Needed can sensors claimed (on u) (get_or next u 0)
  group-needed = short-needed group-short group-may
