-- The search for a free sensor, step by step. Assumes nothing.
use Rattle.std.proofs.Common.{◌≡◌, ℕ, ◌+◌, ◌^◌, ◌<◌, Bool, true, false, cond, not, ◌&&◌, ◌||◌, eqb, ◌⊎◌, List, length, get_or, set, sym, refl, ap, ◌∙◌, subst, inl, inr, arith, length-set, get_or-set_other, get_or-set_same}
use lib.Bits.{bit_and, bit_or, or_zero_r}
use lib.Count.{ones}
use Rattle.std.proofs.lemmas.Bool.{cases_eq, cases_Bool, both_ways, eq-eqb, ne_eqb, cond-true, cond-false, and_parts, and_from, or_from, or_right}
use Rattle.masks.specs.Masks.{has, without, Parted}
use Rattle.masks.proofs.Masks.{has-and, has-or, has-without, has-zero}
use Rattle.masks.proofs.Subsets.{has-ext}
use Rattle.covering.specs.Search.{Owners, Marks, Hunt, Led}
use Rattle.covering.proofs.Singles.{Joined, or-here, or-keeps, or-only, or-not, or-ones, drop-gone, drop-other, drop-only, less-only, less-not, less-joined, drop-ones}

-- ---- the marks, with sensor i seen from slot u

stamp : (ℕ → ℕ) → ℕ → ℕ → ℕ → ℕ
stamp when i t j = cond (eqb j i) t (when j)

stamp-here : (when : ℕ → ℕ) (i t : ℕ) → stamp when i t i ≡ t
unfolding stamp
stamp-here when i t = cond-true (eqb i i) t (when i) (eq-eqb i i refl)

stamp-there : (when : ℕ → ℕ) (i t j : ℕ) → (j ≡ i → ⊥) → stamp when i t j ≡ when j
unfolding stamp
stamp-there when i t j ne = cond-false (eqb j i) t (when j) (ne_eqb j i ne)

module _ {takers owner from : List ℕ} {sensors w seen u i next : ℕ} (m : Marks takers owner sensors w from seen) (long : length from ≡ 64)
    (li : i < 64) (lu : u < 64) (new : has seen i ≡ false) (j : Joined seen i next) (ei : has sensors i ≡ true) (ti : has (get_or takers u 0) i ≡ true)
    (way : (u ≡ w) ⊎ ((k : ℕ) × (has seen k ≡ true) × (get_or owner k 0 ≡ u))) where
  when' : ℕ → ℕ
  when' = stamp m.when i (ones seen)

  apart : (k : ℕ) → has seen k ≡ true → k ≡ i → ⊥
  apart k s e = both_ways _ new (subst (λ (x : ℕ). has seen x ≡ true) e s)

  from-here : get_or (set from i u) i 0 ≡ u
  from-here = get_or-set_same from i u 0 (omega arith)

  -- what holds of i with u, and of the sensors seen before with their marks, holds of all
  every : (P : ℕ → ℕ → ℕ → Type 0) → P i u (ones seen) → ((k : ℕ) → has seen k ≡ true → P k (get_or from k 0) (m.when k))
      → (k : ℕ) → has next k ≡ true → P k (get_or (set from i u) k 0) (stamp m.when i (ones seen) k)
  every P a b k s = elim (j.only k s) [
    | inl e ↦ subst (λ (x : ℕ). P x (get_or (set from i u) x 0) (stamp m.when i (ones seen) x)) (sym e)
        (subst (λ (y : ℕ). P i y (stamp m.when i (ones seen) i)) (sym from-here) (subst (λ (t : ℕ). P i u t) (sym (stamp-here m.when i (ones seen))) a))
    | inr old ↦ subst (λ (y : ℕ). P k y (stamp m.when i (ones seen) k)) (sym (get_or-set_other from i k u 0 (apart k old)))
        (subst (λ (t : ℕ). P k (get_or from k 0) t) (sym (stamp-there m.when i (ones seen) k (apart k old))) (b k old))
  ]

  -- a sensor seen earlier keeps its time
  earlier : {x t : ℕ} → (k : ℕ) × (has seen k ≡ true) × (get_or owner k 0 ≡ x) × (m.when k < t)
      → (k : ℕ) × (has next k ≡ true) × (get_or owner k 0 ≡ x) × (stamp m.when i (ones seen) k < t)
  earlier {t = t} q = (q.0, j.keeps q.0 q.1, q.2, subst (λ (y : ℕ). y < t) (sym (stamp-there m.when i (ones seen) q.0 (apart q.0 q.1))) q.3)

  pub see-marks : Marks takers owner sensors w (set from i u) next
  see-marks = record {
    when = stamp m.when i (ones seen);
    edge = every (λ k x t. (has sensors k ≡ true) × (x < 64) × (has (get_or takers x 0) k ≡ true)) (ei, lu, ti) m.edge;
    back = every (λ k x t. (x ≡ w) ⊎ ((o : ℕ) × (has next o ≡ true) × (get_or owner o 0 ≡ x) × (stamp m.when i (ones seen) o < t)))
        (elim way [ inl e ↦ inl e | inr q ↦ inr (earlier (q.0, q.1, q.2, m.old q.0 q.1)) ])
        (λ k s. elim (m.back k s) [ inl e ↦ inl e | inr q ↦ inr (earlier q) ]);
    old = every (λ k x t. t < ones next) (let a = j.one new in omega arith) (λ k s. let a = j.one new in let b = m.old k s in omega arith);
  }

-- ---- the search at its start and at its end

none_seen : (m k : ℕ) → has (without m m) k ≡ true → ⊥
none_seen m k e = let p = less-only m m k e in both_ways _ p.1 p.0

zero-ones : ones 0 ≡ 0
unfolding ones
zero-ones = refl

pub start : (takers owner : List ℕ) (sensors w : ℕ) (from : List ℕ) → w < 64 → length from ≡ 64
    → Hunt takers owner sensors w from sensors (bit_or 0 (2 ^ w)) (bit_or 0 (2 ^ w))
start takers owner sensors w from lw long = record {
  marks = record {
    when = λ k. 0;
    edge = λ k e. absurd (none_seen sensors k e);
    back = λ k e. absurd (none_seen sensors k e);
    old = λ k e. absurd (none_seen sensors k e);
  };
  long = long;
  fresh = λ k e. e;
  came = λ v e. elim (or-only 0 w v e) [ inl z ↦ inl z | inr t ↦ absurd (both_ways _ (has-zero v) t) ];
  low = λ v e. elim (or-only 0 w v e) [ inl z ↦ omega arith | inr t ↦ absurd (both_ways _ (has-zero v) t) ];
  inside = λ v e. e;
  shut = λ v e f. absurd (both_ways _ f e);
  count = omega (arith, or-ones w 0 (has-zero w), none, zero-ones);
}
  where
    none : ones (without sensors sensors) ≡ ones 0
    none = ap ones (has-ext _ 0 (λ k. elim (cases_Bool (has (without sensors sensors) k)) [
      | inl t ↦ absurd (none_seen sensors k t)
      | inr f ↦ f ∙ sym (has-zero k)
    ]))

-- ---- one turn

module _ {takers owner from : List ℕ} {sensors w unseen reached pending : ℕ} (h : Hunt takers owner sensors w from unseen reached pending) where
  -- every sensor of slot u was looked at
  pub turned : (u : ℕ) → bit_and (get_or takers u 0) unseen ≡ 0 → Hunt takers owner sensors w from unseen reached (without pending (2 ^ u))
  turned u e = record {
    marks = h.marks;
    long = h.long;
    fresh = h.fresh;
    came = h.came;
    low = h.low;
    inside = λ v t. h.inside v (drop-only pending u v t);
    shut = λ v r f i s t. elim (cases_eq v u) [
      | inl z ↦ gone i (subst (λ (x : ℕ). has (get_or takers x 0) i ≡ true) z t)
      | inr ne ↦ h.shut v r (sym (drop-other pending u v ne) ∙ f) i s t
    ];
    count = h.count;
  }
    where
      gone : (i : ℕ) → has (get_or takers u 0) i ≡ true → has unseen i ≡ false
      gone i t = elim (cases_Bool (has unseen i)) [
        | inl q ↦ absurd (both_ways _ (has-zero i) (subst (λ (x : ℕ). has x i ≡ true) e (has-and (get_or takers u 0) unseen i ∙ and_from _ _ t q)))
        | inr f ↦ f
      ]

  -- sensor i is seen from slot u
  module _ {u i : ℕ} (li : i < 64) (lu : u < 64) (near : has (bit_and (get_or takers u 0) unseen) i ≡ true) (pu : has pending u ≡ true) where
    taker : has (get_or takers u 0) i ≡ true
    taker = (and_parts _ _ (sym (has-and (get_or takers u 0) unseen i) ∙ near)).0

    pub hidden : has unseen i ≡ true
    hidden = (and_parts _ _ (sym (has-and (get_or takers u 0) unseen i) ∙ near)).1

    pub among : has sensors i ≡ true
    among = h.fresh i hidden

    joined : Joined (without sensors unseen) i (without sensors (without unseen (2 ^ i)))
    joined = less-joined sensors unseen i among hidden

    marks : Marks takers owner sensors w (set from i u) (without sensors (without unseen (2 ^ i)))
    marks = see-marks h.marks h.long li lu (less-not sensors unseen i hidden) joined among taker (h.came u (h.inside u pu))

    pub found : get_or owner i 0 ≡ 64 → Led takers owner sensors w (set from i u) i
    found e = record { seen = without sensors (without unseen (2 ^ i)); marks = marks; last = joined.here; idle = e }

    pub slotted : Owners owner sensors w → (get_or owner i 0 ≡ 64 → ⊥) → get_or owner i 0 < 64
    slotted o ne = omega (arith, o.low i among, ne)

    -- the slot of a sensor that was not seen was not reached
    unreached : Owners owner sensors w → get_or owner i 0 < 64 → has reached (get_or owner i 0) ≡ false
    unreached o l = elim (cases_Bool (has reached (get_or owner i 0))) [
      | inr f ↦ f
      | inl t ↦ elim (h.came (get_or owner i 0) t) [
        | inl z ↦ absurd (o.other i among z)
        | inr q ↦
            let p = less-only sensors unseen q.0 q.1 in
            let same : i ≡ q.0 = o.one i q.0 among p.0 l (sym q.2) in
            absurd (both_ways _ p.1 (subst (λ (x : ℕ). has unseen x ≡ true) same hidden))
      ]
    ]

    pub seen : Owners owner sensors w → get_or owner i 0 < 64
        → Hunt takers owner sensors w (set from i u) (without unseen (2 ^ i)) (bit_or reached (2 ^ get_or owner i 0)) (bit_or pending (2 ^ get_or owner i 0))
    seen o l = record {
      marks = marks;
      long = length-set from i u ∙ h.long;
      fresh = λ k e. h.fresh k (drop-only unseen i k e);
      came = λ v e. elim (or-only reached (get_or owner i 0) v e) [
        | inl z ↦ inr (i, joined.here, sym z)
        | inr t ↦ elim (h.came v t) [ inl z ↦ inl z | inr q ↦ inr (q.0, joined.keeps q.0 q.1, q.2) ]
      ];
      low = λ v e. elim (or-only reached (get_or owner i 0) v e) [ inl z ↦ omega arith | inr t ↦ h.low v t ];
      inside = λ v e. elim (or-only pending (get_or owner i 0) v e) [
        | inl z ↦ subst (λ (x : ℕ). has (bit_or reached (2 ^ get_or owner i 0)) x ≡ true) (sym z) (or-here reached (get_or owner i 0))
        | inr t ↦ or-keeps reached (get_or owner i 0) v (h.inside v t)
      ];
      shut = λ v r f k s t. elim (or-only reached (get_or owner i 0) v r) [
        | inl z ↦ absurd (both_ways _ f (subst (λ (x : ℕ). has (bit_or pending (2 ^ get_or owner i 0)) x ≡ true) (sym z) (or-here pending (get_or owner i 0))))
        | inr q ↦ elim (cases_eq k i) [
          | inl z ↦ subst (λ (x : ℕ). has (without unseen (2 ^ i)) x ≡ false) (sym z) (drop-gone unseen i)
          | inr ne ↦ drop-other unseen i k ne ∙ h.shut v q (or-not pending (get_or owner i 0) v f) k s t
        ]
      ];
      count = omega (arith, h.count, or-ones (get_or owner i 0) reached (unreached o l), joined.one (less-not sensors unseen i hidden));
    }

    pub stays : has (bit_or pending (2 ^ get_or owner i 0)) u ≡ true
    stays = or-keeps pending (get_or owner i 0) u pu

    -- what is left to look at does not grow
    pub level : Owners owner sensors w → get_or owner i 0 < 64
        → ones (without unseen (2 ^ i)) + ones (bit_or pending (2 ^ get_or owner i 0)) ≡ ones unseen + ones pending
    level o l =
        let f : has pending (get_or owner i 0) ≡ false = elim (cases_Bool (has pending (get_or owner i 0))) [
          | inl t ↦ absurd (both_ways _ (unreached o l) (h.inside _ t))
          | inr f ↦ f
        ] in
        omega (arith, or-ones (get_or owner i 0) pending f, drop-ones i unseen hidden)

-- ---- the sensors of one slot u: those of `fresh` are still to be looked at

pub record Round (takers owner : List ℕ) (sensors w : ℕ) (from : List ℕ) (unseen fresh reached pending u : ℕ) : Type 0 where
  pub hunt : Hunt takers owner sensors w from (bit_or unseen fresh) reached pending
  pub at : has pending u ≡ true
  pub near : (i : ℕ) → has fresh i ≡ true → has (get_or takers u 0) i ≡ true
  pub rest : (i : ℕ) → has (get_or takers u 0) i ≡ true → has unseen i ≡ false

-- a part taken out and taken in again
back_in : (a b : ℕ) → bit_or (without a (bit_and b a)) (bit_and b a) ≡ a
back_in a b = has-ext _ a (λ k.
    has-or (without a (bit_and b a)) (bit_and b a) k ∙ go _ _ _ _ (has-without a (bit_and b a) k) (has-and b a k))
  where
    go : (x y p q : Bool) → x ≡ (p && not y) → y ≡ (q && p) → (x || y) ≡ p
    go true y true q e f = refl
    go true y false q e f = e
    go false true true q e f = refl
    go false true false true e f = f
    go false true false false e f = f
    go false false true q e f = e
    go false false false q e f = refl

pub round-level : (unseen t : ℕ) → ones (bit_or (without unseen (bit_and t unseen)) (bit_and t unseen)) ≡ ones unseen
round-level unseen t = ap ones (back_in unseen t)

pub round-start : {takers owner from : List ℕ} {sensors w unseen reached pending : ℕ} (u : ℕ) → Hunt takers owner sensors w from unseen reached pending
    → has pending u ≡ true
    → Round takers owner sensors w from (without unseen (bit_and (get_or takers u 0) unseen)) (bit_and (get_or takers u 0) unseen) reached pending u
round-start {takers} {owner} {from} {sensors} {w} {unseen} {reached} {pending} u h p = record {
  hunt = subst (λ (x : ℕ). Hunt takers owner sensors w from x reached pending) (sym (back_in unseen (get_or takers u 0))) h;
  at = p;
  near = λ i e. (and_parts _ _ (sym (has-and (get_or takers u 0) unseen i) ∙ e)).0;
  rest = λ i e. elim (cases_Bool (has (without unseen (bit_and (get_or takers u 0) unseen)) i)) [
    | inr f ↦ f
    | inl t ↦
        let q = less-only unseen (bit_and (get_or takers u 0) unseen) i t in
        absurd (both_ways _ q.1 (has-and (get_or takers u 0) unseen i ∙ and_from _ _ e q.0))
  ];
}

module _ {takers owner from : List ℕ} {sensors w unseen fresh reached pending u : ℕ} (r : Round takers owner sensors w from unseen fresh reached pending u) where
  u-low : u < 64
  u-low = r.hunt.low u (r.hunt.inside u r.at)

  pub round-end : fresh ≡ 0 → Hunt takers owner sensors w from unseen reached (without pending (2 ^ u))
  round-end z =
      let e : bit_or unseen fresh ≡ unseen = ap (bit_or unseen) z ∙ or_zero_r unseen in
      turned (subst (λ (x : ℕ). Hunt takers owner sensors w from x reached pending) e r.hunt) u none
    where
      none : bit_and (get_or takers u 0) unseen ≡ 0
      none = has-ext _ 0 (λ k. has-and (get_or takers u 0) unseen k ∙ go _ _ (r.rest k) ∙ sym (has-zero k))
        where
          go : (x y : Bool) → (x ≡ true → y ≡ false) → (x && y) ≡ false
          go true y f = f refl
          go false y f = refl

  module _ {i rest : ℕ} (s : Parted fresh i rest) where
    is-near : has (bit_and (get_or takers u 0) (bit_or unseen fresh)) i ≡ true
    is-near = has-and (get_or takers u 0) (bit_or unseen fresh) i
        ∙ and_from _ _ (r.near i s.member) (has-or unseen fresh i ∙ or_right _ _ s.member)

    apart_out : without (bit_or unseen fresh) (2 ^ i) ≡ bit_or unseen rest
    apart_out = has-ext _ _ (λ k. elim (cases_eq k i) [
      | inl z ↦ subst (λ (x : ℕ). has (without (bit_or unseen fresh) (2 ^ i)) x ≡ has (bit_or unseen rest) x) (sym z)
          (drop-gone (bit_or unseen fresh) i ∙ sym (has-or unseen rest i ∙ or_from _ _ (r.rest i (r.near i s.member))
          (ap (λ (x : ℕ). has x i) s.others ∙ drop-gone fresh i)))
      | inr ne ↦
          drop-other (bit_or unseen fresh) i k ne ∙ has-or unseen fresh k
          ∙ ap (λ (b : Bool). has unseen k || b) (sym (ap (λ (x : ℕ). has x k) s.others ∙ drop-other fresh i k ne)) ∙ sym (has-or unseen rest k)
    ])

    pub round-found : get_or owner i 0 ≡ 64 → Led takers owner sensors w (set from i u) i
    round-found e = found r.hunt s.low u-low is-near r.at e

    pub round-slot : Owners owner sensors w → (get_or owner i 0 ≡ 64 → ⊥) → get_or owner i 0 < 64
    round-slot o ne = slotted r.hunt s.low u-low is-near r.at o ne

    pub round-seen : Owners owner sensors w → get_or owner i 0 < 64
        → Round takers owner sensors w (set from i u) unseen rest (bit_or reached (2 ^ get_or owner i 0)) (bit_or pending (2 ^ get_or owner i 0)) u
    round-seen o l = record {
      hunt = subst (λ (x : ℕ). Hunt takers owner sensors w (set from i u) x (bit_or reached (2 ^ get_or owner i 0)) (bit_or pending (2 ^ get_or owner i 0))) apart_out
          (seen r.hunt s.low u-low is-near r.at o l);
      at = stays r.hunt s.low u-low is-near r.at;
      near = λ k e. r.near k (drop-only fresh i k (subst (λ (x : ℕ). has x k ≡ true) s.others e));
      rest = r.rest;
    }

    pub round_same : Owners owner sensors w → get_or owner i 0 < 64
        → ones (bit_or unseen rest) + ones (bit_or pending (2 ^ get_or owner i 0)) ≡ ones (bit_or unseen fresh) + ones pending
    round_same o l = ap (λ (x : ℕ). ones x + ones (bit_or pending (2 ^ get_or owner i 0))) (sym apart_out) ∙ level r.hunt s.low u-low is-near r.at o l
