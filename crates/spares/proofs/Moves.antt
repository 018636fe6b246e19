-- A covering in which a slot is moved to another sensor, and the slots that are freed so. Assumes nothing.
use Rattle.std.proofs.Common.{◌≡◌, ℕ, Bool, true, false, cond, eqb, ◌⊎◌, List, get_or, sym, ◌∙◌, subst, inl, inr}
use lib.Bits.{bit_and, bit_or}
use Rattle.std.proofs.lemmas.Bool.{cases_eq, cases_Bool, both_ways, and_from, and_parts, or_cases, or_parts, or_left, or_right, cond-true, cond-false, eq-eqb, ne_eqb}
use Rattle.masks.specs.Masks.{has, Parted}
use Rattle.masks.proofs.Masks.{has-and, has-or, has-zero}
use Rattle.covering.specs.Covering.{Covering, candidate}
use Rattle.covering.proofs.Singles.{part-only, part-out}
use Rattle.spares.specs.Free.{Offered, Idle, Without, Freed}

-- slot x on sensor j, the others as before
abbrev pub put : (ℕ → ℕ) → ℕ → ℕ → ℕ → ℕ
put on x j v = cond (eqb v x) j (on v)

pub put-here : (on : ℕ → ℕ) (x j v : ℕ) → v ≡ x → put on x j v ≡ j
put-here on x j v z = cond-true _ j (on v) (eq-eqb v x z)

pub put-there : (on : ℕ → ℕ) (x j v : ℕ) → (v ≡ x → ⊥) → put on x j v ≡ on v
put-there on x j v ne = cond-false _ j (on v) (ne_eqb v x ne)

-- a sensor that none of the slots is on takes x
pub put-covers : {can : ℕ → ℕ → Bool} {sensors old new : ℕ} {on : ℕ → ℕ} (x j : ℕ) → Covering can sensors old on → has sensors j ≡ true → can j x ≡ true
    → ((v : ℕ) → has new v ≡ true → (v ≡ x → ⊥) → has old v ≡ true) → ((v : ℕ) → has new v ≡ true → (v ≡ x → ⊥) → on v ≡ j → ⊥)
    → Covering can sensors new (put on x j)
put-covers {can} {sensors} {old} {new} {on} x j c s t old-has fresh = record {
  among = λ v e. elim (cases_eq v x) [
    | inl z ↦ subst (λ (y : ℕ). has sensors y ≡ true) (sym (put-here on x j v z)) s
    | inr ne ↦ subst (λ (y : ℕ). has sensors y ≡ true) (sym (put-there on x j v ne)) (c.among v (old-has v e ne))
  ];
  fits = λ v e. elim (cases_eq v x) [
    | inl z ↦ subst (λ (y : ℕ). can y v ≡ true) (sym (put-here on x j v z)) (subst (λ (y : ℕ). can j y ≡ true) (sym z) t)
    | inr ne ↦ subst (λ (y : ℕ). can y v ≡ true) (sym (put-there on x j v ne)) (c.fits v (old-has v e ne))
  ];
  apart = λ v u ev eu q. elim (cases_eq v x) [
    | inl z ↦ elim (cases_eq u x) [
      | inl y ↦ z ∙ sym y
      | inr ne ↦ absurd (fresh u eu ne (sym (put-there on x j u ne) ∙ sym q ∙ put-here on x j v z))
    ]
    | inr nv ↦ elim (cases_eq u x) [
      | inl y ↦ absurd (fresh v ev nv (sym (put-there on x j v nv) ∙ q ∙ put-here on x j u y))
      | inr nu ↦ c.apart v u (old-has v ev nv) (old-has u eu nu) (sym (put-there on x j v nv) ∙ q ∙ put-there on x j u nu)
    ]
  ];
}

-- ---- the slots that sensors without a slot could take

pub offered-start : (cands owner : List ℕ) (sensors claimed : ℕ) → Offered cands owner sensors claimed sensors 0
offered-start cands owner sensors claimed = record {
  inside = λ j e. e;
  all = λ j v s f. absurd (both_ways _ f s);
  from = λ v e. absurd (both_ways _ (has-zero v) e);
}

module _ {cands owner : List ℕ} {sensors claimed left found i rest : ℕ} (p : Parted left i rest) (h : Offered cands owner sensors claimed left found) where
  pub offered-less : (get_or owner i 0 ≡ 64 → ⊥) → Offered cands owner sensors claimed rest found
  offered-less ne = record {
    inside = λ j t. h.inside j (part-only p j t);
    all = λ j v s f o k t. elim (cases_eq j i) [
      | inl z ↦ absurd (ne (subst (λ (x : ℕ). get_or owner x 0 ≡ 64) z o))
      | inr nj ↦ h.all j v s (part-out p j nj f) o k t
    ];
    from = h.from;
  }

  pub offered-more : get_or owner i 0 ≡ 64 → Offered cands owner sensors claimed rest (bit_or found (bit_and (get_or cands i 0) claimed))
  offered-more o = record {
    inside = λ j t. h.inside j (part-only p j t);
    all = λ j v s f z k t. has-or found (bit_and (get_or cands i 0) claimed) v ∙ elim (cases_eq j i) [
      | inl y ↦ or_right _ _ (has-and (get_or cands i 0) claimed v ∙ and_from _ _ (subst (λ (x : ℕ). candidate cands x v ≡ true) y t) k)
      | inr nj ↦ or_left _ _ (h.all j v s (part-out p j nj f) z k t)
    ];
    from = λ v t. elim (or_cases _ _ (sym (has-or found (bit_and (get_or cands i 0) claimed) v) ∙ t)) [
      | inl y ↦ h.from v y
      | inr y ↦ (let q = and_parts _ _ (sym (has-and (get_or cands i 0) claimed v) ∙ y) in (i, h.inside i p.member, o, q.1, q.0))
    ];
  }

pub offered-full : {cands owner : List ℕ} {sensors claimed left found : ℕ} → found ≡ claimed → Offered cands owner sensors claimed left found
    → Offered cands owner sensors claimed 0 found
offered-full z h = record {
  inside = λ j e. absurd (both_ways _ (has-zero j) e);
  all = λ j v s f o k t. subst (λ (x : ℕ). has x v ≡ true) (sym z) k;
  from = h.from;
}

pub offered-all : {cands owner : List ℕ} {sensors claimed left found : ℕ} → left ≡ 0 → Offered cands owner sensors claimed left found
    → Offered cands owner sensors claimed 0 found
offered-all {cands} {owner} {sensors} {claimed} {found = found} z h = subst (λ (x : ℕ). Offered cands owner sensors claimed x found) z h

-- ---- freed slots

module _ {can : ℕ → ℕ → Bool} {sensors claimed : ℕ} {on : ℕ → ℕ} (c : Covering can sensors claimed on) where
  pub freed-start : {done free : ℕ} → ((v : ℕ) → has done v ≡ true → ⊥)
      → ((u : ℕ) → has free u ≡ true → (j : ℕ) × (has sensors j ≡ true) × Idle claimed on j × (has claimed u ≡ true) × (can j u ≡ true))
      → ((j u : ℕ) → has sensors j ≡ true → Idle claimed on j → has claimed u ≡ true → can j u ≡ true → has free u ≡ true)
      → Freed can sensors claimed on done free
  freed-start {done} {free} none from all = record {
    inside = λ v e. (from v e).3;
    out = out;
    idle = all;
    shut = λ v u e. absurd (none v e);
  }
    where
      out : (u : ℕ) → has free u ≡ true → Without can sensors claimed on free u
      out u e =
          let q = from u e in
          let j = q.0 in
          record {
            over = put on u j;
            covers = put-covers u j c q.1 q.4 (λ v t ne. t) (λ v t ne. q.2 v t);
            unused = λ v t z. elim (cases_eq v u) [
              | inl y ↦ q.2 u q.3 (sym z ∙ put-here on u j v y)
              | inr ne ↦ ne (c.apart v u t q.3 (sym (put-there on u j v ne) ∙ z))
            ];
            same = λ v t f. put-there on u j v (λ z. both_ways _ f (subst (λ (x : ℕ). has free x ≡ true) (sym z) e));
          }

  -- the sensor of a free slot v is left out by some covering; it takes another slot over, whose sensor is then left out
  module _ {done free : ℕ} (v : ℕ) (fv : has free v ≡ true) (row : ℕ) (row_has : (u : ℕ) → has claimed u ≡ true → can (on v) u ≡ true → has row u ≡ true)
      (row-only : (u : ℕ) → has row u ≡ true → (has claimed u ≡ true) × (can (on v) u ≡ true)) (h : Freed can sensors claimed on done free) where
    parts : (x : ℕ) → has (bit_or free row) x ≡ false → (has free x ≡ false) × (has row x ≡ false)
    parts x f = or_parts _ _ (sym (has-or free row x) ∙ f)

    still : (u : ℕ) → Without can sensors claimed on free u → Without can sensors claimed on (bit_or free row) u
    still u w = record { over = w.over; covers = w.covers; unused = w.unused; same = λ x t f. w.same x t (parts x f).0 }

    taken : (u : ℕ) → has free u ≡ false → has row u ≡ true → Without can sensors claimed on (bit_or free row) u
    taken u f r =
        let w = h.out v fv in
        let q = row-only u r in
        record {
          over = put w.over u (on v);
          covers = put-covers u (on v) w.covers (c.among v (h.inside v fv)) q.1 (λ x t ne. t) (λ x t ne. w.unused x t);
          unused = λ x t z. elim (cases_eq x u) [
            | inl y ↦
                let same : v ≡ u = c.apart v u (h.inside v fv) q.0 (sym (put-here w.over u (on v) x y) ∙ z) in
                both_ways _ f (subst (λ (k : ℕ). has free k ≡ true) same fv)
            | inr ne ↦ ne (w.covers.apart x u t q.0 (sym (put-there w.over u (on v) x ne) ∙ z ∙ sym (w.same u q.0 f)))
          ];
          same = λ x t g.
              let p = parts x g in
              put-there w.over u (on v) x (λ z. both_ways _ p.1 (subst (λ (k : ℕ). has row k ≡ true) (sym z) r)) ∙ w.same x t p.0;
        }

    pub freed-more : {more : ℕ} → ((x : ℕ) → has more x ≡ true → (x ≡ v) ⊎ (has done x ≡ true)) → Freed can sensors claimed on more (bit_or free row)
    freed-more came = record {
      inside = λ u e. elim (or_cases _ _ (sym (has-or free row u) ∙ e)) [ inl y ↦ h.inside u y | inr y ↦ (row-only u y).0 ];
      out = λ u e. elim (cases_Bool (has free u)) [
        | inl t ↦ still u (h.out u t)
        | inr f ↦ elim (or_cases _ _ (sym (has-or free row u) ∙ e)) [ inl y ↦ absurd (both_ways _ f y) | inr y ↦ taken u f y ]
      ];
      idle = λ j u s i k t. has-or free row u ∙ or_left _ _ (h.idle j u s i k t);
      shut = λ x u d k t. has-or free row u ∙ elim (came x d) [
        | inl z ↦ or_right _ _ (row_has u k (subst (λ (y : ℕ). can (on y) u ≡ true) z t))
        | inr d' ↦ or_left _ _ (h.shut x u d' k t)
      ];
    }

pub freed-full : {can : ℕ → ℕ → Bool} {sensors claimed : ℕ} {on : ℕ → ℕ} {done free : ℕ} → free ≡ claimed
    → Freed can sensors claimed on done free → Freed can sensors claimed on free free
freed-full z h = record { inside = h.inside; out = h.out; idle = h.idle; shut = λ v u e k t. subst (λ (x : ℕ). has x u ≡ true) (sym z) k }

pub freed-all : {can : ℕ → ℕ → Bool} {sensors claimed : ℕ} {on : ℕ → ℕ} {done free : ℕ} → ((v : ℕ) → has free v ≡ true → has done v ≡ true)
    → Freed can sensors claimed on done free → Freed can sensors claimed on free free
freed-all all h = record { inside = h.inside; out = h.out; idle = h.idle; shut = λ v u e. h.shut v u (all v e) }
