-- A short group shuts out every covering: more slots than sensors. Assumes nothing.
use Rattle.std.proofs.Common.{◌≡◌, ℕ, zero, suc, ◌^◌, ◌<◌, ◌≤◌, Bool, true, sym, refl, ◌∙◌, subst, inl, inr, arith}
use lib.Count.{ones}
use Rattle.std.proofs.lemmas.Bool.{cases_Bool, both_ways}
use Rattle.masks.specs.Masks.{has, without, tally}
use Rattle.masks.proofs.Subsets.{small}
use Rattle.masks.proofs.Counts.{ones-tally}
use Rattle.covering.specs.Covering.{Covering, Short, Uncoverable, Allowed, Needed}
use Rattle.covering.proofs.Singles.{drop-ones, drop_keeps}

-- each number below n that passes p is paired with a member of `near`, and no member with two
pub pigeons : (R : ℕ → ℕ → Type 0) → ((v u i : ℕ) → R v i → R u i → v ≡ u) → (n : ℕ) (p : ℕ → Bool) (near : ℕ)
    → ((v : ℕ) → v < n → p v ≡ true → (i : ℕ) × (has near i ≡ true) × R v i)
    → tally p n ≤ ones near
pigeons R one zero p near f = omega arith
pigeons R one (suc n) p near f = elim (cases_Bool (p n)) [
  | inl t ↦
      let w = f n (omega arith) t in
      let more = pigeons R one n p (without near (2 ^ w.0)) (λ v l e.
      let q = f v (omega arith) e in (
        q.0,
        drop_keeps near w.0 q.0 (λ z. let same = one v n w.0 (subst (λ (x : ℕ). R v x) z q.2) w.2 in omega arith) q.1,
        q.2,
      )) in
      rw t (omega (arith, drop-ones w.0 near w.1, more))
  | inr t ↦ rw t (omega (arith, pigeons R one n p near (λ v l e. f v (omega arith) e)))
]

-- no relation gives each slot of a short group a sensor of its own that has it as a candidate
pub short-shut : {can : ℕ → ℕ → Bool} {sensors claimed group : ℕ} → Short can sensors claimed group
    → (R : ℕ → ℕ → Type 0) → ((v u i : ℕ) → R v i → R u i → v ≡ u)
    → ((v : ℕ) → has group v ≡ true → (i : ℕ) × (has sensors i ≡ true) × (can i v ≡ true) × R v i) → ⊥
short-shut {group = group} s R one f =
    omega (
      arith,
      s.fewer,
      ones-tally group group (small group),
      pigeons R one group (has group) s.near (λ v l e.
          let q = f v e in
          (q.0, s.all q.0 v q.1 e q.2, q.3)),
    )

-- where a group is short without sensor i, such a relation pairs i with a slot of the group
pub short-used : {can : ℕ → ℕ → Bool} (sensors : ℕ) {claimed group : ℕ} (i : ℕ) → Short can (without sensors (2 ^ i)) claimed group
    → (R : ℕ → ℕ → Type 0) → ((v u j : ℕ) → R v j → R u j → v ≡ u)
    → ((v : ℕ) → has group v ≡ true → (j : ℕ) × (has sensors j ≡ true) × (can j v ≡ true) × R v j)
    → ((v : ℕ) → has group v ≡ true → R v i → ⊥) → ⊥
short-used sensors i s R one f none = short-shut s R one (λ v g.
    let q = f v g in
    (q.0, drop_keeps sensors i q.0 (λ z. none v g (subst (λ (x : ℕ). R v x) z q.3)) q.1, q.2, q.3))

pub short-uncoverable : {can : ℕ → ℕ → Bool} {sensors claimed group : ℕ} → Short can sensors claimed group → Uncoverable can sensors claimed
short-uncoverable {claimed = claimed} s on c =
    short-shut s (λ v i. (has claimed v ≡ true) × (on v ≡ i)) (λ v u i p q. c.apart v u p.0 q.0 (p.1 ∙ sym q.1)) (λ v e.
    let l = s.inside v e in
    (on v, c.among v l, c.fits v l, (l, refl)))

-- where a group is short without sensor i, and coverings give i its candidates in the group, every covering gives it one of them
module _ {can : ℕ → ℕ → Bool} {sensors claimed i group : ℕ} (short : Short can (without sensors (2 ^ i)) claimed group)
    (may : (v : ℕ) → has group v ≡ true → can i v ≡ true → Allowed can sensors claimed i v) where
  -- a covering without i would cover the group by too few sensors
  clash : (on : ℕ → ℕ) → Covering can sensors claimed on → ((v : ℕ) → has group v ≡ true → on v ≡ i → ⊥) → ⊥
  clash on c none = short-used sensors i short (λ v j. (has claimed v ≡ true) × (on v ≡ j)) (λ v x j p q. c.apart v x p.0 q.0 (p.1 ∙ sym q.1)) (λ v g.
      let cv = short.inside v g in
      (on v, c.among v cv, c.fits v cv, (cv, refl))) (λ v g q. none v g q.1)

  pub short-needed : Needed can sensors claimed i group
  short-needed = record {
    always = λ a. clash a.on a.covers (λ v g. a.unused v (short.inside v g));
    may = may;
    only = λ v a. (
      elim (cases_Bool (has group v)) [
        | inl g ↦ g
        | inr f ↦ absurd (clash a.on a.covers (λ x g z.
            let same : x ≡ v = a.covers.apart x v (short.inside x g) a.claims (z ∙ sym a.here) in
            both_ways _ f (subst (λ (y : ℕ). has group y ≡ true) same g)))
      ],
      subst (λ (x : ℕ). can x v ≡ true) a.here (a.covers.fits v a.claims),
    );
    short = short;
  }
