-- What numbers lead to, gathered number by number. Assumes nothing.
use Rattle.std.proofs.Common.{◌≡◌, ℕ, ◌<◌, ◌≤◌, true, false, ◌⊎◌, List, length, get_or, sym, ap, ◌∙◌, subst, inl, inr}
use lib.Bits.{bit_or}
use Rattle.std.proofs.lemmas.Bool.{cases_eq, cases_Bool, both_ways, or_cases, or_left, or_right, cond-true, cond-false, cond_both}
use Rattle.masks.specs.Masks.{has, Parted}
use Rattle.masks.proofs.Masks.{has-or}
use Rattle.covering.proofs.Singles.{part-only, part-out}
use Rattle.spares.specs.Closure.{joined, Leads, stay, step, Closing}

pub leads-on : {edges : List ℕ} {u k v : ℕ} → Leads edges u k → Leads edges k v → Leads edges u v
leads-on p stay = p
leads-on p (step x y q e) = step x y (leads-on p q) e

-- ---- a mask joined with another

joined_keeps : (own k row x : ℕ) → has own x ≡ true → has (joined own k row) x ≡ true
joined_keeps own k row x e =
    cond_both (has own k) (bit_or own row) own (λ (m : ℕ). has m x ≡ true) (λ _. has-or own row x ∙ or_left _ _ e) (λ _. e)

joined-takes : (own k row x : ℕ) → has own k ≡ true → has row x ≡ true → has (joined own k row) x ≡ true
joined-takes own k row x e r = ap (λ (m : ℕ). has m x) (cond-true _ (bit_or own row) own e) ∙ has-or own row x ∙ or_right _ _ r

joined-only : (own k row x : ℕ) → has (joined own k row) x ≡ true → (has own x ≡ true) ⊎ ((has own k ≡ true) × (has row x ≡ true))
joined-only own k row x e = elim (cases_Bool (has own k)) [
  | inl t ↦ elim (or_cases _ _ (sym (has-or own row x) ∙ ap (λ (m : ℕ). has m x) (sym (cond-true _ (bit_or own row) own t)) ∙ e)) [
    | inl y ↦ inl y
    | inr y ↦ inr (t, y)
  ]
  | inr f ↦ inl (ap (λ (m : ℕ). has m x) (sym (cond-false _ (bit_or own row) own f)) ∙ e)
]

-- ---- one number

-- the masks before index u are joined with a row, the others are as they were
pub record Passed (old : List ℕ) (k row u : ℕ) (next : List ℕ) : Type 0 where
  pub done : (x : ℕ) → x < u → get_or next x 0 ≡ joined (get_or old x 0) k row
  pub rest : (x : ℕ) → u ≤ x → get_or next x 0 ≡ get_or old x 0

-- ---- number by number

pub closing-start : (end : ℕ) (next : List ℕ) (among : ℕ) → length next ≡ 64 → Closing end next among among next
closing-start end next among l = record {
  long = l;
  inside = λ k e. e;
  edge = λ u v lu e. e;
  via = λ k u v a f. absurd (both_ways _ f a);
  from = λ u v lu e. step u v stay e;
}

module _ {end : ℕ} {edges next : List ℕ} (new : List ℕ) {among left k rest : ℕ} (p : Parted left k rest) (lk : k < end) (long : length new ≡ 64)
    (each : (u : ℕ) → u < end → get_or new u 0 ≡ joined (get_or next u 0) k (get_or next k 0)) (h : Closing end edges among left next) where
  keeps : (u x : ℕ) → u < end → has (get_or next u 0) x ≡ true → has (get_or new u 0) x ≡ true
  keeps u x l e = ap (λ (m : ℕ). has m x) (each u l) ∙ joined_keeps (get_or next u 0) k (get_or next k 0) x e

  takes : (u x : ℕ) → u < end → has (get_or next u 0) k ≡ true → has (get_or next k 0) x ≡ true → has (get_or new u 0) x ≡ true
  takes u x l e r = ap (λ (m : ℕ). has m x) (each u l) ∙ joined-takes (get_or next u 0) k (get_or next k 0) x e r

  only : (u x : ℕ) → u < end → has (get_or new u 0) x ≡ true → (has (get_or next u 0) x ≡ true) ⊎ ((has (get_or next u 0) k ≡ true) × (has (get_or next k 0) x ≡ true))
  only u x l e = joined-only (get_or next u 0) k (get_or next k 0) x (ap (λ (m : ℕ). has m x) (sym (each u l)) ∙ e)

  -- k itself leads to what it led to
  to-k : (u : ℕ) → u < end → has (get_or new u 0) k ≡ true → has (get_or next u 0) k ≡ true
  to-k u l e = elim (only u k l e) [ inl y ↦ y | inr y ↦ y.0 ]

  of-k : (x : ℕ) → has (get_or new k 0) x ≡ true → has (get_or next k 0) x ≡ true
  of-k x e = elim (only k x lk e) [ inl y ↦ y | inr y ↦ y.1 ]

  -- through j, gone through before
  through : (j u v : ℕ) → j < end → u < end → has among j ≡ true → has left j ≡ false → has (get_or new u 0) j ≡ true → has (get_or new j 0) v ≡ true → has (get_or new u 0) v ≡ true
  through j u v lj lu a f y q = elim (only u j lu y) [
    | inl p' ↦ elim (only j v lj q) [
      | inl q' ↦ keeps u v lu (h.via j u v a f lu p' q')
      | inr q' ↦ takes u v lu (h.via j u k a f lu p' q'.0) q'.1
    ]
    | inr p' ↦ elim (only j v lj q) [
      | inl q' ↦ takes u v lu p'.0 (h.via j k v a f lk p'.1 q')
      | inr q' ↦ takes u v lu p'.0 q'.1
    ]
  ]

  pub closing-more : ((j : ℕ) → has among j ≡ true → j < end) → Closing end edges among rest new
  closing-more low = record {
    long = long;
    inside = λ j e. h.inside j (part-only p j e);
    edge = λ u v l e. keeps u v l (h.edge u v l e);
    via = λ j u v a f lu y q. elim (cases_eq j k) [
      | inl z ↦ takes u v lu (to-k u lu (subst (λ (x : ℕ). has (get_or new u 0) x ≡ true) z y)) (of-k v (subst (λ (x : ℕ). has (get_or new x 0) v ≡ true) z q))
      | inr ne ↦ through j u v (low j a) lu a (part-out p j ne f) y q
    ];
    from = λ u v l e. elim (only u v l e) [
      | inl y ↦ h.from u v l y
      | inr y ↦ leads-on (h.from u k l y.0) (h.from k v lk y.1)
    ];
  }

pub closing-all : {end : ℕ} {edges next : List ℕ} {among left : ℕ} → left ≡ 0 → Closing end edges among left next → Closing end edges among 0 next
closing-all {end} {edges} {next} {among} z h = subst (λ (x : ℕ). Closing end edges among x next) z h
