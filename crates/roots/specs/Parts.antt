-- The implications of a Roots rule: which they are, that they fit, and what they say together. Assumes nothing.
use Rattle.std.specs.Prelude.{◌≡◌, ℕ, zero, suc, ◌+◌, ◌*◌, ◌^◌, ◌<◌, ◌≤◌, Bool, true, false, cond, not, ◌&&◌, ◌||◌, List, [], ◌∷◌, ◌++◌, length, refl}
use Rattle.std.proofs.Common.{sym, ◌∙◌, ap₂, subst, append_assoc, inl, inr, add-one, arith, length-append}
use Rattle.std.proofs.Math.Path.{ap}
use Rattle.std.specs.List.{AllByRecursion}
use Rattle.std.proofs.lemmas.Bool.{not-false, leb-false, eq-eqb, cases_eq, cond_both}
use Rattle.std.proofs.ByRecursion.{All-append}
use Rattle.masks.specs.Masks.{has}
use Rattle.model.specs.Board.{Board}
use Rattle.model.specs.Box.{Box}
use Rattle.model.specs.Laws.{Lawful, Laws, Restful, fits}
use Rattle.model.specs.Layout.{Layout, set_of, slot_of}
use Rattle.model.specs.Settled.{settled}
use Rattle.model.proofs.Bundle.{asked-all, bundle-laws, bundle-rests}
use Rattle.model.proofs.Lists.{all-every, every-at, every-from}
use Rattle.model.proofs.Tight.{tightness}
use Rattle.rule.proofs.Causes.{all_absent}
use Rattle.roots.specs.Implications.{implication_fault, implication_run, implied}
use Rattle.roots.specs.Roots.{agree, asking, implications, own, parts, roots_causes, roots_fault, roots_holds, roots_run}
use Rattle.roots.specs.Fitting.{Links, excludes_from, links_from}
use Rattle.roots.specs.declared.implication.Implication.{Implication}
use Rattle.roots.specs.declared.implication.Implication.TheVariants.{Excluded, Implies, ImpliedBy}
use Rattle.roots.specs.declared.roots.Roots.{Roots}

all_split : {X : Type 0} (P : X → Type 0) (xs ys : List X) → AllByRecursion P (xs ++ ys) → AllByRecursion P xs × AllByRecursion P ys
all_split P [] ys h = (tt, h)
all_split P (x ∷ xs) ys h = let r = all_split P xs ys h.1 in ((h.0, r.0), r.1)

pub each_from : (P : Implication → Type 0) (r : Roots) (n : ℕ) → ((i : ℕ) → i < n → AllByRecursion P (own r i)) → AllByRecursion P (implications r n)
unfolding implications
each_from P r zero f = tt
each_from P r (suc n) f = All-append P (implications r n) (own r n) (each_from P r n (λ i h. f i (omega arith))) (f n (omega arith))

pub each_at : (P : Implication → Type 0) (r : Roots) (n : ℕ) → AllByRecursion P (implications r n) → (i : ℕ) → i < n → AllByRecursion P (own r i)
unfolding implications
each_at P r zero a i h = absurd (omega arith)
each_at P r (suc n) a i h =
    let p = all_split P (implications r n) (own r n) a in
    elim (cases_eq i n) [
      | inl e ↦ subst (λ k. AllByRecursion P (own r k)) (sym e) p.1
      | inr e ↦ each_at P r n p.0 i (omega arith)
    ]

-- ---- what they say

agree_there : (p q : Bool) → agree p q ≡ true → (not p || q) ≡ true
agree_there true q e = e
agree_there false q e = refl

agree_back : (p q : Bool) → agree p q ≡ true → (not q || p) ≡ true
agree_back true true e = refl
agree_back true false e = refl
agree_back false true e = e
agree_back false false e = refl

agree_none : (p : Bool) → agree p false ≡ true → not p ≡ true
agree_none true e = e
agree_none false e = refl

both_agree : (p q : Bool) → (not p || q) ≡ true → (not q || p) ≡ true → agree p q ≡ true
both_agree true q e f = e
both_agree false true e f = f
both_agree false false e f = refl

none_agree : (p : Bool) → not p ≡ true → agree p false ≡ true
none_agree true e = e
none_agree false e = refl

module _ (bd : Board) (r : Roots) (x : Layout) where
  abbrev Said : Implication → Type 0
  Said q = implied bd q x ≡ true

  abbrev within_s : ℕ → Bool
  within_s i = has (set_of x r.s) i

  abbrev within_t : ℕ → Bool
  within_t i = has (set_of x r.t) (slot_of x i)

  said : (i : ℕ) → agree (within_s i) (has r.g i && within_t i) ≡ true → AllByRecursion Said (own r i)
  said i = elim (has r.g i) as (λ b. agree (within_s i) (b && within_t i) ≡ true → AllByRecursion Said (cond b (Implies i r.s r.t ∷ ImpliedBy i r.s r.t ∷ []) (Excluded i r.s ∷ []))) [
    | true ↦ λ e. (agree_there (within_s i) (within_t i) e, (agree_back (within_s i) (within_t i) e, tt))
    | false ↦ λ e. (agree_none (within_s i) e, tt)
  ]

  unsaid : (i : ℕ) → AllByRecursion Said (own r i) → agree (within_s i) (has r.g i && within_t i) ≡ true
  unsaid i = elim (has r.g i) as (λ b. AllByRecursion Said (cond b (Implies i r.s r.t ∷ ImpliedBy i r.s r.t ∷ []) (Excluded i r.s ∷ [])) → agree (within_s i) (b && within_t i) ≡ true) [
    | true ↦ λ e. both_agree (within_s i) (within_t i) e.0 e.1.0
    | false ↦ λ e. none_agree (within_s i) e.0
  ]

  pub each_holds : roots_holds bd r x ≡ true → AllByRecursion Said (parts bd r)
  unfolding roots_holds
  each_holds e = each_from Said r bd.sensors (λ i h. said i (every-at _ bd.sensors e i h))

  pub all_hold : AllByRecursion Said (parts bd r) → roots_holds bd r x ≡ true
  unfolding roots_holds
  all_hold a = every-from _ bd.sensors (λ i h. unsaid i (each_at Said r bd.sensors a i h))

-- ---- that they fit

pub record Rooted (bd : Board) (r : Roots) : Type 0 where
  pub first : r.s < bd.sets
  pub second : r.t < bd.sets
  pub mask : r.g < 2 ^ bd.sensors
  pub sensors : has bd.kinds r.s ≡ false
  pub slots : has bd.kinds r.t ≡ true

pub rooted : (bd : Board) (r : Roots) → roots_fault bd r ≡ 0 → Rooted bd r
rooted bd r e =
    let w = all_absent (roots_causes bd r.g r.s r.t) refl e in
    record { first = leb-false _ r.s w.0; second = leb-false _ r.t w.1.0; mask = leb-false _ r.g w.1.1.0; sensors = w.1.1.1.0; slots = not-false _ w.1.1.1.1.0 }

pub rooted_links : (bd : Board) (r : Roots) → Rooted bd r → (i : ℕ) → i < bd.sensors → Links bd i r.s r.t
rooted_links bd r o i h = record { sensor = h; first = o.first; second = o.second; sensors = o.sensors; slots = o.slots }

pub all_fit : (bd : Board) (r : Roots) → Rooted bd r → AllByRecursion (λ q. fits implication_fault bd q ≡ true) (parts bd r)
all_fit bd r o = each_from _ r bd.sensors (λ i h.
    elim (has r.g i) as (λ b. AllByRecursion (λ q. fits implication_fault bd q ≡ true) (cond b (Implies i r.s r.t ∷ ImpliedBy i r.s r.t ∷ []) (Excluded i r.s ∷ []))) [
      | true ↦ let e = eq-eqb _ 0 (links_from bd i r.s r.t (rooted_links bd r o i h)) in (e, (e, tt))
      | false ↦ (eq-eqb _ 0 (excludes_from bd i r.s (record { sensor = h; first = o.first; sensors = o.sensors })), tt)
    ])

-- ---- the laws

pub each_laws : (bd : Board) → 0 < bd.sensors → (qs : List Implication) → AllByRecursion (λ q. Laws bd (implied bd q) (implication_run bd q)) qs
each_laws bd some qs = all-every (λ q. Laws bd (implied bd q) (implication_run bd q)) (λ q. (tightness bd some (implied bd q)).laws) qs

pub roots_lawful : Lawful roots_fault roots_holds roots_run
roots_lawful = record {
  laws = λ bd some r f.
      bundle-laws bd some (implied bd) (implication_run bd) (parts bd r) (each_laws bd some (parts bd r)) (roots_holds bd r) (each_holds bd r) (all_hold bd r);
}

pub roots_restful : Restful roots_fault roots_run
roots_restful = record { rests = λ bd some r f. bundle-rests bd some (implied bd) (implication_run bd) (parts bd r) (each_laws bd some (parts bd r)) }

-- settling the implications as they are asked is the run
pub parts_run : (bd : Board) (r : Roots) → roots_fault bd r ≡ 0 → (b : Box) → settled bd (asking bd (parts bd r)) b ≡ roots_run bd r b
parts_run bd r e b = ap (λ q. settled bd q b) (asked-all implication_fault implication_run bd (parts bd r) (all_fit bd r (rooted bd r e)))

-- ---- the list as it is written down

module _ (r : Roots) where
  -- at most two for each sensor
  pub few_parts : (n : ℕ) → length (implications r n) ≤ 2 * n
  unfolding implications
  few_parts zero = omega arith
  few_parts (suc i) = omega (arith, few_parts i, length-append (implications r i) (own r i), few_own i)
    where
      few_own : (i : ℕ) → length (own r i) ≤ 2
      few_own i = cond_both (has r.g i) (Implies i r.s r.t ∷ ImpliedBy i r.s r.t ∷ []) (Excluded i r.s ∷ []) (λ z. length z ≤ 2) (λ _. omega arith) (λ _. omega arith)

  pub no_parts : [] ≡ implications r 0
  unfolding implications
  no_parts = refl

  -- those of one sensor more, one outside G or one of it
  module _ (i : ℕ) (xs : List Implication) (e : xs ≡ implications r i) where
    next : (b : Bool) → has r.g i ≡ b → xs ++ cond b (Implies i r.s r.t ∷ ImpliedBy i r.s r.t ∷ []) (Excluded i r.s ∷ []) ≡ implications r (i + 1)
    unfolding implications
    next b h = ap₂ (λ z b. z ++ cond b (Implies i r.s r.t ∷ ImpliedBy i r.s r.t ∷ []) (Excluded i r.s ∷ [])) e (sym h) ∙ ap (implications r) (sym (add-one i))

    pub one_more : has r.g i ≡ false → xs ++ (Excluded i r.s ∷ []) ≡ implications r (i + 1)
    one_more h = next false h

    pub two_more : has r.g i ≡ true → (xs ++ (Implies i r.s r.t ∷ [])) ++ (ImpliedBy i r.s r.t ∷ []) ≡ implications r (i + 1)
    two_more h = append_assoc xs (Implies i r.s r.t ∷ []) (ImpliedBy i r.s r.t ∷ []) ∙ next true h
