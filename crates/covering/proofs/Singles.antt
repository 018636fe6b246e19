-- One member taken in or taken out. Assumes nothing.
use Rattle.std.proofs.Common.{◌≡◌, ℕ, ◌+◌, ◌%◌, ◌^◌, ◌<◌, Bool, true, false, not, ◌&&◌, ◌||◌, ◌⊎◌, sym, refl, ap, ◌∙◌, subst, inl, inr, arith}
use lib.Bits.{bit_or}
use lib.Count.{ones}
use Rattle.std.proofs.lemmas.Bool.{cases_eq, cases_Bool, both_ways, eqb-true, and_parts, and_from, or_cases, or_left, or_right, not-true, not_from_false, not_from_true}
use Rattle.masks.specs.Masks.{has, without, Parted}
use Rattle.masks.proofs.Masks.{has-or, has-without, has-single}
use Rattle.masks.proofs.Subsets.{has-ext, single-has, single-other}
use Rattle.masks.proofs.Sizes.{ones-more, ones-less}

-- r is the mask m with i taken in
pub record Joined (m i r : ℕ) : Type 0 where
  pub here : has r i ≡ true
  pub keeps : (k : ℕ) → has m k ≡ true → has r k ≡ true
  pub only : (k : ℕ) → has r k ≡ true → (k ≡ i) ⊎ (has m k ≡ true)
  pub one : has m i ≡ false → ones r ≡ ones m + 1

-- a number below 64, counted modulo 64
pub mod_low : (i : ℕ) → i < 64 → 2 ^ (i % 64) ≡ 2 ^ i
mod_low i l = ap (λ (x : ℕ). 2 ^ x) (mod_below i l)
  where
    mod_below : (i : ℕ) → i < 64 → i % 64 ≡ i
    mod_below i l = omega arith

pub with-low : {r : ℕ} (m i : ℕ) → i < 64 → r ≡ bit_or m (2 ^ (i % 64)) → r ≡ bit_or m (2 ^ i)
with-low m i l e = e ∙ ap (bit_or m) (mod_low i l)

pub drop-low : {r : ℕ} (m i : ℕ) → i < 64 → r ≡ without m (2 ^ (i % 64)) → r ≡ without m (2 ^ i)
drop-low m i l e = e ∙ ap (without m) (mod_low i l)

-- ---- taken in

pub or-here : (m i : ℕ) → has (bit_or m (2 ^ i)) i ≡ true
or-here m i = has-or m (2 ^ i) i ∙ or_right _ _ (single-has i)

pub or-keeps : (m i k : ℕ) → has m k ≡ true → has (bit_or m (2 ^ i)) k ≡ true
or-keeps m i k e = has-or m (2 ^ i) k ∙ or_left _ _ e

pub or-only : (m i k : ℕ) → has (bit_or m (2 ^ i)) k ≡ true → (k ≡ i) ⊎ (has m k ≡ true)
or-only m i k e = elim (or_cases (has m k) (has (2 ^ i) k) (sym (has-or m (2 ^ i) k) ∙ e)) [
  | inl t ↦ inr t
  | inr t ↦ inl (sym (eqb-true i k (sym (has-single i k) ∙ t)))
]

pub or-not : (m i k : ℕ) → has (bit_or m (2 ^ i)) k ≡ false → has m k ≡ false
or-not m i k e = elim (cases_Bool (has m k)) [
  | inl t ↦ absurd (both_ways _ e (or-keeps m i k t))
  | inr f ↦ f
]

pub or-other : (m i k : ℕ) → (k ≡ i → ⊥) → has (bit_or m (2 ^ i)) k ≡ has m k
or-other m i k ne = has-or m (2 ^ i) k ∙ go (has m k) (has (2 ^ i) k) (single-other i k (λ e. ne (sym e)))
  where
    go : (a b : Bool) → b ≡ false → (a || b) ≡ a
    go true b e = refl
    go false b e = e

pub or-ones : (i m : ℕ) → has m i ≡ false → ones (bit_or m (2 ^ i)) ≡ ones m + 1
or-ones i m e = omega (arith, ones-more i m e)

pub or-joined : (m i : ℕ) → Joined m i (bit_or m (2 ^ i))
or-joined m i = record { here = or-here m i; keeps = or-keeps m i; only = or-only m i; one = or-ones i m }

-- ---- taken out

pub drop-gone : (m i : ℕ) → has (without m (2 ^ i)) i ≡ false
drop-gone m i = has-without m (2 ^ i) i ∙ go (has m i) (has (2 ^ i) i) (single-has i)
  where
    go : (a b : Bool) → b ≡ true → (a && not b) ≡ false
    go true b e = not_from_true b e
    go false b e = refl

pub drop-other : (m i k : ℕ) → (k ≡ i → ⊥) → has (without m (2 ^ i)) k ≡ has m k
drop-other m i k ne = has-without m (2 ^ i) k ∙ go (has m k) (has (2 ^ i) k) (single-other i k (λ e. ne (sym e)))
  where
    go : (a b : Bool) → b ≡ false → (a && not b) ≡ a
    go true b e = not_from_false b e
    go false b e = refl

pub drop_keeps : (m i k : ℕ) → (k ≡ i → ⊥) → has m k ≡ true → has (without m (2 ^ i)) k ≡ true
drop_keeps m i k ne e = drop-other m i k ne ∙ e

pub drop-only : (m i k : ℕ) → has (without m (2 ^ i)) k ≡ true → has m k ≡ true
drop-only m i k e = (and_parts _ _ (sym (has-without m (2 ^ i) k) ∙ e)).0

pub drop-apart : (m i k : ℕ) → has (without m (2 ^ i)) k ≡ true → k ≡ i → ⊥
drop-apart m i k e z = both_ways _ (drop-gone m i) (subst (λ (x : ℕ). has (without m (2 ^ i)) x ≡ true) z e)

pub drop-ones : (i m : ℕ) → has m i ≡ true → ones (without m (2 ^ i)) + 1 ≡ ones m
drop-ones i m e = omega (arith, ones-less i m e)

-- a number that is not left when i is taken out, and is not i, was not left before
pub left_out : (left i k : ℕ) → (k ≡ i → ⊥) → has (without left (2 ^ i)) k ≡ false → has left k ≡ false
left_out left i k ne f = sym (drop-other left i k ne) ∙ f

-- a number is left after i was taken out; one that is not, and is not i, was not left before
pub part-only : {left i rest : ℕ} → Parted left i rest → (k : ℕ) → has rest k ≡ true → has left k ≡ true
part-only {left} {i} p k e = drop-only left i k (subst (λ (x : ℕ). has x k ≡ true) p.others e)

pub part-out : {left i rest : ℕ} → Parted left i rest → (k : ℕ) → (k ≡ i → ⊥) → has rest k ≡ false → has left k ≡ false
part-out {left} {i} p k ne f = left_out left i k ne (subst (λ (x : ℕ). has x k ≡ false) p.others f)

-- ---- the members of a that b lacks

pub less-has : (a b k : ℕ) → has a k ≡ true → has b k ≡ false → has (without a b) k ≡ true
less-has a b k e f = has-without a b k ∙ and_from _ _ e (not_from_false _ f)

pub less-only : (a b k : ℕ) → has (without a b) k ≡ true → (has a k ≡ true) × (has b k ≡ false)
less-only a b k e =
    let p = and_parts _ _ (sym (has-without a b k) ∙ e) in
    (p.0, not-true _ p.1)

pub less-not : (a b k : ℕ) → has b k ≡ true → has (without a b) k ≡ false
less-not a b k e = elim (cases_Bool (has (without a b) k)) [
  | inl t ↦ absurd (both_ways _ (less-only a b k t).1 e)
  | inr f ↦ f
]

-- a member of a taken out of b joins the members of a that b lacks
pub less-joined : (a b i : ℕ) → has a i ≡ true → has b i ≡ true → Joined (without a b) i (without a (without b (2 ^ i)))
less-joined a b i ea eb = record {
  here = less-has a (without b (2 ^ i)) i ea (drop-gone b i);
  keeps = keeps;
  only = only;
  one = λ f. ap ones (has-ext _ _ same) ∙ or-ones i (without a b) f;
}
  where
    keeps : (k : ℕ) → has (without a b) k ≡ true → has (without a (without b (2 ^ i))) k ≡ true
    keeps k e =
        let p = less-only a b k e in
        less-has a _ k p.0 (drop-other b i k (λ z. both_ways _ p.1 (subst (λ (x : ℕ). has b x ≡ true) (sym z) eb)) ∙ p.1)

    only : (k : ℕ) → has (without a (without b (2 ^ i))) k ≡ true → (k ≡ i) ⊎ (has (without a b) k ≡ true)
    only k e = elim (cases_eq k i) [
      | inl z ↦ inl z
      | inr ne ↦
          let p = less-only a _ k e in
          inr (less-has a b k p.0 (sym (drop-other b i k ne) ∙ p.1))
    ]

    iff : (x y : Bool) → (x ≡ true → y ≡ true) → (y ≡ true → x ≡ true) → x ≡ y
    iff true y f g = sym (f refl)
    iff false true f g = g refl
    iff false false f g = refl

    same : (k : ℕ) → has (without a (without b (2 ^ i))) k ≡ has (bit_or (without a b) (2 ^ i)) k
    same k = iff _ _
        (λ e. elim (only k e) [ inl z ↦ rw z (or-here (without a b) i) | inr t ↦ or-keeps (without a b) i k t ])
        (λ e. elim (or-only (without a b) i k e) [ inl z ↦ rw z (less-has a (without b (2 ^ i)) i ea (drop-gone b i)) | inr t ↦ keeps k t ])
