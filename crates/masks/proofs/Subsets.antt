-- Subsets of masks, with no bound on the numbers. Assumes nothing.
use Rattle.std.proofs.Common.{◌≡◌, ℕ, zero, suc, ◌+◌, ◌^◌, ◌<◌, ◌≤◌, Bool, true, false, not, ◌&&◌, eqb, sym, refl, ap, ◌∙◌, inl, inr, pow-suc, arith, pow_mono}
use mathlib.Core.Bool.{false≢true}
use lib.Bits.{bit_and, bit_or, and_self, and_le_r, and_comm}
use Rattle.std.proofs.lemmas.Bool.{eqb-true, eq-eqb, ne_eqb, and_parts, and_from, or_left, or_right, or_cases, cases_Bool, both_ways, not-true, not-false, not_from_false}
use Rattle.masks.specs.Masks.{has, within, without}
use Rattle.masks.proofs.Masks.{has-and, has-or, has-without, has-single, has-zero, has_same, within_has, within-from}

pub small : (a : ℕ) → a < 2 ^ a
small zero = omega arith
small (suc a) = omega (arith, small a, pow-suc 2 a)

-- masks with the same members are one
pub has-ext : (a b : ℕ) → ((i : ℕ) → has a i ≡ has b i) → a ≡ b
has-ext a b f =
    let p : a ≤ a + b = omega arith in
    let q : b ≤ a + b = omega arith in
    has_same (a + b) a b (omega (arith, small a, pow_mono p)) (omega (arith, small b, pow_mono q)) (λ i h. f i)

pub within_all : (a b : ℕ) → ((i : ℕ) → has a i ≡ true → has b i ≡ true) → within a b ≡ true
within_all a b f = within-from a a b (small a) (λ i h e. f i e)

pub within-self : (a : ℕ) → within a a ≡ true
within-self a = eq-eqb (bit_and a a) a (and_self a)

pub within-le : (a b : ℕ) → within a b ≡ true → a ≤ b
within-le a b w = omega (arith, eqb-true (bit_and a b) a w, and_le_r a b)

pub within-trans : (a b c : ℕ) → within a b ≡ true → within b c ≡ true → within a c ≡ true
within-trans a b c p q = within_all a c (λ i e. within_has b c q i (within_has a b p i e))

pub within_both : (a b : ℕ) → within a b ≡ true → within b a ≡ true → a ≡ b
within_both a b p q = has-ext a b (λ i. same_bool _ _ (within_has a b p i) (within_has b a q i))
  where
    same_bool : (x y : Bool) → (x ≡ true → y ≡ true) → (y ≡ true → x ≡ true) → x ≡ y
    same_bool true y f g = sym (f refl)
    same_bool false true f g = g refl
    same_bool false false f g = refl

-- ---- meets

pub and-within-l : (a b : ℕ) → within (bit_and a b) a ≡ true
and-within-l a b = within_all _ a (λ i e. (and_parts _ _ (sym (has-and a b i) ∙ e)).0)

pub and-within-r : (a b : ℕ) → within (bit_and a b) b ≡ true
and-within-r a b = within_all _ b (λ i e. (and_parts _ _ (sym (has-and a b i) ∙ e)).1)

pub within-and : (s a b : ℕ) → within s a ≡ true → within s b ≡ true → within s (bit_and a b) ≡ true
within-and s a b p q = within_all s _ (λ i e. has-and a b i ∙ and_from _ _ (within_has s a p i e) (within_has s b q i e))

-- ---- joins

pub within-or-l : (a b : ℕ) → within a (bit_or a b) ≡ true
within-or-l a b = within_all a _ (λ i e. has-or a b i ∙ or_left _ _ e)

pub within-or-r : (a b : ℕ) → within b (bit_or a b) ≡ true
within-or-r a b = within_all b _ (λ i e. has-or a b i ∙ or_right _ _ e)

pub within-or : (a b s : ℕ) → within a s ≡ true → within b s ≡ true → within (bit_or a b) s ≡ true
within-or a b s p q = within_all _ s (λ i e. elim (or_cases (has a i) (has b i) (sym (has-or a b i) ∙ e)) [ inl t ↦ within_has a s p i t | inr t ↦ within_has b s q i t ])

-- ---- removals

pub without-within : (h m : ℕ) → within (without h m) h ≡ true
without-within h m = within_all _ h (λ i e. (and_parts _ _ (sym (has-without h m i) ∙ e)).0)

-- what two masks that share nothing have
pub apart-has : (s m i : ℕ) → eqb (bit_and s m) 0 ≡ true → has s i ≡ true → has m i ≡ false
apart-has s m i a e = go (has s i) (has m i) e (sym (has-and s m i) ∙ ap (λ n. has n i) (eqb-true (bit_and s m) 0 a) ∙ has-zero i)
  where
    go : (p q : Bool) → p ≡ true → (p && q) ≡ false → q ≡ false
    go true q e f = f
    go false q e f = absurd (false≢true e)

pub apart_from : (s m : ℕ) → ((i : ℕ) → has s i ≡ true → has m i ≡ false) → eqb (bit_and s m) 0 ≡ true
apart_from s m f = eq-eqb (bit_and s m) 0 (has-ext _ 0 (λ i. has-and s m i ∙ go (has s i) (has m i) (f i) ∙ sym (has-zero i)))
  where
    go : (p q : Bool) → (p ≡ true → q ≡ false) → (p && q) ≡ false
    go true q f = f refl
    go false q f = refl

pub within-without : (s h m : ℕ) → within s h ≡ true → eqb (bit_and s m) 0 ≡ true → within s (without h m) ≡ true
within-without s h m w a = within_all s _ (λ i e. has-without h m i ∙ and_from _ _ (within_has s h w i e) (not_from_false _ (apart-has s m i a e)))

pub without-apart : (s h m : ℕ) → within s (without h m) ≡ true → eqb (bit_and s m) 0 ≡ true
without-apart s h m w = apart_from s m (λ i e. not-true _ (and_parts _ _ (sym (has-without h m i) ∙ within_has s (without h m) w i e)).1)

-- where nothing is left, all is in the other
pub within-gone : (h m : ℕ) → without h m ≡ 0 → within h m ≡ true
within-gone h m z = within_all h m (λ i e. go (has h i) (has m i) e (sym (has-without h m i) ∙ ap (λ n. has n i) z ∙ has-zero i))
  where
    go : (p q : Bool) → p ≡ true → (p && not q) ≡ false → q ≡ true
    go true q e f = not-false q f
    go false q e f = absurd (false≢true e)

-- two masks that share nothing, either way round
pub apart-swap : (s t : ℕ) → eqb (bit_and s t) 0 ≡ true → eqb (bit_and t s) 0 ≡ true
apart-swap s t e = ap (λ n. eqb n 0) (and_comm t s) ∙ e

-- less shares nothing either
pub apart-less : (s t m : ℕ) → eqb (bit_and s t) 0 ≡ true → within m t ≡ true → eqb (bit_and s m) 0 ≡ true
apart-less s t m e w = apart_from s m (λ i h. elim (cases_Bool (has m i)) [ inl q ↦ absurd (both_ways _ (apart-has s t i e h) (within_has m t w i q)) | inr q ↦ q ])

-- ---- single members

pub single-has : (i : ℕ) → has (2 ^ i) i ≡ true
single-has i = has-single i i ∙ eq-eqb i i refl

pub single-other : (i j : ℕ) → (i ≡ j → ⊥) → has (2 ^ i) j ≡ false
single-other i j ne = has-single i j ∙ ne_eqb i j ne

pub single-within : (i m : ℕ) → has m i ≡ true → within (2 ^ i) m ≡ true
single-within i m e = within_all (2 ^ i) m (λ j q. ap (has m) (sym (eqb-true i j (sym (has-single i j) ∙ q))) ∙ e)

-- a mask with a member is not empty
pub nonzero : (m i : ℕ) → has m i ≡ true → eqb m 0 ≡ false
nonzero m i e = ne_eqb m 0 (λ z. false≢true (sym (has-zero i) ∙ ap (λ n. has n i) (sym z) ∙ e))
