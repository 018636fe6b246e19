-- The members of a mask put one after the other, the least first. Assumes nothing.
use Rattle.std.proofs.Common.{◌≡◌, ℕ, zero, suc, ◌+◌, ◌-◌, ◌^◌, ◌<◌, ◌≤◌, Bool, true, false, ◌∷◌, ◌&&◌, decimal, not, eqb, sym, refl, ap, subst, ◌∙◌, inl, inr, arith}
use Rattle.std.proofs.Math.Bool.{and-false, and-true}
use Rattle.std.proofs.lemmas.Bool.{both_ways, cases_lt, eq-eqb, ne_eqb}
use Rattle.masks.specs.Masks.{has, lowest, without, Parted}
use Rattle.masks.proofs.Masks.{has-single, has-without, has-zero}
use Rattle.masks.proofs.Ends.{lowest-le, lowest-none}
use Rattle.text.specs.declared.pen.Pen.{Pen}
use Rattle.text.specs.Lines.{members}
use Rattle.text.specs.Pens.{Puts}
use Rattle.text.proofs.Puts.{members_none, members_skip, members_with}

-- the members below `upto` are put, and `left` has the others
pub record Listed (mask left : ℕ) (p q : Pen) : Type 0 where
  pub upto : ℕ
  pub low : upto ≤ 64
  pub put : Puts (members mask upto) p q
  pub gone : (j : ℕ) → j < upto → has left j ≡ false
  pub still : (j : ℕ) → upto ≤ j → has left j ≡ has mask j

pub listed_none : (mask : ℕ) (p : Pen) → Listed mask mask p p
listed_none mask p = record { upto = 0; low = omega arith; put = members_none mask p; gone = λ j h. absurd (omega arith); still = λ j h. refl }

-- past numbers that are no members
module _ (m : ℕ) (p q : Pen) where
  gap : (k d : ℕ) → ((j : ℕ) → k ≤ j → j < k + d → has m j ≡ false) → Puts (members m k) p q → Puts (members m (k + d)) p q
  gap k zero f a = subst (λ n. Puts (members m n) p q) (omega arith) a
  gap k (suc d) f a =
      let e : (k + d) + 1 ≡ k + suc d = omega arith in
      subst (λ n. Puts (members m n) p q) e (members_skip m (k + d) (f (k + d) (omega arith) (omega arith)) (gap k d (λ j h r. f j h (omega arith)) a))

  pub upto_next : (k n : ℕ) → k ≤ n → ((j : ℕ) → k ≤ j → j < n → has m j ≡ false) → Puts (members m k) p q → Puts (members m n) p q
  upto_next k n le f a =
      let e : k + (n - k) ≡ n = omega arith in
      subst (λ z. Puts (members m z) p q) e (gap k (n - k) (λ j h r. f j h (omega arith)) a)

module _ {mask left i rest : ℕ} {p q r : Pen} (least : i ≡ lowest left) (one : Parted left i rest) (next : Puts (32 ∷ decimal i) q r) (h : Listed mask left p q) where
  reached : h.upto ≤ i
  reached = elim (cases_lt i h.upto) [ inl s ↦ absurd (both_ways _ (h.gone i s) one.member) | inr s ↦ s ]

  none_below : (j : ℕ) → j < i → has left j ≡ false
  none_below j s = lowest-none left j (omega (arith, least))

  others : (j : ℕ) → has rest j ≡ (has left j && not (eqb i j))
  others j = ap (λ x. has x j) one.others ∙ has-without left (2 ^ i) j ∙ ap (λ (b : Bool). has left j && not b) (has-single i j)

  pub listed_more : Listed mask rest p r
  listed_more = record {
    upto = i + 1;
    low = omega (arith, one.low);
    put = members_with mask i (sym (h.still i reached) ∙ one.member) (upto_next mask p q h.upto i reached (λ j a s. sym (h.still j a) ∙ none_below j s) h.put) next;
    gone = λ j s. elim (cases_lt j i) [
      | inl t ↦ others j ∙ ap (λ (b : Bool). b && not (eqb i j)) (none_below j t)
      | inr t ↦ others j ∙ ap (λ (b : Bool). has left j && not b) (eq-eqb i j (omega arith)) ∙ and-false (has left j)
    ];
    still = λ j s. others j ∙ ap (λ (b : Bool). has left j && not b) (ne_eqb i j (λ e. omega arith)) ∙ and-true (has left j) ∙ h.still j (omega (arith, reached));
  }

pub listed_all : {mask left : ℕ} {p q : Pen} → left ≡ 0 → Listed mask left p q → Puts (members mask 64) p q
listed_all {mask} {left} {p} {q} z h =
    upto_next mask p q h.upto 64 h.low (λ j a s. sym (h.still j a) ∙ ap (λ x. has x j) z ∙ has-zero j) h.put
