-- Sensors gone through one by one. Assumes nothing.
use Rattle.std.proofs.Common.{◌≡◌, ℕ, ◌^◌, true, false, eqb, List, sym, ◌∙◌, subst, inl, inr}
use lib.Bits.{bit_or}
use lib.Count.{ones}
use Rattle.std.proofs.lemmas.Bool.{both_ways, cases_eq, or_cases, or_left, or_right}
use Rattle.masks.specs.Masks.{has, Parted}
use Rattle.masks.proofs.Masks.{has-or, has-zero}
use Rattle.covering.proofs.Singles.{part-only, part-out, or-here, or-keeps, or-only}
use Rattle.range.specs.Survey.{Able, Sure, common}

pub able-start : (cands : List ℕ) (sensors slots : ℕ) → Able cands sensors slots sensors 0
able-start cands sensors slots = record {
  inside = λ i e. e;
  only = λ i e. absurd (both_ways _ (has-zero i) e);
  all = λ i e f m. absurd (both_ways _ f e);
}

module _ {cands : List ℕ} {sensors slots left found i rest : ℕ} (p : Parted left i rest) (h : Able cands sensors slots left found) where
  pub able-in : eqb (common cands slots i) 0 ≡ false → Able cands sensors slots rest (bit_or found (2 ^ i))
  able-in m = record {
    inside = λ k q. h.inside k (part-only p k q);
    only = λ k q. elim (or-only found i k q) [
      | inl z ↦ subst (λ (x : ℕ). (has sensors x ≡ true) × (eqb (common cands slots x) 0 ≡ false)) (sym z) (h.inside i p.member, m)
      | inr y ↦ h.only k y
    ];
    all = λ k s f n. elim (cases_eq k i) [
      | inl z ↦ subst (λ (x : ℕ). has (bit_or found (2 ^ i)) x ≡ true) (sym z) (or-here found i)
      | inr ne ↦ or-keeps found i k (h.all k s (part-out p k ne f) n)
    ];
  }

  pub able-out : eqb (common cands slots i) 0 ≡ true → Able cands sensors slots rest found
  able-out m = record {
    inside = λ k q. h.inside k (part-only p k q);
    only = h.only;
    all = λ k s f n. elim (cases_eq k i) [
      | inl z ↦ absurd (both_ways _ n (subst (λ (x : ℕ). eqb (common cands slots x) 0 ≡ true) (sym z) m))
      | inr ne ↦ h.all k s (part-out p k ne f) n
    ];
  }

pub able-all : {cands : List ℕ} {sensors slots left found : ℕ} → left ≡ 0 → Able cands sensors slots left found → Able cands sensors slots 0 found
able-all {cands = cands} {sensors = sensors} {slots = slots} {found = found} z h = subst (λ (x : ℕ). Able cands sensors slots x found) z h

pub sure-start : (cands : List ℕ) (sensors slots : ℕ) → Sure cands sensors slots sensors 0
sure-start cands sensors slots = record {
  inside = λ i e. e;
  only = λ v e. absurd (both_ways _ (has-zero v) e);
  all = λ i v e f m q. absurd (both_ways _ f e);
}

module _ {cands : List ℕ} {sensors slots left found i rest : ℕ} (p : Parted left i rest) (h : Sure cands sensors slots left found) where
  pub sure_in : ones (common cands slots i) ≡ 1 → Sure cands sensors slots rest (bit_or found (common cands slots i))
  sure_in m = record {
    inside = λ k q. h.inside k (part-only p k q);
    only = λ v q. elim (or_cases _ _ (sym (has-or found (common cands slots i) v) ∙ q)) [
      | inl y ↦ h.only v y
      | inr y ↦ (i, h.inside i p.member, m, y)
    ];
    all = λ k v s f n q. has-or found (common cands slots i) v ∙ elim (cases_eq k i) [
      | inl z ↦ or_right _ _ (subst (λ (x : ℕ). has (common cands slots x) v ≡ true) z q)
      | inr ne ↦ or_left _ _ (h.all k v s (part-out p k ne f) n q)
    ];
  }

  pub sure-out : (ones (common cands slots i) ≡ 1 → ⊥) → Sure cands sensors slots rest found
  sure-out m = record {
    inside = λ k q. h.inside k (part-only p k q);
    only = h.only;
    all = λ k v s f n q. elim (cases_eq k i) [
      | inl z ↦ absurd (m (subst (λ (x : ℕ). ones (common cands slots x) ≡ 1) z n))
      | inr ne ↦ h.all k v s (part-out p k ne f) n q
    ];
  }

pub sure-all : {cands : List ℕ} {sensors slots left found : ℕ} → left ≡ 0 → Sure cands sensors slots left found → Sure cands sensors slots 0 found
sure-all {cands = cands} {sensors = sensors} {slots = slots} {found = found} z h = subst (λ (x : ℕ). Sure cands sensors slots x found) z h
