-- The candidates that a file leaves to its first sensor, and masks joined.
use Rattle.std.proofs.Common.{◌≡◌, ℕ, ◌+◌, ◌%◌, eqb, List, Some, None, sym, refl, ap, ◌∙◌, ap₂, inl, inr, arith}
use lib.Bits.{bit_xor, xor_self}
use Rattle.std.proofs.lemmas.Bool.{eq-eqb, ne_eqb, cases_eq, cond-true, cond-false}
use Rattle.model.specs.Capacity.{most_places}
use Rattle.model.specs.Box.{Box, cand}
use Rattle.model.specs.Calls.{State, settle, does}
use Rattle.kinds.specs.declared.SheetRule.{SheetRule}
use Rattle.kinds.specs.SheetRules.{sheet_fault, sheet_run}
use Rattle.load.specs.Loads.{load_fault, load_plan, Loaded}
use Rattle.load.proofs.Faults.{one-plan}
use Rattle.driver.specs.Exports.{first_in, first_of, joined}

first-none : (b : Box) → first_in b None ≡ cand b 0
unfolding first_in
first-none b = refl

first_some : (b : Box) (f : ℕ × ℕ) → first_in b (Some f) ≡ 0
unfolding first_in
first_some b f = refl

-- after a load that is accepted, and a settle
pub first-left : (file : List ℕ) (places : ℕ) (s : State SheetRule) → places ≡ most_places → None ≡ load_fault file places → Loaded file places s
    → cand (does sheet_fault sheet_run settle s).box 0 ≡ first_of file
first-left file places s e z l =
    let b : ℕ → Box = λ p. (does sheet_fault sheet_run settle (load_plan file p)).box in
    let p : (does sheet_fault sheet_run settle s).box ≡ b places = ap (λ x. (does sheet_fault sheet_run settle x).box) (one-plan file places s (sym z) l) in
    sym (first-none (does sheet_fault sheet_run settle s).box) ∙ ap₂ first_in p z ∙ ap (λ p. first_in (b p) (load_fault file p)) e

-- after one that is refused
pub first-refused : (file : List ℕ) (places : ℕ) (f : ℕ × ℕ) → places ≡ most_places → Some f ≡ load_fault file places → 0 ≡ first_of file
first-refused file places f e z =
    let b : ℕ → Box = λ p. (does sheet_fault sheet_run settle (load_plan file p)).box in
    sym (first_some (b places) f) ∙ ap (first_in (b places)) z ∙ ap (λ p. first_in (b p) (load_fault file p)) e

-- once more
pub joined-more : (n x : ℕ) → bit_xor (joined n x) x ≡ joined (n + 1) x
joined-more n x =
    elim (cases_eq (n % 2) 0) [
      | inl even ↦
          let odd : (n + 1) % 2 ≡ 0 → ⊥ = λ e. omega arith in
          ap (λ m. bit_xor m x) (cond-true (eqb (n % 2) 0) 0 x (eq-eqb (n % 2) 0 even)) ∙ sym (cond-false (eqb ((n + 1) % 2) 0) 0 x (ne_eqb ((n + 1) % 2) 0 odd))
      | inr odd ↦
          let even : (n + 1) % 2 ≡ 0 = omega arith in
          ap (λ m. bit_xor m x) (cond-false (eqb (n % 2) 0) 0 x (ne_eqb (n % 2) 0 odd)) ∙ xor_self x ∙ sym (cond-true (eqb ((n + 1) % 2) 0) 0 x (eq-eqb ((n + 1) % 2) 0 even))
    ]
