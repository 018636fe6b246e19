use Rattle.std.proofs.Common.{◌≡◌, ℕ, ◌/◌, ◌^◌, ◌<◌, ◌≤◌, eqb, ltb, sym, ◌∙◌, inl, inr, arith, pow_pos, pow_mono, rules}
use native.Mathlib.Nat.{div-eq_of_lt, div-eq-sub-div}
use Rattle.std.proofs.lemmas.Bool.{cases_lt, eq-eqb, ne_eqb, lt-ltb, le-ltb, le-leb}
use Rattle.masks.proofs.is_below.Goals as goal

shr_zero : (m p : ℕ) → 0 < p → eqb (m / p) 0 ≡ ltb m p
shr_zero m p z = elim (cases_lt m p) [
  | inl h ↦ eq-eqb (m / p) 0 (div-eq_of_lt h) ∙ sym (lt-ltb m p h)
  | inr h ↦ ne_eqb (m / p) 0 (λ e. omega (arith, div-eq-sub-div z h)) ∙ sym (le-ltb m p h)
]

pub returns-then-n-ge64 : goal.returns-then-n-ge64
returns-then-n-ge64 c =
    let h : 64 ≤ c.args.n = search rules in
    let m : c.args.mask < 2 ^ 64 = search rules in
    le-leb 64 c.args.n h ∙ sym (lt-ltb c.args.mask (2 ^ c.args.n) (omega (arith, pow_mono h)))

pub returns-else-n-ge64 : goal.returns-else-n-ge64
returns-else-n-ge64 c = shr_zero c.args.mask (2 ^ c.args.n) (pow_pos c.args.n)
