use Rattle.std.proofs.Common.{◌≡◌, ℕ, ◌/◌, ◌^◌, ◌<◌, false, eqb, sym, ap, ◌∙◌, inl, inr, arith, rules}
use lib.Bits.{and_mask}
use Rattle.std.proofs.lemmas.Bool.{cases_Bool, le-ltb}
use Rattle.masks.specs.Masks.{has}
use Rattle.masks.proofs.Masks.{has-shr, has-below}
use Rattle.masks.proofs.contains.Goals as goal

pub returns-then-i-lt64 : goal.returns-then-i-lt64
returns-then-i-lt64 c = ap (λ (x : ℕ). eqb x 1) (and_mask (c.args.mask / 2 ^ c.args.i) 1) ∙ sym (has-shr c.args.mask c.args.i)

pub returns-else-i-lt64 : goal.returns-else-i-lt64
returns-else-i-lt64 c =
    let m : c.args.mask < 2 ^ 64 = search rules in
    let none : has c.args.mask c.args.i ≡ false = elim (cases_Bool (has c.args.mask c.args.i)) [
      | inl t ↦ absurd (omega (arith, has-below 64 c.args.mask c.args.i m t))
      | inr t ↦ t
    ] in
    le-ltb c.args.i 64 (search rules) ∙ sym none
