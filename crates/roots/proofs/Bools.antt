-- Tests that follow from one another. Assumes nothing.
use Rattle.std.proofs.Common.{◌≡◌, Bool, true, false, not, ◌&&◌, ◌||◌, sym, refl, ap, ◌∙◌}
use mathlib.Core.Bool.{false≢true}

pub then : (p q : Bool) → (not p || q) ≡ true → p ≡ true → q ≡ true
then true q e h = e
then false q e h = absurd (false≢true h)

pub not-then : (p q : Bool) → (not p || q) ≡ true → q ≡ false → p ≡ false
not-then true q e h = sym e ∙ h
not-then false q e h = refl

pub off : (p q : Bool) → q ≡ true → (p && not q) ≡ false
off true q e = ap not e
off false q e = refl

pub no : (p : Bool) → (p ≡ true → ⊥) → p ≡ false
no true f = absurd (f refl)
no false f = refl
