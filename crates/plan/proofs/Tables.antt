-- A rule table: the first `count` of its places. Assumes nothing.
use Rattle.std.proofs.Common.{◌≡◌, ℕ, ◌<◌, Bool, true, false, cond, eqb, length, sym, refl, ◌∙◌, arith, length-take}
use Rattle.std.proofs.lemmas.Bool.{leb-false, eq-eqb, cond-true}
use Rattle.model.specs.Calls.{no_place}
use Rattle.model.specs.Refusals.{earlier}
use Rattle.model.proofs.Mixes.{earlier-none}
use Rattle.plan.specs.declared.draft.Draft.{Draft}
use Rattle.plan.specs.States.{state_of}

pub no-eight : (t : Bool) → ◌≡◌ {A = ℕ} (cond t 8 0) 0 → t ≡ false
no-eight true e = absurd (omega arith)
no-eight false e = refl

pub earlier-none-r : (a b : ℕ) → earlier a b ≡ 0 → b ≡ 0
earlier-none-r a b e = sym (cond-true (eqb a 0) b _ (eq-eqb a 0 (earlier-none a b e))) ∙ e

-- accepted, a rule has a place
pub has-place : {R : Type 0} (x : Draft R) (a b : ℕ) → ◌≡◌ {A = ℕ} 0 (earlier a b) → b ≡ cond (no_place (state_of x)) 8 0 → x.count < length x.places.now
has-place x a b z e = omega (arith, length-take x.count x.places.now, leb-false _ _ (no-eight _ (sym e ∙ earlier-none-r a b (sym z))))
