-- No cause, no refusal, and the other way round. Assumes nothing.
use Rattle.std.proofs.Common.{◌≡◌, ℕ, Bool, true, false, cond, List, [], ◌∷◌, refl, ◌∙◌, true≢false, arith}
use Rattle.model.specs.Refusals.{Cause, either, first_in, order, refusal}
use Rattle.named.specs.Causes.{six}

-- none of the causes is there
abbrev pub Quiet : List Cause → Type 0
Quiet [] = Unit {0}
Quiet (c ∷ cs) = (c.1 ≡ false) × Quiet cs

skip : (b c : Bool) (n later : ℕ) → c ≡ false → cond b (cond c n later) later ≡ later
skip true false n later e = refl
skip false false n later e = refl
skip b true n later e = absurd (true≢false e)

either-quiet : (n : ℕ) (cs : List Cause) (later : ℕ) → Quiet cs → either n cs later ≡ later
either-quiet n [] later h = refl
either-quiet n (c ∷ cs) later h = skip _ c.1 n (either n cs later) h.0 ∙ either-quiet n cs later h.1

quiet-in : (ns : List ℕ) (cs : List Cause) → Quiet cs → first_in ns cs ≡ 0
quiet-in [] cs h = refl
quiet-in (n ∷ ns) cs h = either-quiet n cs (first_in ns cs) h ∙ quiet-in ns cs h

pub quiet : (cs : List Cause) → Quiet cs → refusal cs ≡ 0
quiet cs h = quiet-in order cs h

pub record None (a b c d e f : Bool) : Type 0 where
  pub there : a ≡ false
  pub masks_on : b ≡ false
  pub kinds_fit : c ≡ false
  pub apart : d ≡ false
  pub a_range : e ≡ false
  pub places : f ≡ false

pub none-there : (a b c d e f : Bool) → refusal (six a b c d e f) ≡ 0 → None a b c d e f
none-there false false false false false false z = record { there = refl; masks_on = refl; kinds_fit = refl; apart = refl; a_range = refl; places = refl }
none-there true b c d e f z = absurd (omega arith)
none-there false true c d e f z = absurd (omega arith)
none-there false false true d e f z = absurd (omega arith)
none-there false false false true e f z = absurd (omega arith)
none-there false false false false true f z = absurd (omega arith)
none-there false false false false false true z = absurd (omega arith)
