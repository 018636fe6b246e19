-- What it says that a rule fits: none of the causes of a refusal is there. Assumes nothing.
use Rattle.std.proofs.Common.{◌≡◌, ℕ, Bool, true, false, not, ◌&&◌, cond, eqb, List, [], ◌∷◌, sym, refl, ap, ◌∙◌, true≢false}
use Rattle.std.proofs.lemmas.Bool.{and_parts, cond-false, eq-eqb}
use Rattle.model.specs.Refusals.{Cause}

abbrev pub Quiet : List Cause → Type 0
Quiet [] = Unit {0}
Quiet (c ∷ cs) = (c.1 ≡ false) × Quiet cs

-- the number of the first cause that is there; of causes that stand in the order in which they count, the refusal
abbrev pub leading : List Cause → ℕ
leading [] = 0
leading (c ∷ cs) = cond c.1 c.0 (leading cs)

abbrev pub numbered : List Cause → Bool
numbered [] = true
numbered (c ∷ cs) = not (eqb c.0 0) && numbered cs

absent : (k : ℕ) (b : Bool) (later : ℕ) → not (eqb k 0) ≡ true → cond b k later ≡ 0 → (b ≡ false) × (later ≡ 0)
absent k true later n e = absurd (true≢false (sym n ∙ ap not (eq-eqb k 0 e)))
absent k false later n e = (refl, e)

pub all_absent : (cs : List Cause) → numbered cs ≡ true → leading cs ≡ 0 → Quiet cs
all_absent [] n e = tt
all_absent (c ∷ cs) n e =
    let m = and_parts _ _ n in
    let w = absent c.0 c.1 (leading cs) m.0 e in
    (w.0, all_absent cs m.1 w.1)

pub none_leads : (cs : List Cause) → Quiet cs → leading cs ≡ 0
none_leads [] q = refl
none_leads (c ∷ cs) q = cond-false c.1 c.0 (leading cs) q.0 ∙ none_leads cs q.1
