-- What a call that writes a text promises. Assumes nothing.
use Rattle.std.specs.Prelude.{◌≡◌, ℕ, List, [], ◌∷◌, length, Result, MatchResult, nat_lt}
use Rattle.model.specs.Refusals.{refusal}
use Rattle.board.specs.declared.refusal.Refusal.{Refusal}
use Rattle.board.specs.Numbers.{outcome}
use Rattle.text.specs.Lines.{Written, TooShort}

-- refused exactly where the output is too short, and then unchanged; else the text stands at its front, and the length is told
abbrev pub Printed : List ℕ → Result ℕ Refusal → List ℕ → List ℕ → Type 0
Printed text r out out' = (outcome r ≡ refusal ((9, nat_lt (length out) (length text)) ∷ [])) × MatchResult r (Written text out out') (λ _. TooShort text out out')
