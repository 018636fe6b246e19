-- The numbers of the record kinds.
use Rattle.std.specs.Prelude.{◌≡◌, ℕ, false, Result, MatchResult}
use Rattle.sheet.specs.declared.format.Cause.{Cause}
use Rattle.sheet.specs.declared.format.Cause.TheVariants as cause
use Rattle.sheet.specs.declared.kind.Kind.{Kind}
use Rattle.sheet.specs.declared.kind.Kind.TheVariants.{Head, Name, Limit, Claim, Bar, Range, Roots, Within, Apart, Count, Row}
use Rattle.sheet.specs.Layout.{known}

-- the byte that stands for a kind
abbrev pub code_of : Kind → ℕ
code_of Head = 1
code_of Name = 2
code_of Limit = 3
code_of Claim = 4
code_of Bar = 5
code_of Range = 6
code_of Roots = 7
code_of Within = 8
code_of Apart = 9
code_of Count = 10
code_of Row = 11

-- the result is the kind with this byte, or a refusal of a byte that no kind has
abbrev pub Decodes : ℕ → Result Kind Cause → Type 0
Decodes code r = MatchResult r (λ kind. code_of kind ≡ code) (λ e. (e ≡ cause.Kind) × (known code ≡ false))
