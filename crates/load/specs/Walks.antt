-- The records of a file with their positions, up to the first that the reader refuses. Assumes nothing.
use Rattle.std.specs.Prelude.{ℕ, zero, suc, ◌+◌, Bool, true, List, [], length, drop, Some, None, Ok, Err, Option, Result}
use Rattle.sheet.specs.declared.reader.Reader.{Reader}
use Rattle.sheet.specs.Layout.{Rec}
use Rattle.sheet.specs.Steps.{turn, begun_at}
use Rattle.sheet.specs.Files.{before}

-- the file's end; a refusal of the reader, its number and position; or a record at a position, and what follows
pub data Walk : Type 0 where
  end : Walk
  stop : ℕ → ℕ → Walk
  step : ℕ → Rec → Walk → Walk

-- one step of the reader, and then the rest from the next place on
abbrev pub goes : Result (Option (Rec × ℕ)) ℕ → ℕ → (ℕ → Walk) → Walk
goes (Ok None) at rest = end
goes (Ok (Some p)) at rest = step at p.0 (rest (at + p.1))
goes (Err e) at rest = stop e at

-- from a place on, in fewer steps than n
unfoldable pub walk_from : ℕ → List ℕ → ℕ → Bool → Walk
walk_from zero file at begun = stop 0 at
walk_from (suc n) file at begun = goes (turn begun (drop at file)) at (λ next. walk_from n file next true)

-- the same with steps enough, since each takes a byte at least
unfoldable pub walk_on : List ℕ → ℕ → Bool → Walk
walk_on file at begun = walk_from (suc (length (drop at file))) file at begun

-- what a reader has still to read
abbrev pub walks_on : Reader → Walk
walks_on x = walk_on x.file.now x.at (begun_at x.at)

-- the records of a walk, or the refusal
abbrev pub records_of : Walk → Result (List Rec) (ℕ × ℕ)
records_of end = Ok []
records_of (stop e at) = Err (e, at)
records_of (step at r w) = before r (records_of w)

-- an answer of the reader from a place, and then the rest
abbrev pub then_walk : Result (Option Rec) (ℕ × ℕ) → ℕ → Walk → Walk
then_walk (Ok None) at w = end
then_walk (Ok (Some r)) at w = step at r w
then_walk (Err f) at w = stop f.0 f.1
