-- The number of each refusal. Contracts speak of refusals by these numbers. Assumes nothing.
use Rattle.std.specs.Prelude.{ℕ, Ok, Err, Result}
use Rattle.board.specs.declared.refusal.Refusal.{Refusal}
use Rattle.board.specs.declared.refusal.Refusal.TheVariants as re

abbrev pub number : Refusal → ℕ
number re.Board = 1
number re.Sensor = 2
number re.Set = 3
number re.Mask = 4
number re.Kind = 5
number re.Twice = 6
number re.Count = 7
number re.Room = 8
number re.Output = 9

-- what a call answered: 0, or the number of the refusal
abbrev pub outcome : {X : Type 0} → Result X Refusal → ℕ
outcome (Ok x) = 0
outcome (Err e) = number e
