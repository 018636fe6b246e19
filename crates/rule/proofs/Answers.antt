-- What `fit` answered, and what a run then is. Assumes nothing.
use Rattle.std.proofs.Common.{◌≡◌, ℕ, sym, arith}
use Rattle.std.proofs.lemmas.Bool.{eq-eqb}
use Rattle.model.specs.Board.{Board}
use Rattle.model.specs.Box.{Box}
use Rattle.model.specs.Laws.{asked}
use Rattle.model.proofs.Asked.{asked-fits}
use Rattle.board.specs.Numbers.{number}
use Rattle.board.specs.declared.refusal.Refusal.{Refusal}
use Rattle.board.specs.declared.refusal.Refusal.TheVariants as re

pub some_number : (e : Refusal) → number e ≡ 0 → ⊥
some_number re.Board z = omega arith
some_number re.Sensor z = omega arith
some_number re.Set z = omega arith
some_number re.Mask z = omega arith
some_number re.Kind z = omega arith
some_number re.Twice z = omega arith
some_number re.Count z = omega arith
some_number re.Room z = omega arith
some_number re.Output z = omega arith

module _ {R : Type 0} (fault : Board → R → ℕ) (run : Board → R → Box → Box) (bd : Board) (r : R) (b : Box) where
  pub asked-ok : 0 ≡ fault bd r → asked fault run bd r b ≡ run bd r b
  asked-ok e = asked-fits fault run bd r b (eq-eqb (fault bd r) 0 (sym e))
