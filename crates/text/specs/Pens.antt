-- What a pen did. Assumes nothing.
use Rattle.std.specs.Prelude.{◌≡◌, ℕ, ◌+◌, ◌^◌, ◌<◌, List, length}
use Rattle.text.specs.declared.pen.Pen.{Pen}
use Rattle.text.specs.Lines.{Put}

-- a pen put a text at its place, where it fits, and stands after it; nothing is said where the place after it has no 64-bit number
pub record Puts (text : List ℕ) (p p' : Pen) : Type 0 where
  pub same : p'.out.ghost_name ≡ p.out.ghost_name
  pub long : length p'.out.now ≡ length p.out.now
  pub put : p.at + length text < 2 ^ 64 → Put text p.at p'.at p.out.now p'.out.now
