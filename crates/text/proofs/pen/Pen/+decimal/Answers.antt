use Rattle.std.proofs.Common.{◌≡◌, ◌%◌, arith}
use Rattle.std.proofs.lemmas.Fmt.{decimal_digit, decimal_step}
use Rattle.text.proofs.Puts.{puts_join}
use Rattle.text.proofs.pen.Pen.+decimal.Goals as goal
use Rattle.text.proofs.pen.Pen.+decimal.Goals.{then-n-ge10, else-n-ge10}

pub returns : goal.returns
returns t c = elim c.if-n-ge10.branch [
  | then-n-ge10 w ↦ rw (decimal_step c.args.n (omega arith) (omega arith)) (puts_join w.decimal.ensures (rw w.self-is at c.put.ensures))
  | else-n-ge10 w ↦
      let e : c.args.n % 10 ≡ c.args.n = omega arith in
      rw (decimal_digit c.args.n (omega arith)) (rw (w.self-is, e) at c.put.ensures)
]
