use Rattle.std.proofs.Common.{◌∙◌, ◌++◌, ap, drop, replicate, length-take-le}
use Rattle.board.proofs.fresh.front.Goals as goal

pub returns : goal.returns
returns c = ap (λ xs. xs ++ drop c.args.n (replicate 64 0)) (c.fill.ensures.after (λ y e. e) ∙ ap (λ k. replicate k c.args.mask) (length-take-le c.args.n (replicate 64 0) c.requires))
