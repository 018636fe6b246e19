use Rattle.std.proofs.Common.{sym, refl, arith, rules}
use Rattle.sheet.specs.Steps.{meant}
use Rattle.sheet.proofs.Whole.{moves, goes-in}
use Rattle.sheet.proofs.reader.Reader.advance.Goals as goal

pub returns-clause-moved : goal.returns-clause-moved
returns-clause-moved c = moves c.args.self.now _ refl (search rules)

pub overflow_add-self : goal.overflow_add-self
overflow_add-self c = let s = goes-in c.args.self.now c.rest-rest.result.now (meant c.in_ok-one.one) c.in_ok-one.taken c.rest-rest.ensures (sym c.in_ok-one.ensures) in omega arith

pub invariant_of-self : goal.invariant_of-self
invariant_of-self c =
    let x = c.args.self.now in
    record { short = x.short; begins = omega (arith, x.begins); within = goes-in x c.rest-rest.result.now (meant c.in_ok-one.one) c.in_ok-one.taken c.rest-rest.ensures (sym c.in_ok-one.ensures) }
