use Rattle.std.proofs.Common.{rules}
use Rattle.masks.proofs.Partings.{least-parted, fewer-others}
use Rattle.masks.proofs.iter.MembersIterator.next.Goals as goal

pub returns-clause-steps : goal.returns-clause-steps
returns-clause-steps c =
    let m = c.args.self.now.left in
    (c.lowest-least.ensures, simp c.lowest-least.ensures (least-parted m (search rules) c.if-self-eq0.false))

pub returns-clause-goes : goal.returns-clause-goes
returns-clause-goes c =
    let m = c.args.self.now.left in
    let few = fewer-others (least-parted m (search rules) c.if-self-eq0.false) in
    search (rules, few)
