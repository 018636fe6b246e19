use Rattle.std.proofs.Common.{get_or}
use Rattle.spares.proofs.Turns.{two-taken}
use Rattle.spares.proofs.turn.add_two.Goals as goal

pub returns : goal.returns
returns c u v l =
    let a = c.args.a in
    let b = c.args.b in
    two-taken (get_or c.args.turned.now u 0) (get_or c.add_takers.new.takers u 0) (get_or c.add_takers-2.new.takers u 0) (get_or c.add_takers-3.new.takers u 0)
    a c.args.one b c.args.other u v (c.add_takers.ensures u l) (simp c.take_out.ensures at (c.add_takers-2.ensures u l)) (simp c.take_out-2.ensures at (c.add_takers-3.ensures u l))
