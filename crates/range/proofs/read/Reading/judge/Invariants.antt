use Rattle.range.specs.Judged.{Judged}
use Rattle.range.proofs.read.Reading.judge.Given as goal

abbrev pub invariant-loop-i : goal.invariant-loop-i
invariant-loop-i l = Judged l.self.cands l.self.sensors l.self.claimed l.self.lower l.self.upper l.i-iterator.left l.keep l.bound l.near
