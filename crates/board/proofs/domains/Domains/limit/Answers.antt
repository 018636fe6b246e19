use Rattle.std.proofs.Common.{refl}
use Rattle.std.proofs.lemmas.Bool.{le-ltb}
use Rattle.model.specs.Entries.{limit}
use Rattle.board.proofs.Words.{off-board, limit-none, limit-kills, limit-left, limit-writes, limit-box, limit-rows}
use Rattle.board.proofs.domains.Domains.limit.Goals as goal

pub returns-then-sensor-self : goal.returns-then-sensor-self
returns-then-sensor-self c =
    let w = off-board c.args.self.now (limit c.args.sensor c.args.mask) (le-ltb _ _ c.if-sensor-self.true) in
    record { board = w.board_same; model = w.model_is; moved = w.progress }

pub returns-then-left-was : goal.returns-then-left-was
returns-then-left-was c =
    let w = limit-none c.args.self.now c.args.sensor c.args.mask c.if-sensor-self.false c.if-left-was.true in
    record { board = w.board_same; model = w.model_is; moved = w.progress }

pub invariant_of-self : goal.invariant_of-self
invariant_of-self c =
    let r = limit-rows c.args.self.now c.args.sensor c.args.mask _ c.if-sensor-self.false refl
    (limit-left c.args.self.now c.args.sensor c.args.mask c.if-sensor-self.false c.if-left-was.false c.if-left-eq0.false) in
    record { sized = r.sized; long = r.long; padded = r.padded; fitted = r.fitted; canon = r.canon }

pub returns-then-left-eq0 : goal.returns-then-left-eq0
returns-then-left-eq0 c =
    let w = limit-kills c.args.self.now c.args.sensor c.args.mask c.if-sensor-self.false c.if-left-was.false c.if-left-eq0.true _ _ c.kill.ensures.board c.kill.ensures.model in
    record { board = w.board_same; model = w.model_is; moved = w.progress }

pub returns-else-left-eq0 : goal.returns-else-left-eq0
returns-else-left-eq0 c =
    let d = c.args.self.now in
    let w = limit-writes d c.args.sensor c.args.mask c.if-sensor-self.false c.if-left-was.false c.if-left-eq0.false _ (limit-box d c.args.sensor c.args.mask _ c.if-sensor-self.false refl) in
    record { board = w.board_same; model = w.model_is; moved = w.progress }
