use Rattle.std.proofs.Common.{get_or, sym, ap, ◌∙◌}
use Rattle.std.proofs.lemmas.Bool.{le-ltb}
use Rattle.masks.specs.Masks.{within}
use Rattle.model.specs.Entries.{bar}
use Rattle.board.proofs.Words.{off-board, bar-none, bar-kills, bar-left, bar-writes, bar-box, bar-rows}
use Rattle.board.proofs.domains.Domains.bar.Goals as goal

pub returns-then-set-self : goal.returns-then-set-self
returns-then-set-self c =
    let w = off-board c.args.self.now (bar c.args.set c.args.mask) (le-ltb _ _ c.if-set-self.true) in
    record { board = w.board_same; model = w.model_is; moved = w.progress }

pub returns-then-left-was : goal.returns-then-left-was
returns-then-left-was c =
    let w = bar-none c.args.self.now c.args.set c.args.mask c.if-set-self.false (sym c.take_out-left.ensures ∙ c.if-left-was.true) in
    record { board = w.board_same; model = w.model_is; moved = w.progress }

pub invariant_of-self : goal.invariant_of-self
invariant_of-self c =
    let d = c.args.self.now in
    let e = c.take_out-left.ensures in
    let r = bar-rows d c.args.set c.args.mask _ c.if-set-self.false e
    (bar-left d c.args.set c.args.mask c.if-set-self.false (λ z. c.if-left-was.false (e ∙ z)) (ap (within (get_or d.lo c.args.set 0)) (sym e) ∙ sym c.is_within.ensures ∙ c.if-is_within.true)) in
    record { sized = r.sized; long = r.long; padded = r.padded; fitted = r.fitted; canon = r.canon }

pub returns-then-is_within : goal.returns-then-is_within
returns-then-is_within c =
    let d = c.args.self.now in
    let e = c.take_out-left.ensures in
    let w = bar-writes d c.args.set c.args.mask c.if-set-self.false (λ z. c.if-left-was.false (e ∙ z)) (ap (within (get_or d.lo c.args.set 0)) (sym e) ∙ sym c.is_within.ensures ∙ c.if-is_within.true) _ (bar-box d c.args.set c.args.mask _ c.if-set-self.false e) in
    record { board = w.board_same; model = w.model_is; moved = w.progress }

pub returns-else-is_within : goal.returns-else-is_within
returns-else-is_within c =
    let d = c.args.self.now in
    let e = c.take_out-left.ensures in
    let w = bar-kills d c.args.set c.args.mask c.if-set-self.false (λ z. c.if-left-was.false (e ∙ z)) (ap (within (get_or d.lo c.args.set 0)) (sym e) ∙ sym c.is_within.ensures ∙ c.if-is_within.false) _ _ c.kill.ensures.board c.kill.ensures.model in
    record { board = w.board_same; model = w.model_is; moved = w.progress }
