use Rattle.std.proofs.Common.{◌≡◌, true, sym, refl, ◌∙◌}
use Rattle.std.proofs.lemmas.Bool.{le-ltb, not-true, not-false}
use Rattle.model.specs.Box.{live}
use Rattle.model.specs.Entries.{claim}
use Rattle.board.specs.Model.{board, model}
use Rattle.board.proofs.Words.{off-board, on-dead, claim-none, claim-kills, claim-left, claim-writes, claim-box, claim-rows}
use Rattle.board.proofs.domains.Domains.claim.Goals as goal

pub returns-then-set-self : goal.returns-then-set-self
returns-then-set-self c =
    let w = off-board c.args.self.now (claim c.args.set c.args.mask) (le-ltb _ _ c.if-set-self.true) in
    record { board = w.board_same; model = w.model_is; moved = w.progress }

pub returns-then-is_dead : goal.returns-then-is_dead
returns-then-is_dead c =
    let w = on-dead c.args.self.now (claim c.args.set c.args.mask) (not-true _ (sym c.is_dead.ensures ∙ c.if-is_dead.true)) in
    record { board = w.board_same; model = w.model_is; moved = w.progress }

pub returns-then-more-was : goal.returns-then-more-was
returns-then-more-was c =
    let w = claim-none c.args.self.now c.args.set c.args.mask c.if-set-self.false (not-false _ (sym c.is_dead.ensures ∙ c.if-is_dead.false)) c.if-more-was.true in
    record { board = w.board_same; model = w.model_is; moved = w.progress }

pub invariant_of-self : goal.invariant_of-self
invariant_of-self c =
    let d = c.args.self.now in
    let v : live (board d) (model d) ≡ true = not-false _ (sym c.is_dead.ensures ∙ c.if-is_dead.false) in
    let r = claim-rows d c.args.set c.args.mask _ c.if-set-self.false refl
    (claim-left d c.args.set c.args.mask c.if-set-self.false v (sym c.is_within.ensures ∙ c.if-is_within.true)) in
    record { sized = r.sized; long = r.long; padded = r.padded; fitted = r.fitted; canon = r.canon }

pub returns-then-is_within : goal.returns-then-is_within
returns-then-is_within c =
    let d = c.args.self.now in
    let v : live (board d) (model d) ≡ true = not-false _ (sym c.is_dead.ensures ∙ c.if-is_dead.false) in
    let w = claim-writes d c.args.set c.args.mask c.if-set-self.false v c.if-more-was.false (sym c.is_within.ensures ∙ c.if-is_within.true) _ (claim-box d c.args.set c.args.mask _ c.if-set-self.false refl) in
    record { board = w.board_same; model = w.model_is; moved = w.progress }

pub returns-else-is_within : goal.returns-else-is_within
returns-else-is_within c =
    let d = c.args.self.now in
    let v : live (board d) (model d) ≡ true = not-false _ (sym c.is_dead.ensures ∙ c.if-is_dead.false) in
    let w = claim-kills d c.args.set c.args.mask c.if-set-self.false v (sym c.is_within.ensures ∙ c.if-is_within.false) _ _ c.kill.ensures.board c.kill.ensures.model in
    record { board = w.board_same; model = w.model_is; moved = w.progress }
