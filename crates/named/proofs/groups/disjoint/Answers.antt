use Rattle.std.proofs.Common.{sym, ◌∙◌}
use Rattle.board.specs.Model.{board}
use Rattle.plan.specs.States.{state_of}
use Rattle.named.proofs.Accepted.{groups, disjoint-each}
use Rattle.named.proofs.Meant.{disjoint-meant}
use Rattle.named.proofs.groups.disjoint.Goals as goal

pub returns-clause-whole : goal.returns-clause-whole
returns-clause-whole c =
    let a = c.enter_groups.ensures.answer in
    record {
      answer = a;
      accepted = c.enter_groups.ensures.accepted;
      each = λ e. disjoint-each (state_of c.args.draft.now) c.args.g c.args.h c.args.s c.args.t c.args.u c.args.w (sym a ∙ e);
    }

pub returns-clause-means : goal.returns-clause-means
returns-clause-means c = λ e x on.
    let d = c.args.draft.now in
    disjoint-meant (board d.plan) d.plan.sized.0.1 c.args.g c.args.h c.args.s c.args.t c.args.u c.args.w
    (groups (state_of d) c.args.g c.args.h c.args.s c.args.t c.args.u c.args.w (sym c.enter_groups.ensures.answer ∙ e)) x on
