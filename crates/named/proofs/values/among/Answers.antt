use Rattle.std.proofs.Common.{◌≡◌, ℕ, sym, rules}
use Rattle.model.specs.Refusals.{refusal}
use Rattle.plan.specs.States.{free_places, state_of}
use Rattle.named.specs.Causes.{among_causes}
use Rattle.named.proofs.Accepted.{among-each}
use Rattle.named.proofs.Meant.{among-so}
use Rattle.named.proofs.values.among.Goals as goal

pub returns-clause-whole : goal.returns-clause-whole
returns-clause-whole c =
    let z = state_of c.args.draft.now in
    let a : ◌≡◌ {A = ℕ} 0 (refusal (among_causes z.board (free_places z) c.args.g c.args.v c.args.p c.args.q c.args.s c.args.t)) = search rules in
    record {
      answer = a;
      accepted = λ _. search rules;
      each = λ _. among-each z c.args.g c.args.s c.args.t c.args.v c.args.p c.args.q (sym a);
    }

pub returns-clause-means : goal.returns-clause-means
returns-clause-means c = λ _.
    let d = c.args.draft.now in
    let z = state_of d in
    let a : ◌≡◌ {A = ℕ} 0 (refusal (among_causes z.board (free_places z) c.args.g c.args.v c.args.p c.args.q c.args.s c.args.t)) = search rules in
    among-so z.board (free_places z) c.args.g c.args.s c.args.t d.plan.sized.1.1 c.args.v c.args.p c.args.q (sym a)
