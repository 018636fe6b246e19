use Rattle.std.proofs.Common.{ℕ, refl}
use Rattle.std.proofs.lemmas.List.{get_or-replicate}
use Rattle.covering.proofs.Held.{sensors-low}
use Rattle.spares.proofs.Groups.{rowed-start, rowed-more, rowed-all}
use Rattle.spares.proofs.spares.rows.Goals as goal

pub loop-v-init : goal.loop-v-init
loop-v-init c = simp (c.into_iter-v-iterator.ensures.into_iter_gives, c.members-v-items.ensures) (rowed-start _ _ _ _ refl (λ v l. get_or-replicate {A = ℕ} 64 v 0 0 l))

pub bounds-cands-notes : goal.bounds-cands-notes
bounds-cands-notes c =
    let n = c.args.notes.now in
    let v = c.in-Some.v in
    sensors-low n _ (n.matching.noted v (c.requires v (c.loop-v.invariant.inside v c.in-Some.ensures.steps.1.member))).0

pub loop-v-preserved : goal.loop-v-preserved
loop-v-preserved c = rowed-more c.in-Some.ensures.steps.1 c.loop-v.invariant

pub returns : goal.returns
returns c = rowed-all c.in-None.ensures.steps.0 c.loop-v.invariant
