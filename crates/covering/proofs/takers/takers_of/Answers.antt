use Rattle.std.proofs.Common.{ℕ, refl, ◌∙◌, rules}
use Rattle.std.proofs.lemmas.List.{get_or-replicate}
use Rattle.covering.proofs.Singles.{mod_low}
use Rattle.covering.proofs.Turns.{turned-start, turned_more, turned-all}
use Rattle.covering.proofs.takers.takers_of.Goals as goal

pub loop-i-init : goal.loop-i-init
loop-i-init c =
    simp (c.into_iter-i-iterator.ensures.into_iter_gives, c.members-i-items.ensures)
    (turned-start c.args.cands.now c.args.sensors c.args.claimed _ refl (λ v l. get_or-replicate {A = ℕ} 64 v 0 0 l))

pub loop-i-preserved : goal.loop-i-preserved
loop-i-preserved c =
    let p = c.in-Some.ensures.steps.1 in
    let who = c.single.ensures ∙ mod_low c.in-Some.i p.low in
    turned_more p (search rules) (λ v l. simp who at (c.add_takers.ensures v l)) c.loop-i.invariant

pub returns : goal.returns
returns c = turned-all c.in-None.ensures.steps.0 c.loop-i.invariant
