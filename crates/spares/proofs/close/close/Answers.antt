use Rattle.std.proofs.Common.{◌≡◌, ℕ, ◌<◌, true, arith, rules}
use Rattle.masks.specs.Masks.{has, past}
use Rattle.masks.proofs.Ends.{past_all}
use Rattle.spares.proofs.Closings.{closing-start, closing-more, closing-all}
use Rattle.spares.proofs.close.close.Goals as goal

pub loop-k-init : goal.loop-k-init
loop-k-init c = simp (c.into_iter-k-iterator.ensures.into_iter_gives, c.members-k-items.ensures) (closing-start _ c.args.next.now c.args.among (search rules))

pub loop-k-preserved : goal.loop-k-preserved
loop-k-preserved c =
    let among = c.args.among in
    let low : (j : ℕ) → has among j ≡ true → j < past among = (λ j e. past_all among j (search rules) e) in
    let p = c.in-Some.ensures.steps.1 in
    closing-more _ p (low c.in-Some.k (c.loop-k.invariant.inside c.in-Some.k p.member)) (search rules)
    (λ u l. c.pass.ensures u (omega (arith, c.past-end.ensures))) c.loop-k.invariant low

pub returns : goal.returns
returns c = closing-all c.in-None.ensures.steps.0 c.loop-k.invariant
