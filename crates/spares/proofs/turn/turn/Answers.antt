use Rattle.std.proofs.Common.{◌≡◌, ℕ, ◌+◌, ◌*◌, refl, ◌∙◌, arith}
use Rattle.std.proofs.lemmas.List.{get_or-replicate}
use Rattle.covering.proofs.Singles.{mod_low}
use Rattle.spares.proofs.Turns.{turning-start, turning-more}
use Rattle.spares.proofs.turn.turn.Goals as goal

pub loop-two-init : goal.loop-two-init
loop-two-init c = turning-start _ _ refl (λ u l. get_or-replicate {A = ℕ} 64 u 0 0 l)

pub loop-two-preserved : goal.loop-two-preserved
loop-two-preserved c =
    let i = 2 * c.loop-two.two in
    let rows = c.args.rows.now in
    let next : 2 * (c.loop-two.two + 1) ≡ i + 2 = omega arith in
    let one = c.single.ensures ∙ mod_low i (omega arith) in
    let other = c.single-in-loop-two.ensures ∙ mod_low (i + 1) (omega arith) in
    simp next (turning-more c.add_two.array_long (λ u v l. simp (one, other) at (c.add_two.ensures u v l)) c.loop-two.invariant)

pub returns : goal.returns
returns c u v l =
    let end : 2 * c.loop-two.two ≡ 64 = omega arith in
    simp end at (c.loop-two.invariant.each u v l)
