use Rattle.std.proofs.Common.{ℕ, replicate, sym, ap, ◌∙◌, rules}
use Rattle.masks.specs.Masks.{has}
use Rattle.masks.proofs.Masks.{has-below}
use Rattle.covering.specs.Covering.{candidate}
use Rattle.covering.proofs.Held.{at-notes}
use Rattle.covering.proofs.Singles.{less-only}
use Rattle.spares.specs.Spares.{SparesOf}
use Rattle.spares.proofs.Groups.{edges-of}
use Rattle.spares.proofs.Sharing.{spares-free, spares_of}
use Rattle.spares.proofs.spares.spare_all.Goals as goal

pub rows-requires : goal.rows-requires
rows-requires c v e = (less-only c.args.notes.now.pairs.claimed c.spared.result v (ap (λ (x : ℕ). has x v) (sym c.take_out-bound.ensures) ∙ e)).0

pub returns-then-bound-eq0 : goal.returns-then-bound-eq0
returns-then-bound-eq0 c s k f b =
    let n = c.args.notes.now in
    let cands = c.args.cands.now in
    let bound = c.take_out-bound.result in
    let none = replicate {A = ℕ} 64 0 in
    at-notes (λ x y. SparesOf (candidate cands) x y (record { owner = n.pairs.owner; bound = bound; groups = none })) (candidate cands) s k n f (λ o.
    spares-free n (search rules) cands o (c.spared.ensures _ _ o b) bound none c.take_out-bound.ensures c.if-bound-eq0.true)

pub returns : goal.returns
returns c s k f b =
    let n = c.args.notes.now in
    let cands = c.args.cands.now in
    let bound = c.take_out-bound.result in
    let groups = c.close.new.next in
    at-notes (λ x y. SparesOf (candidate cands) x y (record { owner = n.pairs.owner; bound = bound; groups = groups })) (candidate cands) s k n f (λ o.
    spares_of n (search rules) cands o (c.spared.ensures _ _ o b) bound c.take_out-bound.ensures (edges-of (λ v e. has-below 64 bound v (search rules) e) c.rows.ensures c.turn-groups.ensures)
    c.close.ensures)
