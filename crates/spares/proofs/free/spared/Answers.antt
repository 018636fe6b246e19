use Rattle.std.proofs.Common.{◌≡◌, ℕ, true, sym, ◌∙◌, arith, rules}
use lib.Bits.{bit_and}
use Rattle.std.proofs.lemmas.Bool.{and_parts}
use Rattle.masks.specs.Masks.{has}
use Rattle.masks.proofs.Masks.{has-and}
use Rattle.covering.specs.Covering.{candidate}
use Rattle.covering.specs.Notes.{sensor_of}
use Rattle.covering.proofs.Held.{at-notes, sensors-low}
use Rattle.covering.proofs.Singles.{drop-only, drop-ones}
use Rattle.spares.specs.Free.{Freed}
use Rattle.spares.proofs.Moves.{freed-full}
use Rattle.spares.proofs.Sharing.{freed-offered, freed-next, freed-last}
use Rattle.spares.proofs.free.spared.Goals as goal

both : (free left v : ℕ) → has (bit_and free left) v ≡ true → (has free v ≡ true) × (has left v ≡ true)
both free left v e = and_parts _ _ (sym (has-and free left v) ∙ e)

pub loop-v-init : goal.loop-v-init
loop-v-init c = (λ v e. e, λ o b. freed-offered c.args.notes.now (search rules) c.args.cands.now o b c.offered-free.ensures)

-- a slot that is free and left is claimed
pub bounds-cands-notes : goal.bounds-cands-notes
bounds-cands-notes c =
    let n = c.args.notes.now in
    let v = c.in-Some.v in
    let p = both c.loop-v.free c.loop-v.left v c.in-Some.ensures.member in
    sensors-low n _ (n.matching.noted v (c.loop-v.invariant.0 v p.1)).0

pub loop-v-smaller : goal.loop-v-smaller
loop-v-smaller c =
    let v = c.in-Some.v in
    let p = both c.loop-v.free c.loop-v.left v c.in-Some.ensures.member in
    simp (c.drop_one-left.ensures.low c.in-Some.ensures.low) (omega (arith, drop-ones v c.loop-v.left p.1))

pub loop-v-preserved : goal.loop-v-preserved
loop-v-preserved c =
    let v = c.in-Some.v in
    simp (c.drop_one-left.ensures.low c.in-Some.ensures.low) (
      λ x e. c.loop-v.invariant.0 x (drop-only c.loop-v.left v x e),
      λ o b. freed-next c.args.notes.now (search rules) c.args.cands.now o c.loop-v.left v c.in-Some.ensures.member (c.loop-v.invariant.1 o b),
    )

pub returns-then-free-claimed : goal.returns-then-free-claimed
returns-then-free-claimed c s k f b =
    let n = c.args.notes.now in
    let cands = c.args.cands.now in
    at-notes (λ x y. Freed (candidate cands) x y (sensor_of n) c.loop-v.free c.loop-v.free) (candidate cands) s k n f (λ o.
    freed-full c.if-free-claimed.true (c.loop-v.invariant.1 o b))

pub returns : goal.returns
returns c s k f b =
    let n = c.args.notes.now in
    let cands = c.args.cands.now in
    at-notes (λ x y. Freed (candidate cands) x y (sensor_of n) c.loop-v.free c.loop-v.free) (candidate cands) s k n f (λ o.
    freed-last n (search rules) cands o c.loop-v.left c.in_default.ensures (c.loop-v.invariant.1 o b))
