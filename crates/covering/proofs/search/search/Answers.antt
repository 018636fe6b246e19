use Rattle.std.proofs.Common.{◌≡◌, ℕ, get_or, refl, ap, ◌∙◌, arith, rules}
use lib.Bits.{bit_and, bit_or, or_zero_r}
use lib.Count.{ones}
use Rattle.covering.proofs.Singles.{drop-ones}
use Rattle.covering.proofs.Hunts.{start, round-level, round-start, round-end, round-found, round-slot, round-seen, round_same}
use Rattle.covering.proofs.search.search.Goals as goal
use Rattle.covering.proofs.search.search.Goals.{in_default, in-Some+in-Some-split_by+then-v-eq-NONE}

pub search-init : goal.search-init
search-init c =
    simp (c.with-reached.ensures.low c.requires.low)
    (start c.args.pairs.now.takers c.args.pairs.now.owner c.args.sensors c.args.w _ c.requires.low (search rules))

pub loop-i-init : goal.loop-i-init
loop-i-init c = (simp c.take_out-unseen.ensures (round-start c.in-Some.u c.search.invariant c.in-Some.ensures.member), refl)

pub loop-i-smaller : goal.loop-i-smaller
loop-i-smaller c =
    let p = c.in-Some-split_by.ensures in
    let one = drop-ones c.in-Some-split_by.i c.loop-i.fresh p.member in
    simp p.others (omega arith)

pub loop-i-preserved : goal.loop-i-preserved
loop-i-preserved c =
    let r = c.loop-i.invariant.0 in
    let p = c.in-Some-split_by.ensures in
    let l = round-slot r p c.requires.owners c.if-v-eq-NONE.false in
    simp (c.with-reached-in-Some-split_by.ensures.low l, c.with-pending.ensures.low l)
    (round-seen r p c.requires.owners l, round_same r p c.requires.owners l ∙ c.loop-i.invariant.1)

pub search-smaller : goal.search-smaller
search-smaller c =
    let u = c.take_out-unseen.result in
    let one = drop-ones c.in-Some.u c.loop-i.pending c.loop-i.invariant.0.at in
    let none : ones (bit_or u c.loop-i.fresh) ≡ ones u = ap (λ (x : ℕ). ones (bit_or u x)) c.in_default-split_by.ensures ∙ ap ones (or_zero_r u) in
    let all : ones (bit_or u (bit_and (get_or c.args.pairs.now.takers c.in-Some.u 0) c.search.unseen)) ≡ ones c.search.unseen =
    simp c.take_out-unseen.ensures (round-level c.search.unseen (get_or c.args.pairs.now.takers c.in-Some.u 0)) in
    simp (c.drop_one-pending.ensures.low c.in-Some.ensures.low) (omega (arith, c.loop-i.invariant.1))

pub search-preserved : goal.search-preserved
search-preserved c = simp (c.drop_one-pending.ensures.low c.in-Some.ensures.low) (round-end c.loop-i.invariant.0 c.in_default-split_by.ensures)

pub returns : goal.returns
returns c = elim c.match-split.branch [
  | in_default t ↦ simp (c.ok_or.ensures.value, t.free-is, t.reached-is)
      (record { from = c.search.from; unseen = c.search.unseen; hunt = simp t.in_default.ensures at c.search.invariant })
  | in-Some+in-Some-split_by+then-v-eq-NONE t ↦ simp (c.ok_or.ensures.value, t.free-is, t.from-is)
      (round-found t.loop-i.invariant.0 t.in-Some-split_by.ensures t.if-v-eq-NONE.true)
]
