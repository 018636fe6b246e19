use Rattle.std.proofs.Common.{◌≡◌, ℕ, ◌^◌, ◌<◌, List, sym, refl, ◌∙◌, subst, rules}
use Rattle.std.proofs.lemmas.List.{get_or-replicate}
use Rattle.std.proofs.lemmas.Bool.{both_ways}
use Rattle.masks.proofs.Masks.{has-below}
use Rattle.covering.specs.Covering.{candidate, Short}
use Rattle.covering.specs.Matching.{Tells, Turned}
use Rattle.covering.specs.Search.{Led}
use Rattle.covering.proofs.Shorts.{short-uncoverable}
use Rattle.covering.proofs.Turns.{turned-tells}
use Rattle.covering.proofs.Coverings.{under-start, under_more, under_all, under-owners, under-short, under-covering}
use Rattle.covering.proofs.cover.cover.Goals as goal

-- the takers are those that the candidates give
tells : (cands : List ℕ) (sensors claimed : ℕ) (takers made : List ℕ) → claimed < 2 ^ 64 → takers ≡ made → Turned cands sensors claimed 0 made
    → Tells (candidate cands) sensors claimed takers
tells cands sensors claimed takers made l e t =
    subst (λ (x : List ℕ). Tells (candidate cands) sensors claimed x) (sym e) (turned-tells (λ v q. has-below 64 claimed v l q) t)

pub loop-w-init : goal.loop-w-init
loop-w-init c =
    simp (c.into_iter-w-iterator.ensures.into_iter_gives, c.members-w-items.ensures)
    (refl, refl, under-start _ _ _ _ _ refl refl (λ v l. get_or-replicate {A = ℕ} 64 v 64 0 l) (λ v l. get_or-replicate {A = ℕ} 64 v 64 0 l), λ j s f. absurd (both_ways _ f s))

pub search-requires : goal.search-requires
search-requires c =
    let n = c.in-Some.ensures.steps.1 in
    record { low = n.low; owners = under-owners c.loop-w.invariant.2 c.loop-w.invariant.1 (search rules) n.member n.low }

pub flip-requires : goal.flip-requires
flip-requires c =
    let h = c.loop-w.invariant in
    let n = c.in-Some.ensures.steps.1 in
    record {
      low = n.low;
      unclaimed = (h.2.rest c.in-Some.w n.member).1;
      held = h.2.matching;
      led = subst (λ (x : ℕ). Led c.loop-w.pairs.takers c.loop-w.pairs.owner x c.in-Some.w c.search.new.from c.in-Ok.free) (sym h.1) c.in-Ok.ensures;
    }

pub loop-w-preserved : goal.loop-w-preserved
loop-w-preserved c =
    let h = c.loop-w.invariant in
    let f = c.flip.ensures in
    let m = simp f.more at f.held in
    (f.same.0 ∙ h.0, f.same.1 ∙ h.1, simp f.more (under_more c.in-Some.ensures.steps.1 h.2 m), f.busy h.3)

pub returns-in-Err : goal.returns-in-Err
returns-in-Err c =
    let h = c.loop-w.invariant in
    let s : Short (candidate c.args.cands.now) c.args.sensors c.args.claimed c.in-Err.group =
    under-short h.2 (search rules) c.in-Some.ensures.steps.1.member
    (tells c.args.cands.now c.args.sensors c.args.claimed _ _ (search rules) h.0 c.takers_of-takers.ensures) c.in-Err.ensures in
    record { covers = (s, short-uncoverable s); busy = tt }

pub invariant_of-result : goal.invariant_of-result
invariant_of-result c =
    let m = c.loop-w.invariant.2.matching in
    let sized : c.args.sensors < 2 ^ 64 = search rules in
    record { matching = m; sized = subst (λ (x : ℕ). x < 2 ^ 64) (sym c.loop-w.invariant.1) sized }

pub returns : goal.returns
returns c =
    let h = c.loop-w.invariant in
    let z = c.in-None.ensures.steps.0 in
    let t = tells c.args.cands.now c.args.sensors c.args.claimed _ _ (search rules) h.0 c.takers_of-takers.ensures in
    let k = under-covering h.2 z h.1 t in
    record { covers = record { among = h.1; slots = under_all z h.2; takers = t; covers = k.0; bare = k.1 }; busy = h.3 }
