use Rattle.std.proofs.Common.{ℕ, ◌^◌, ◌<◌, get_or, sym, subst, rules}
use Rattle.covering.specs.Covering.{Avoidable, Needed}
use Rattle.covering.specs.Search.{Owners}
use Rattle.covering.proofs.Held.{at-notes, slot, sensors-low, claimed-low}
use Rattle.covering.proofs.Coverings.{idle-avoidable, outside, unowned, owners-without, led-avoidable, stuck-needed}
use Rattle.covering.proofs.cover.spare.Goals as goal

pub returns-then-i-ge-NONE : goal.returns-then-i-ge-NONE
returns-then-i-ge-NONE c can s k f =
    let n = c.args.notes.now in
    at-notes (λ x y. Avoidable can x y c.args.i) can s k n f (λ o.
    idle-avoidable c.args.i n.matching o.takers (outside c.args.i n.matching n.sized c.if-i-ge-NONE.true))

pub returns-then-u-eq-NONE : goal.returns-then-u-eq-NONE
returns-then-u-eq-NONE c can s k f =
    let n = c.args.notes.now in
    let l : n.pairs.claimed < 2 ^ 64 = search rules in
    at-notes (λ x y. Avoidable can x y c.args.i) can s k n f (λ o.
    idle-avoidable c.args.i n.matching o.takers (unowned c.args.i n.matching l c.if-u-eq-NONE.true))

pub search-requires : goal.search-requires
search-requires c =
    let n = c.args.notes.now in
    let l = c.if-i-ge-NONE.false in
    let low = slot n c.args.i l c.if-u-eq-NONE.false in
    record {
      low = low;
      owners = subst (λ (x : ℕ). Owners n.pairs.owner x (get_or n.pairs.owner c.args.i 0)) (sym (c.drop_one.ensures.low l))
          (owners-without n.matching (sensors-low n) (claimed-low n (search rules)) l low);
    }

pub returns-in_default : goal.returns-in_default
returns-in_default c can s k f =
    let n = c.args.notes.now in
    let l = c.if-i-ge-NONE.false in
    let low = claimed-low n (search rules) in
    let led = simp (c.drop_one.ensures.low l) at c.in_default.ensures in
    at-notes (λ x y. Avoidable can x y c.args.i) can s k n f (λ o.
    led-avoidable n.matching (sensors-low n) low l (slot n c.args.i l c.if-u-eq-NONE.false) o.takers led)

pub returns : goal.returns
returns c can s k f =
    let n = c.args.notes.now in
    let l = c.if-i-ge-NONE.false in
    let low = claimed-low n (search rules) in
    let stuck = simp (c.drop_one.ensures.low l) at c.in-Err.ensures in
    at-notes (λ x y. Needed can x y c.args.i c.in-Err.group) can s k n f (λ o.
    stuck-needed n.matching (sensors-low n) low l (slot n c.args.i l c.if-u-eq-NONE.false) o.takers stuck)
