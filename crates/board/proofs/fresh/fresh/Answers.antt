use Rattle.std.proofs.Common.{◌≡◌, ℕ, ◌-◌, ◌^◌, ◌≤◌, ◌++◌, min, Bool, true, false, cond, refl, sym, ap, ◌∙◌, subst, drop, replicate, arith, rules}
use Rattle.masks.specs.Masks.{has}
use Rattle.model.specs.Capacity.{most_sensors, most_sets}
use Rattle.model.specs.Board.{board_of, room}
use Rattle.board.proofs.Fills.{Filled, none, front, one_more, box-full, full-rows}
use Rattle.board.proofs.fresh.fresh.Goals as goal

-- a mask of all numbers below a count that the board allows
all : (n r : ℕ) → n ≤ 64 → r ≡ 2 ^ min n 64 - 1 → r ≡ 2 ^ n - 1
all n r h e = e ∙ ap (λ (k : ℕ). 2 ^ k - 1) (omega arith)

pub loop-j-init : goal.loop-j-init
loop-j-init c =
    let slots = all c.args.m _ c.requires.1.1 c.all_below-slots.ensures in
    let row = c.front-cands.ensures ∙ ap (λ v. replicate c.args.n v ++ drop c.args.n (replicate 64 0)) slots in
    (subst (Filled (λ _. 2 ^ c.args.m - 1) most_sensors c.args.n) (sym row) (front (2 ^ c.args.m - 1) most_sensors c.args.n c.requires.0.1), none _ most_sets)

pub loop-j-preserved : goal.loop-j-preserved
loop-j-preserved c =
    let bd = board_of c.args.n c.args.m c.args.k c.args.kinds in
    let size : (t : Bool) → cond t c.all_below-slots.result c.all_below-sensors.result ≡ 2 ^ cond t c.args.m c.args.n - 1 =
    λ t. elim t as (λ b. cond b c.all_below-slots.result c.all_below-sensors.result ≡ 2 ^ cond b c.args.m c.args.n - 1) [
      | true ↦ all c.args.m _ c.requires.1.1 c.all_below-slots.ensures
      | false ↦ all c.args.n _ c.requires.0.1 c.all_below-sensors.ensures
    ] in
    (c.loop-j.invariant.0, one_more (λ j. 2 ^ room bd j - 1) most_sets c.loop-j.j c.loop-j.hi _ (omega (arith, c.requires.2.0)) (c.all_of.ensures ∙ size (has c.args.kinds c.loop-j.j)) c.loop-j.invariant.1)

pub invariant_of-result : goal.invariant_of-result
invariant_of-result c =
    let bd = board_of c.args.n c.args.m c.args.k c.args.kinds in
    let e : c.loop-j.j ≡ c.args.k = search rules in
    let fh = subst (λ z. Filled (λ j. 2 ^ room bd j - 1) most_sets z c.loop-j.hi) e c.loop-j.invariant.1 in
    let r = full-rows bd c.requires _ _ c.loop-j.invariant.0 fh in
    record { sized = r.sized; long = r.long; padded = r.padded; fitted = r.fitted; canon = r.canon }

pub returns : goal.returns
returns c =
    let bd = board_of c.args.n c.args.m c.args.k c.args.kinds in
    let e : c.loop-j.j ≡ c.args.k = search rules in
    let fh = subst (λ z. Filled (λ j. 2 ^ room bd j - 1) most_sets z c.loop-j.hi) e c.loop-j.invariant.1 in
    (refl, box-full bd c.requires _ _ c.loop-j.invariant.0 fh)
