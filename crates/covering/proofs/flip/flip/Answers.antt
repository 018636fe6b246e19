use Rattle.std.proofs.Common.{refl, arith, rules}
use Rattle.covering.proofs.Flips.{flipping-start, flipping-low, flipping-from, flipping-done, flipping-on, placed-start, placed-next, placed-last, placed-busy}
use Rattle.covering.proofs.flip.flip.Goals as goal
use Rattle.covering.proofs.flip.flip.Goals.{else-loop-step-test, then-loop-step-test+then-u-w}

pub loop-step-init : goal.loop-step-init
loop-step-init c = (refl, refl, refl, flipping-start (search rules) (search rules) c.requires.held c.requires.led, refl, placed-start)

pub bounds-from-i : goal.bounds-from-i
bounds-from-i c = flipping-low (search rules) c.requires.unclaimed c.loop-step.invariant.3

pub bounds-pairs-u : goal.bounds-pairs-u
bounds-pairs-u c = flipping-from (search rules) c.requires.unclaimed c.loop-step.invariant.3

pub bounds-pairs-u-in-loop-step : goal.bounds-pairs-u-in-loop-step
bounds-pairs-u-in-loop-step c = flipping-from (search rules) c.requires.unclaimed c.loop-step.invariant.3

pub bounds-pairs-i : goal.bounds-pairs-i
bounds-pairs-i c = flipping-low (search rules) c.requires.unclaimed c.loop-step.invariant.3

pub loop-step-preserved : goal.loop-step-preserved
loop-step-preserved c =
    let h = c.loop-step.invariant in (
      h.0,
      h.1,
      h.2,
      flipping-on (search rules) c.requires.unclaimed h.3 c.if-u-w.false,
      h.4,
      placed-next h.5 (flipping-low (search rules) c.requires.unclaimed h.3)
          (flipping-from (search rules) c.requires.unclaimed h.3) h.3.flip.long.1,
    )

pub returns : goal.returns
returns c =
    let h = c.loop-step.invariant in
    let low = flipping-low (search rules) c.requires.unclaimed h.3 in
    let first = flipping-low (search rules) c.requires.unclaimed (flipping-start (search rules) (search rules) c.requires.held c.requires.led) in
    elim c.loop-step-test.branch [
      | else-loop-step-test t ↦ absurd (let l = h.3.left in let e = t.loop-step-test.false in omega arith)
      | then-loop-step-test+then-u-w t ↦ simp (c.with-pairs.ensures.low c.requires.low, c.drop_one-pairs.ensures.low first, t.pairs-is, h.0, h.1, h.2, h.4)
          (record { same = (refl, refl); more = refl; busy = λ b. placed-busy c.args.pairs.now.sensors c.args.pairs.now.idle c.args.free c.args.pairs.now.owner _ b (placed-last h.5 low (flipping-from (search rules) c.requires.unclaimed h.3) h.3.flip.long.1); held = flipping-done (search rules) c.requires.unclaimed h.3 t.if-u-w.true })
    ]

pub overflow_cast-u : goal.overflow_cast-u
overflow_cast-u c =
    let l = flipping-low (search rules) c.requires.unclaimed c.loop-step.invariant.3 in
    omega arith

pub overflow_cast-pairs-in-loop-step : goal.overflow_cast-pairs-in-loop-step
overflow_cast-pairs-in-loop-step c =
    let l = flipping-low (search rules) c.requires.unclaimed c.loop-step.invariant.3 in
    omega arith
