use Rattle.std.proofs.Common.{◌≡◌, ℕ, true, false, sym, ap, ◌∙◌}
use Rattle.std.proofs.lemmas.Bool.{both_ways}
use Rattle.masks.specs.Masks.{within}
use Rattle.model.specs.Box.{lo}
use Rattle.board.specs.Model.{board, model}
use Rattle.board.proofs.Shapes.{is-kept, some}
use Rattle.range.proofs.Entering.{kept_on}
use Rattle.range.proofs.Fitting.{range-fits}
use Rattle.range.proofs.RangeRuns.{killed, range-tight}
use Rattle.range.proofs.Supports.{lower-able, no_short}
use Rattle.range.proofs.range.Range.squeeze.Goals as goal

pub returns-then-not-is_within-clause-model : goal.returns-then-not-is_within-clause-model
returns-then-not-is_within-clause-model c =
    let d = c.args.d.now in
    let g = c.args.self.now.g in
    let s = c.args.self.now.s in
    let t = c.args.self.now.t in
    let fit = range-fits (board d) g s t c.requires in
    let was = c.read-was.result in
    let w = c.read-was.ensures in
    let no : within (lo (model d) s) was.sensors ≡ false = ap (λ (u : ℕ). within u was.sensors) (sym w.lower_is) ∙ sym c.if-not-is_within.ensures in
    let e = c.limit.ensures in
    killed (board d) (some d) g s t fit (model d) was.cands w.same was.sensors w.far _ (is-kept d) e.model
    (λ y o n r. both_ways _ no (lower-able (board d) g s t fit (model d) was.cands w.same was.sensors w.far y o n r))

pub returns-in-None-clause-model : goal.returns-in-None-clause-model
returns-in-None-clause-model c =
    let d = c.args.d.now in
    let g = c.args.self.now.g in
    let s = c.args.self.now.s in
    let t = c.args.self.now.t in
    let fit = range-fits (board d) g s t c.requires in
    let was = c.read-was.result in
    let w = c.read-was.ensures in
    let z = c.in-None.ensures in
    let e = c.limit-in-None.ensures in
    killed (board d) (some d) g s t fit (model d) was.cands w.same was.sensors w.far _ (is-kept d) e.model
    (λ y o n r. no_short (board d) g s t fit (model d) was.cands w.same was.sensors w.far y o n r z.0 (simp w.claimed_is at z.1))

pub returns-in-Some-clause-model : goal.returns-in-Some-clause-model
returns-in-Some-clause-model c =
    let d = c.args.d.now in
    let x = model d in
    let g = c.args.self.now.g in
    let s = c.args.self.now.s in
    let t = c.args.self.now.t in
    let fit = range-fits (board d) g s t c.requires in
    let was = c.read-was.result in
    let w = c.read-was.ensures in
    let v = c.in-Some.verdict in
    let yes : within (lo x s) was.sensors ≡ true = ap (λ (u : ℕ). within u was.sensors) (sym w.lower_is) ∙ sym c.if-not-is_within.ensures in
    let e = c.enter.ensures in
    let single = e.model.0 in
    range-tight (board d) (some d) g s t fit x was.cands w.same was.sensors w.far yes v.keep v.bound v.near single
    (simp (w.claimed_is, w.lower_is, w.upper_is) at c.in-Some.ensures) (simp (w.lower_is, w.upper_is) at e.model.1)
    (is-kept d) (model c.enter.new.d) (kept_on c.enter.new.d (board d) e.board)
    (simp w.claimed_is at e.model.2)
