use Rattle.std.proofs.Common.{◌≡◌, ℕ, true, false, sym, ap, ◌∙◌, is_some}
use mathlib.Core.Bool.{false≢true}
use Rattle.std.proofs.lemmas.Bool.{both_ways}
use Rattle.masks.specs.Masks.{within}
use Rattle.model.specs.Box.{lo}
use Rattle.board.specs.Model.{board, model}
use Rattle.board.proofs.Shapes.{is-kept, some}
use Rattle.covering.specs.Covering.{candidate}
use Rattle.range.proofs.Asking.{slot-found, slot-used}
use Rattle.range.proofs.Fitting.{range-fits}
use Rattle.range.proofs.Images.{ranged-says}
use Rattle.range.proofs.Supports.{lower-able, no_short}
use Rattle.range.proofs.range.Range.gives.Goals as goal

pub returns-then-not-is_within : goal.returns-then-not-is_within
returns-then-not-is_within c =
    let d = c.args.d.now in
    let k = c.args.self.now in
    let fit = range-fits (board d) k.g k.s k.t c.requires in
    let was = c.read-was.result in
    let w = c.read-was.ensures in
    let no : within (lo (model d) k.s) was.sensors ≡ false = ap (λ (u : ℕ). within u was.sensors) (sym w.lower_is) ∙ sym c.if-not-is_within.ensures in (
      λ e. absurd (false≢true e),
      λ u. absurd (both_ways _ no (lower-able (board d) k.g k.s k.t fit (model d) was.cands w.same was.sensors w.far
          u.0 u.1 u.2 (ranged-says (board d) k.g k.s k.t u.0 u.3))),
    )

pub returns-in_default : goal.returns-in_default
returns-in_default c =
    let d = c.args.d.now in
    let k = c.args.self.now in
    let fit = range-fits (board d) k.g k.s k.t c.requires in
    let was = c.read-was.result in
    let w = c.read-was.ensures in
    let z = c.in_default.ensures.covers.0 in
    let short = simp w.claimed_is at z in (
      λ e. absurd (false≢true e),
      λ u. absurd (no_short (board d) k.g k.s k.t fit (model d) was.cands w.same was.sensors w.far
          u.0 u.1 u.2 (ranged-says (board d) k.g k.s k.t u.0 u.3) c.in_default.field-0 short),
    )

pub returns : goal.returns
returns c =
    let d = c.args.d.now in
    let x = model d in
    let k = c.args.self.now in
    let i = c.args.sensor in
    let fit = range-fits (board d) k.g k.s k.t c.requires in
    let was = c.read-was.result in
    let w = c.read-was.ensures in
    let kept = c.kept-kept.result in
    let bound = is_some c.spare.result in
    let yes : within (lo x k.s) was.sensors ≡ true = ap (λ (u : ℕ). within u was.sensors) (sym w.lower_is) ∙ sym c.if-not-is_within.ensures in
    let plays = c.spare.ensures (candidate was.cands) was.sensors was.claimed c.in-Ok.ensures.covers in
    let h = simp (w.claimed_is, w.lower_is, w.upper_is, c.candidates.ensures) at (c.kept-kept.ensures (candidate was.cands) was.sensors was.claimed plays) in (
      λ e. slot-used (board d) (some d) k.g k.s k.t fit x was.cands w.same was.sensors w.far (is-kept d) yes i c.args.slot kept bound h (sym c.contains.ensures ∙ e),
      λ u. c.contains.ensures ∙ slot-found (board d) (some d) k.g k.s k.t fit x was.cands w.same was.sensors w.far i c.args.slot kept bound h u,
    )
