use Rattle.std.proofs.Common.{◌≡◌, get_or, refl, ap, ◌∙◌, subst}
use Rattle.model.specs.Board.{Board}
use Rattle.model.specs.Entries.{limit, narrow}
use Rattle.model.specs.Settled.{Progress}
use Rattle.model.proofs.Narrowing.{progress-join, progress-none}
use Rattle.board.specs.Model.{board, model}
use Rattle.board.proofs.Shapes.{is-kept, some}
use Rattle.range.proofs.Entering.{kept_on, limited-more, limited-start}
use Rattle.range.proofs.enter.limit_all.Goals as goal

pub loop-i-init : goal.loop-i-init
loop-i-init c =
    let d = c.args.d.now in
    simp (c.into_iter-i-iterator.ensures.into_iter_gives, c.members-i-items.ensures)
    (refl, limited-start (board d) (some d) c.args.sensors c.args.keep.now (model d) (is-kept d), progress-none (board d) (some d) (model d))

pub loop-i-preserved : goal.loop-i-preserved
loop-i-preserved c =
    let d = c.args.d.now in
    let was = c.loop-i.d in
    let is = c.limit-moved.new.self in
    let inv = c.loop-i.invariant in
    let e = c.limit-moved.ensures in
    let same : board is ≡ board d = e.board ∙ inv.0 in (
      same,
      limited-more (board d) (some d) c.args.sensors c.args.keep.now (model d) (model was) (model is)
          c.in-Some.ensures.steps.1 (is-kept d) (kept_on was (board d) inv.0) (kept_on is (board d) same) inv.1
          (e.model ∙ ap (λ (b : Board). narrow b (limit c.in-Some.i (get_or c.args.keep.now c.in-Some.i 0)) (model was)) inv.0),
      progress-join (board d) (some d) c.loop-i.moved c.limit-moved.result (model d) (model was) (model is) inv.2
          (subst (λ (b : Board). Progress b c.limit-moved.result (model was) (model is)) inv.0 e.moved),
    )
