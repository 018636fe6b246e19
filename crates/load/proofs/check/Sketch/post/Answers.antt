use Rattle.std.proofs.Common.{◌<◌, min, sym, ◌∙◌, rules}
use Rattle.std.proofs.lemmas.Bool.{leb-false}
use Rattle.model.specs.Capacity.{most_places}
use Rattle.plan.proofs.Tables.{no-eight, earlier-none-r}
use Rattle.load.proofs.check.Sketch.post.Goals as goal

pub overflow_add-self : goal.overflow_add-self
overflow_add-self c =
    let t = c.args.self.now in
    let z = earlier-none-r _ _ (sym c.in_ok-earlier.ensures) in
    let h : t.count < min t.places most_places = leb-false _ _ (no-eight _ (sym c.room.ensures ∙ z)) in
    search rules
