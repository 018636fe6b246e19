use Rattle.std.proofs.Common.{◌<◌, length, rules}
use Rattle.plan.proofs.Tables.{has-place}
use Rattle.plan.proofs.draft.Draft.post.Goals as goal

pub put-requires : goal.put-requires
put-requires g c = has-place c.args.self.now _ _ c.in_ok-earlier.ensures c.room.ensures

pub overflow_add-self : goal.overflow_add-self
overflow_add-self g c =
    let h : c.args.self.now.count < length c.args.self.now.places.now = has-place c.args.self.now _ _ c.in_ok-earlier.ensures c.room.ensures in
    search rules
