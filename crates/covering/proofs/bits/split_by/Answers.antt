use Rattle.std.proofs.Common.{sym, ◌∙◌}
use Rattle.std.proofs.lemmas.Bool.{and_parts}
use Rattle.masks.proofs.Masks.{has-and}
use Rattle.covering.proofs.bits.split_by.Goals as goal

pub returns-in-Some : goal.returns-in-Some
returns-in-Some c =
    let p = c.in-Some.ensures in
    record {
      low = p.low;
      member = (and_parts _ _ (sym (has-and c.args.mask c.args.rather c.in-Some.i) ∙ p.member)).0;
      others = c.drop_one.ensures.low p.low;
    }
