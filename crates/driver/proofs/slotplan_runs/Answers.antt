use Rattle.std.proofs.Common.{◌≡◌, length, subst, refl, arith, rules}
use Rattle.std.proofs.lemmas.List.{length_push}
use Rattle.std.proofs.lemmas.List.FromFn.{length-range_with_len}
use Rattle.std.proofs.lemmas.Fn.{fold_over}
use Rattle.std.proofs.lemmas.Iterator.{YieldsList-from_range}
use Rattle.std.proofs.iter.Yields.{nat_range_steps}
use Rattle.driver.specs.Exports.{first_of, joined}
use Rattle.driver.proofs.Firsts.{joined-more}
use Rattle.driver.proofs.slotplan_runs.Goals as goal

pub returns : goal.returns
returns c =
    let first = first_of c.args.file.now in
    let times = c.args.times in
    subst (λ n. c.fold.result ≡ joined n first) (length-range_with_len 0 times)
    (fold_over nat_range_steps (λ x. x) _ (λ ys sum. sum ≡ joined (length ys) first) _
    (λ ys a x b f' j k. let more = length_push ys x in let once = joined-more (length ys) first in search rules)
    _ _ _ _ (YieldsList-from_range 0 times times refl (omega arith)).runs refl c.fold.ensures.ran)
