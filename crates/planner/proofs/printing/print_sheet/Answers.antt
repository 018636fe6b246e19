use Rattle.std.proofs.Common.{ℕ, ◌<◌, ◌≤◌, List, length, refl, ap, subst}
use Rattle.board.specs.Model.{board, model}
use Rattle.text.specs.Lines.{longest_listing}
use Rattle.text.specs.Printed.{Printed}
use Rattle.text.proofs.Lengths.{longest, listing-some, refused-some}
use Rattle.plan.specs.States.{state_of, settled_of}
use Rattle.load.specs.Loads.{cause_number}
use Rattle.load.proofs.Texts.{text-listing, text-refused}
use Rattle.planner.proofs.Sheeted.{sheeted}
use Rattle.planner.proofs.printing.print_sheet.Goals as goal

pub returns-in-Ok : goal.returns-in-Ok
returns-in-Ok c =
    let d = c.begin-draft.result in
    let n = c.settle.result in
    let e = c.in-Ok.ensures in
    let t = text-listing c.args.file.now (length d.places.now) (length c.args.places.now) (state_of c.load.new.draft) (settled_of n)
    (ap length c.begin-draft.ensures.places) e.answer (e.accepted refl) c.settle.ensures.plan in
    record {
      printed = subst (λ (text : List ℕ). Printed text c.listing.result c.args.out.now c.listing.new.out) t c.listing.ensures;
      enough = subst (λ (text : List ℕ). length text ≤ longest_listing) t (longest.most (board n.plan) (model n.plan) n.plan.sized.0.1 n.plan.sized.2.0);
      some = subst (λ (text : List ℕ). 0 < length text) t (listing-some (board n.plan) (model n.plan) n.plan.sized.0.0);
      trusted = sheeted c.args.file.now (length c.args.places.now);
    }

pub returns-in-Err : goal.returns-in-Err
returns-in-Err c =
    let d = c.begin-draft.result in
    let f = c.in-Err.fault in
    let number = cause_number f.cause in
    let r = rw c.from.ensures at c.refused.ensures in
    let t = text-refused c.args.file.now (length d.places.now) (length c.args.places.now) (number, f.position) (ap length c.begin-draft.ensures.places) c.in-Err.ensures.answer in
    record {
      printed = subst (λ (text : List ℕ). Printed text c.refused.result c.args.out.now c.refused.new.out) t r.printed;
      enough = subst (λ (text : List ℕ). length text ≤ longest_listing) t r.enough;
      some = subst (λ (text : List ℕ). 0 < length text) t (refused-some number f.position);
      trusted = sheeted c.args.file.now (length c.args.places.now);
    }
