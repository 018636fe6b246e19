-- Settled, every choice left is supported by the accepted Range rules, and Roots rules with a decided slot set. Assumes nothing.
use Rattle.std.proofs.Common.{◌≡◌, ◌<◌, ap, ◌∙◌}
use Rattle.std.proofs.lemmas.Bool.{eqb-true}
use Rattle.model.specs.Box.{Box, Kept, choice}
use Rattle.model.specs.Calls.{State, does, settle}
use Rattle.model.proofs.Narrowing.{live-kept}
use Rattle.model.proofs.Tight.{tightness}
use Rattle.roots.proofs.Exact.{decided-exact}
use Rattle.range.specs.Ranges.{range_holds}
use Rattle.kinds.specs.SheetRules.{sheet_fault, sheet_run}
use Rattle.kinds.specs.SheetLaws.{sheet_lawful}
use Rattle.plan.proofs.Trusting.{at_rest}
use Rattle.planner.specs.Support.{Supports}
use Rattle.kinds.specs.declared.SheetRule.{SheetRule}
use Rattle.kinds.specs.declared.SheetRule.TheVariants as kind

module _ (s : State SheetRule) (some : 0 < s.board.sensors) (slots : 0 < s.board.slots) (t : Box) (e : t ≡ (does sheet_fault sheet_run settle s).box) (kt : Kept s.board t) where
  pub supporting : Supports s t
  supporting = record {
    range = λ h l v r m c u.
        let a = at_rest sheet_lawful s some slots t e h l (kind.Range r) m in
        (tightness s.board some (range_holds s.board r)).used t kt c (ap (λ z. choice s.board z c) a.1 ∙ u);
    roots = λ h l v r m d c u.
        let a = at_rest sheet_lawful s some slots t e h l (kind.Roots r) m in
        (decided-exact s.board some r t (record { fit = eqb-true _ 0 a.0; live = live-kept s.board some t kt v; still = a.1 })).slots_decided d c u;
  }
