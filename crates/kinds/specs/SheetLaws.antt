-- The rules of a sheet have the laws, as the rules that they hold. Assumes nothing.
use Rattle.std.specs.Prelude.{◌≡◌, true, ◌<◌}
use Rattle.model.specs.Board.{Board}
use Rattle.model.specs.Laws.{Lawful, Restful, Laws, Rests, fits}
use Rattle.model.proofs.Asked.{tight-lawful, tight-restful}
use Rattle.roots.specs.Parts.{roots_lawful, roots_restful}
use Rattle.range.specs.Ranges.{range_fault, range_holds}
use Rattle.sets.specs.Withins.{within_fault, within_holds}
use Rattle.sets.specs.Aparts.{apart_fault, apart_holds}
use Rattle.sets.specs.Counts.{count_fault, count_holds}
use Rattle.sets.specs.Rows.{row_fault, row_holds}
use Rattle.kinds.specs.declared.SheetRule.{SheetRule}
use Rattle.kinds.specs.declared.SheetRule.TheVariants as kind
use Rattle.kinds.specs.SheetRules.{sheet_fault, sheet_holds, sheet_run}

laws : (bd : Board) → 0 < bd.sensors → (r : SheetRule) → fits sheet_fault bd r ≡ true → Laws bd (sheet_holds bd r) (sheet_run bd r)
laws bd some (kind.Range r) = (tight-lawful range_fault range_holds).laws bd some r
laws bd some (kind.Roots r) = roots_lawful.laws bd some r
laws bd some (kind.Within r) = (tight-lawful within_fault within_holds).laws bd some r
laws bd some (kind.Apart r) = (tight-lawful apart_fault apart_holds).laws bd some r
laws bd some (kind.Count r) = (tight-lawful count_fault count_holds).laws bd some r
laws bd some (kind.Row r) = (tight-lawful row_fault row_holds).laws bd some r

rests : (bd : Board) → 0 < bd.sensors → (r : SheetRule) → fits sheet_fault bd r ≡ true → Rests bd (sheet_run bd r)
rests bd some (kind.Range r) = (tight-restful range_fault range_holds).rests bd some r
rests bd some (kind.Roots r) = roots_restful.rests bd some r
rests bd some (kind.Within r) = (tight-restful within_fault within_holds).rests bd some r
rests bd some (kind.Apart r) = (tight-restful apart_fault apart_holds).rests bd some r
rests bd some (kind.Count r) = (tight-restful count_fault count_holds).rests bd some r
rests bd some (kind.Row r) = (tight-restful row_fault row_holds).rests bd some r

pub sheet_lawful : Lawful sheet_fault sheet_holds sheet_run
sheet_lawful = record { laws = laws }

pub sheet_restful : Restful sheet_fault sheet_run
sheet_restful = record { rests = rests }
