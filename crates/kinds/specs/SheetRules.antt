-- The rules of a sheet: each case is the rule that it holds. Assumes nothing.
use Rattle.std.specs.Prelude.{Bool, ℕ}
use Rattle.model.specs.Board.{Board}
use Rattle.model.specs.Layout.{Layout}
use Rattle.model.specs.Box.{Box}
use Rattle.range.specs.Ranges.{range_fault, range_holds, range_run}
use Rattle.roots.specs.Roots.{roots_fault, roots_holds, roots_run}
use Rattle.sets.specs.Withins.{within_fault, within_holds, within_run}
use Rattle.sets.specs.Aparts.{apart_fault, apart_holds, apart_run}
use Rattle.sets.specs.Counts.{count_fault, count_holds, count_run}
use Rattle.sets.specs.Rows.{row_fault, row_holds, row_run}
use Rattle.kinds.specs.declared.SheetRule.{SheetRule}
use Rattle.kinds.specs.declared.SheetRule.TheVariants as kind

abbrev pub sheet_fault : Board → SheetRule → ℕ
sheet_fault bd (kind.Range r) = range_fault bd r
sheet_fault bd (kind.Roots r) = roots_fault bd r
sheet_fault bd (kind.Within r) = within_fault bd r
sheet_fault bd (kind.Apart r) = apart_fault bd r
sheet_fault bd (kind.Count r) = count_fault bd r
sheet_fault bd (kind.Row r) = row_fault bd r

abbrev pub sheet_holds : Board → SheetRule → Layout → Bool
sheet_holds bd (kind.Range r) = range_holds bd r
sheet_holds bd (kind.Roots r) = roots_holds bd r
sheet_holds bd (kind.Within r) = within_holds bd r
sheet_holds bd (kind.Apart r) = apart_holds bd r
sheet_holds bd (kind.Count r) = count_holds bd r
sheet_holds bd (kind.Row r) = row_holds bd r

abbrev pub sheet_run : Board → SheetRule → Box → Box
sheet_run bd (kind.Range r) = range_run bd r
sheet_run bd (kind.Roots r) = roots_run bd r
sheet_run bd (kind.Within r) = within_run bd r
sheet_run bd (kind.Apart r) = apart_run bd r
sheet_run bd (kind.Count r) = count_run bd r
sheet_run bd (kind.Row r) = row_run bd r
