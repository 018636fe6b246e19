use Rattle.std.proofs.Common.{length}
use Rattle.model.specs.Calls.{State}
use Rattle.kinds.specs.declared.SheetRule.{SheetRule}
use Rattle.sheet.specs.Files.{unread}
use Rattle.load.specs.Loads.{Stands}
use Rattle.load.proofs.Standing.{GoesOn}
use Rattle.load.proofs.check.check_records.Given as goal

abbrev pub invariant-loop-next : goal.invariant-loop-next
invariant-loop-next l = (s : State SheetRule) → Stands s l.initial.sketch → GoesOn s l.initial.reader l.reader l.sketch

abbrev pub decreases-loop-next : goal.decreases-loop-next
decreases-loop-next l = length (unread l.reader)
