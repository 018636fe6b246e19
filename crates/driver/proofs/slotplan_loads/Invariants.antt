use Rattle.std.proofs.Common.{◌≡◌}
use Rattle.driver.specs.Exports.{accepted_of}
use Rattle.driver.proofs.slotplan_loads.Given as goal

abbrev pub invariant-loop-time : goal.invariant-loop-time
invariant-loop-time l = l.accepted ≡ accepted_of l.file l._time
