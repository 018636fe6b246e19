use Rattle.std.proofs.Common.{◌≡◌}
use Rattle.roots.specs.Roots.{implications}
use Rattle.roots.proofs.roots.Roots.list_parts.Given as goal

abbrev pub invariant-loop-sensor : goal.invariant-loop-sensor
invariant-loop-sensor l = l.parts.items ≡ implications l.self l.sensor
