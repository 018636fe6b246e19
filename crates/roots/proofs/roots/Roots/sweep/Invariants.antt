use Rattle.roots.specs.Roots.{implications}
use Rattle.roots.proofs.Sweeps.{Once}
use Rattle.roots.proofs.roots.Roots.sweep.Given as goal

abbrev pub invariant-loop-sensor : goal.invariant-loop-sensor
invariant-loop-sensor l = Once (implications l.self l.sensor) l.initial.d l.d l.moved
