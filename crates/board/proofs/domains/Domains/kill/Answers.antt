use Rattle.std.proofs.Common.{refl}
use Rattle.model.specs.Capacity.{most_sensors, most_sets}
use Rattle.board.specs.Model.{board}
use Rattle.board.proofs.Shapes.{zeros, zero-below, dead-of}
use Rattle.board.proofs.domains.Domains.kill.Goals as goal

pub invariant_of-self : goal.invariant_of-self
invariant_of-self c = record {
  sized = c.args.self.now.sized;
  long = (refl, refl, refl);
  padded = (λ i _. zeros most_sensors i, λ j _. zeros most_sets j, λ j _. zeros most_sets j);
  fitted = (λ i _. zero-below most_sensors i _, λ j _. zero-below most_sets j _);
  canon = (λ i _. zeros most_sensors i, λ j _. zeros most_sets j, λ j _. zeros most_sets j);
}

pub returns : goal.returns
returns c =
    let d = c.args.self.now in
    record {
      board = refl;
      model = dead-of (board d) _ _ _ d.sized.0.1 d.sized.2.0 d.sized.2.0 (λ i _. zeros most_sensors i) (λ j _. zeros most_sets j) (λ j _. zeros most_sets j);
    }
