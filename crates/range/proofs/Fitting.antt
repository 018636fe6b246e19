-- What it says that a rule fits. Assumes nothing.
use Rattle.std.proofs.Common.{◌≡◌, ℕ, ◌^◌, ◌<◌, true, false, refl, ap, ◌∙◌}
use Rattle.std.proofs.lemmas.Bool.{both_ways, not-false, leb-false, cond-true, cond-false}
use Rattle.masks.specs.Masks.{has}
use Rattle.model.specs.Board.{Board, room}
use Rattle.model.specs.Refusals.{refusal}
use Rattle.rule.proofs.Causes.{all_absent}
use Rattle.range.specs.Ranges.{range_causes}

pub record Fit (bd : Board) (g s t : ℕ) : Type 0 where
  pub s_there : s < bd.sets
  pub t_there : t < bd.sets
  pub sensors_on : g < 2 ^ bd.sensors
  pub of_sensors : has bd.kinds s ≡ false
  pub of_slots : has bd.kinds t ≡ true

pub range-fits : (bd : Board) (g s t : ℕ) → refusal (range_causes bd g s t) ≡ 0 → Fit bd g s t
range-fits bd g s t e =
    let w = all_absent (range_causes bd g s t) refl e in
    record {
      s_there = leb-false _ s w.0;
      t_there = leb-false _ t w.1.0;
      sensors_on = leb-false _ g w.1.1.0;
      of_sensors = w.1.1.1.0;
      of_slots = not-false _ w.1.1.1.1.0;
    }

module _ {bd : Board} {g s t : ℕ} (fit : Fit bd g s t) where
  pub two : s ≡ t → ⊥
  two e = both_ways _ fit.of_sensors (ap (has bd.kinds) e ∙ fit.of_slots)

  pub s-room : room bd s ≡ bd.sensors
  s-room = cond-false _ _ _ fit.of_sensors

  pub t-room : room bd t ≡ bd.slots
  t-room = cond-true _ _ _ fit.of_slots
