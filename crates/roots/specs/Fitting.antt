-- What it says that an implication fits. Assumes nothing.
use Rattle.std.specs.Prelude.{◌≡◌, ℕ, ◌<◌, true, false, ◌≢◌, refl}
use Rattle.std.proofs.Common.{sym, ap, ◌∙◌}
use Rattle.std.proofs.lemmas.Bool.{both_ways, not-false, leb-false, lt-leb, not_from_true}
use Rattle.masks.specs.Masks.{has}
use Rattle.model.specs.Board.{Board}
use Rattle.model.specs.Refusals.{refusal}
use Rattle.rule.proofs.Causes.{all_absent, none_leads}
use Rattle.roots.specs.Implications.{excluded_causes, linked_causes}

pub record Excludes (bd : Board) (i s : ℕ) : Type 0 where
  pub sensor : i < bd.sensors
  pub first : s < bd.sets
  pub sensors : has bd.kinds s ≡ false

pub record Links (bd : Board) (i s t : ℕ) : Type 0 where
  pub sensor : i < bd.sensors
  pub first : s < bd.sets
  pub second : t < bd.sets
  pub sensors : has bd.kinds s ≡ false
  pub slots : has bd.kinds t ≡ true

pub excludes : (bd : Board) (i s : ℕ) → refusal (excluded_causes bd i s) ≡ 0 → Excludes bd i s
excludes bd i s e =
    let w = all_absent (excluded_causes bd i s) refl e in
    record { sensor = leb-false _ i w.0; first = leb-false _ s w.1.0; sensors = w.1.1.0 }

pub links : (bd : Board) (i s t : ℕ) → refusal (linked_causes bd i s t) ≡ 0 → Links bd i s t
links bd i s t e =
    let w = all_absent (linked_causes bd i s t) refl e in
    record { sensor = leb-false _ i w.0; first = leb-false _ s w.1.0; second = leb-false _ t w.1.1.0; sensors = w.1.1.1.0; slots = not-false _ w.1.1.1.1.0 }

-- ---- and back

pub excludes_from : (bd : Board) (i s : ℕ) → Excludes bd i s → refusal (excluded_causes bd i s) ≡ 0
excludes_from bd i s h = none_leads (excluded_causes bd i s) (lt-leb _ i h.sensor, (lt-leb _ s h.first, (h.sensors, tt)))

pub links_from : (bd : Board) (i s t : ℕ) → Links bd i s t → refusal (linked_causes bd i s t) ≡ 0
links_from bd i s t h = none_leads (linked_causes bd i s t) (lt-leb _ i h.sensor, (lt-leb _ s h.first, (lt-leb _ t h.second, (h.sensors, (not_from_true _ h.slots, tt)))))

-- a set of sensors and a set of slots are two
pub two : (bd : Board) (i s t : ℕ) → Links bd i s t → s ≢ t
two bd i s t h e = both_ways (has bd.kinds t) (ap (has bd.kinds) (sym e) ∙ h.sensors) h.slots
