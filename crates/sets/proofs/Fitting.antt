-- What it says that a rule on sets fits. Assumes nothing.
use Rattle.std.proofs.Common.{◌≡◌, ℕ, ◌<◌, ◌≤◌, Bool, true, false, refl, true≢false}
use Rattle.std.proofs.lemmas.Bool.{ltb-false, leb-false, eqb-false, cond_both}
use Rattle.masks.specs.Masks.{has}
use Rattle.model.specs.Board.{Board, room}
use Rattle.model.specs.Refusals.{refusal}
use Rattle.board.specs.Model.{board}
use Rattle.rule.proofs.Causes.{all_absent}
use Rattle.sets.specs.Counts.{count_causes}
use Rattle.sets.specs.Fits.{differ, pair_causes, set_causes}
use Rattle.board.specs.declared.domains.Domains.{Domains}

pub record Pair (bd : Board) (a b : ℕ) : Type 0 where
  pub first : a < bd.sets
  pub second : b < bd.sets
  pub kind : has bd.kinds a ≡ has bd.kinds b
  pub two : a ≡ b → ⊥

same_kind : (p q : Bool) → differ p q ≡ false → p ≡ q
same_kind true true e = refl
same_kind true false e = absurd (true≢false e)
same_kind false true e = absurd (true≢false e)
same_kind false false e = refl

pub pair_fits : (bd : Board) (a b : ℕ) → refusal (pair_causes bd a b) ≡ 0 → Pair bd a b
pair_fits bd a b e =
    let w = all_absent (pair_causes bd a b) refl e in
    record { first = leb-false _ a w.0; second = leb-false _ b w.1.0; kind = same_kind _ _ w.1.1.0; two = eqb-false a b w.1.1.1.0 }

-- ---- one set

pub set-fits : (bd : Board) (a : ℕ) → refusal (set_causes bd a) ≡ 0 → a < bd.sets
set-fits bd a e = leb-false _ a (all_absent (set_causes bd a) refl e).0

pub record Range (bd : Board) (a least most : ℕ) : Type 0 where
  pub known : a < bd.sets
  pub ordered : least ≤ most
  pub bounded : most ≤ 64

pub count_fits : (bd : Board) (a least most : ℕ) → refusal (count_causes bd a least most) ≡ 0 → Range bd a least most
count_fits bd a least most e =
    let w = all_absent (count_causes bd a least most) refl e in
    record { known = leb-false _ a w.0; ordered = ltb-false most least w.1.0; bounded = ltb-false 64 most w.1.1.0 }

-- a set of a stored box has room for 64 numbers at most
pub room_small : (d : Domains) (a : ℕ) → room (board d) a ≤ 64
room_small d a = cond_both (has (board d).kinds a) (board d).slots (board d).sensors (λ n. n ≤ 64) (λ _. d.sized.1.1) (λ _. d.sized.0.1)
