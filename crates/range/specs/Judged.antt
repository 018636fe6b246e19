-- What the coverings say of each sensor: `keep` has its slots, `bound` the sensors that every covering uses, `near` slots of the
-- others; as far as the sensors of `left` have not been gone through. Assumes nothing.
use Rattle.std.specs.Prelude.{◌≡◌, ℕ, Bool, true, false, ◌⊎◌, List, length, bit_and, slice_index}
use Rattle.masks.specs.Masks.{has}
use Rattle.covering.specs.Covering.{candidate, Covering, Avoidable, Needed}
use Rattle.range.specs.Survey.{common}

-- sensor i, with the candidates `own`, is left out by some covering; what it keeps
pub record Loose (can : ℕ → ℕ → Bool) (sensors claimed lower upper own slots i : ℕ) : Type 0 where
  pub spared : Avoidable can sensors claimed i
  pub inner : has lower i ≡ true → slots ≡ bit_and own upper
  pub outer : has lower i ≡ false → slots ≡ own

-- every covering uses it; what it keeps
pub record Tied (can : ℕ → ℕ → Bool) (sensors claimed own slots i : ℕ) : Type 0 where
  pub group : ℕ
  pub needed : Needed can sensors claimed i group
  pub cut : slots ≡ bit_and own group

-- the one or the other
abbrev pub Looked : (ℕ → ℕ → Bool) → ℕ → ℕ → ℕ → ℕ → ℕ → ℕ → ℕ → Bool → Type 0
Looked can sensors claimed lower upper own slots i true = Tied can sensors claimed own slots i
Looked can sensors claimed lower upper own slots i false = Loose can sensors claimed lower upper own slots i

-- the same as the whole run holds it
pub record Freed (cands : List ℕ) (sensors claimed lower upper : ℕ) (keep : List ℕ) (near i : ℕ) : Type 0 where
  pub loose : Loose (candidate cands) sensors claimed lower upper (slice_index cands i) (slice_index keep i) i
  pub offers : (v : ℕ) → has (common cands upper i) v ≡ true → has near v ≡ true

pub record Held (cands : List ℕ) (sensors claimed : ℕ) (keep : List ℕ) (bound i : ℕ) : Type 0 where
  pub tied : Tied (candidate cands) sensors claimed (slice_index cands i) (slice_index keep i) i
  pub taken : has bound i ≡ true

pub record Judged (cands : List ℕ) (sensors claimed lower upper left : ℕ) (keep : List ℕ) (bound near : ℕ) : Type 0 where
  pub inside : (i : ℕ) → has left i ≡ true → has sensors i ≡ true
  pub long : length keep ≡ 64
  pub on : ℕ → ℕ
  pub covers : Covering (candidate cands) sensors claimed on
  pub each : (i : ℕ) → has sensors i ≡ true → has left i ≡ false → Freed cands sensors claimed lower upper keep near i ⊎ Held cands sensors claimed keep bound i
  pub bound_from : (i : ℕ) → has bound i ≡ true → (z : ℕ) × Needed (candidate cands) sensors claimed i z
  pub near_from : (v : ℕ) → has near v ≡ true
      → (i : ℕ) × (has sensors i ≡ true) × Avoidable (candidate cands) sensors claimed i × (has (common cands upper i) v ≡ true)
