-- The covering that the code holds. Assumes nothing.
use Rattle.std.proofs.Common.{◌≡◌, ℕ, ◌^◌, ◌<◌, Bool, true, ◌⊎◌, get_or, sym, subst, inl, inr, arith}
use Rattle.std.proofs.lemmas.Bool.{cases_eq}
use Rattle.masks.specs.Masks.{has}
use Rattle.masks.proofs.Masks.{has-below}
use Rattle.covering.specs.Notes.{NotesOf, sensor_of}
use Rattle.covering.specs.declared.notes.Notes.{Notes}

-- what holds for the sensors and slots of the notes holds for those that they are of
pub at-notes : (P : ℕ → ℕ → Type 0) (can : ℕ → ℕ → Bool) (sensors claimed : ℕ) (n : Notes) → NotesOf can sensors claimed n
    → (NotesOf can n.pairs.sensors n.pairs.claimed n → P n.pairs.sensors n.pairs.claimed) → P sensors claimed
at-notes P can sensors claimed n f g =
    subst (λ (x : ℕ). P x claimed) f.among (subst (λ (x : ℕ). P n.pairs.sensors x) f.slots (g
    (subst (λ (x : ℕ). NotesOf can x n.pairs.claimed n) (sym f.among) (subst (λ (x : ℕ). NotesOf can sensors x n) (sym f.slots) f))))

-- the slot of a sensor that has one
pub slot : (n : Notes) (i : ℕ) → i < 64 → (get_or n.pairs.owner i 0 ≡ 64 → ⊥) → get_or n.pairs.owner i 0 < 64
slot n i l ne = omega (arith, n.matching.marked i l, ne)

pub sensors-low : (n : Notes) (j : ℕ) → has n.pairs.sensors j ≡ true → j < 64
sensors-low n j e = has-below 64 n.pairs.sensors j n.sized e

pub claimed-low : (n : Notes) → n.pairs.claimed < 2 ^ 64 → (v : ℕ) → has n.pairs.claimed v ≡ true → v < 64
claimed-low n l v e = has-below 64 n.pairs.claimed v l e

-- a sensor has no slot, or a claimed slot is on it
pub owns : (n : Notes) (i : ℕ) → i < 64 → (get_or n.pairs.owner i 0 ≡ 64) ⊎ ((u : ℕ) × (has n.pairs.claimed u ≡ true) × (sensor_of n u ≡ i))
owns n i l = elim (cases_eq (get_or n.pairs.owner i 0) 64) [
  | inl z ↦ inl z
  | inr ne ↦ (let u = slot n i l ne in inr (get_or n.pairs.owner i 0, n.matching.owned i l u, n.matching.returned i l u))
]
