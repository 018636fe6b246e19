-- The least member taken out of a mask. Assumes nothing.
use Rattle.std.proofs.Common.{◌≡◌, ℕ, zero, suc, ◌+◌, ◌-◌, ◌/◌, ◌^◌, ◌<◌, ap, ◌∙◌, inl, inr, pow-suc, arith}
use lib.Bits.{bit_and, and_step, and_self, and_comm}
use lib.Count.{ones, count_trailing_zeros}
use Rattle.std.proofs.lemmas.Bool.{eqb-true}
use Rattle.masks.specs.Masks.{lowest, Parted}
use Rattle.masks.proofs.Masks.{bit, half-below, has-below}
use Rattle.masks.proofs.Subsets.{single-within}
use Rattle.masks.proofs.Ends.{lowest-has}
use Rattle.masks.proofs.Sizes.{ones-less}

-- taking one off a number takes its lowest member out
lowest-out : (k m : ℕ) → m < 2 ^ k → (m ≡ 0 → ⊥) → (bit_and m (m - 1) + 2 ^ count_trailing_zeros k m ≡ m)
unfolding count_trailing_zeros
lowest-out zero m h ne = absurd (ne (omega arith))
lowest-out (suc k) m h ne = elim (bit m) [
  | inl e ↦
      let some : m / 2 ≡ 0 → ⊥ = (λ z. ne (omega arith)) in
      let again = lowest-out k (m / 2) (half-below k m h) some in
      let half : (m - 1) / 2 ≡ m / 2 - 1 = omega (arith, ne) in
      let s : bit_and (m / 2) ((m - 1) / 2) ≡ bit_and (m / 2) (m / 2 - 1) = ap (λ (x : ℕ). bit_and (m / 2) x) half in
      rw e (omega (arith, and_step m (m - 1), s, again, pow-suc 2 (count_trailing_zeros k (m / 2))))
  | inr e ↦
      let half : (m - 1) / 2 ≡ m / 2 = omega arith in
      let s : bit_and (m / 2) ((m - 1) / 2) ≡ m / 2 = ap (λ (x : ℕ). bit_and (m / 2) x) half ∙ and_self (m / 2) in
      rw e (omega (arith, and_step m (m - 1), s))
]

-- the least member and the others
pub least-parted : (m : ℕ) → m < 2 ^ 64 → (m ≡ 0 → ⊥) → Parted m (lowest m) (bit_and m (m - 1))
least-parted m h ne =
    let e = lowest-has m h (omega (arith, ne)) in
    let one : bit_and m (2 ^ lowest m) ≡ 2 ^ lowest m = and_comm m (2 ^ lowest m) ∙ eqb-true _ _ (single-within (lowest m) m e) in
    record { low = has-below 64 m (lowest m) h e; member = e; others = omega (arith, one, lowest-out 64 m h ne) }

-- the others are fewer
pub fewer-others : {m i rest : ℕ} → Parted m i rest → ones rest < ones m
fewer-others {m} {i} p = omega (arith, ap ones p.others, ones-less i m p.member)
