-- A new plan's box is a live box of the board. Assumes nothing.
use Rattle.std.proofs.Common.{◌≡◌, ℕ, ◌-◌, ◌^◌, ◌<◌, sym, ap, ◌∙◌, subst, inr}
use lib.Pow.{ones_lt}
use Rattle.masks.specs.Masks.{has, within}
use Rattle.masks.proofs.Masks.{has-full}
use Rattle.masks.proofs.Subsets.{nonzero}
use Rattle.model.specs.Board.{Board, room}
use Rattle.model.specs.Box.{Kept, Live, cand, full, hi, lo}
use Rattle.model.proofs.Lists.{tab-at, tab-length}

pub full-live : (bd : Board) → 0 < bd.slots → Live bd (full bd)
unfolding full
full-live bd some =
    let m : ℕ = 2 ^ bd.slots - 1 in
    let c : (i : ℕ) → i < bd.sensors → cand (full bd) i ≡ m = λ i h. tab-at (λ i. m) bd.sensors i 0 h in
    let l : (j : ℕ) → j < bd.sets → lo (full bd) j ≡ 0 = λ j h. tab-at {X = ℕ} (λ j. 0) bd.sets j 0 h in
    let u : (j : ℕ) → j < bd.sets → hi (full bd) j ≡ 2 ^ room bd j - 1 = λ j h. tab-at (λ j. 2 ^ room bd j - 1) bd.sets j 0 h in
    record {
      cands_many = tab-length (λ i. m) bd.sensors;
      lows_many = tab-length {X = ℕ} (λ j. 0) bd.sets;
      highs_many = tab-length (λ j. 2 ^ room bd j - 1) bd.sets;
      cands_on = λ i h. subst (λ n. n < 2 ^ bd.slots) (sym (c i h)) (ones_lt bd.slots);
      highs_on = λ j h. subst (λ n. n < 2 ^ room bd j) (sym (u j h)) (ones_lt (room bd j));
      some = λ i h. nonzero (cand (full bd) i) 0 (ap (λ n. has n 0) (c i h) ∙ has-full bd.slots 0 some);
      bounds = λ j h. ap (λ n. within n (hi (full bd) j)) (l j h);
    }

pub full-kept : (bd : Board) → 0 < bd.slots → Kept bd (full bd)
full-kept bd some = inr (full-live bd some)
