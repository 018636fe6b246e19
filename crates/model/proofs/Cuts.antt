-- What an entry does to a live box: nothing, a kill, or a narrower live box. Assumes nothing.
use Rattle.std.proofs.Common.{◌≡◌, ℕ, ◌<◌, true, false, not, eqb, set, sym, refl, ap, ◌∙◌, subst, ap₂, inl, inr, arith, get_or-set_other, get_or-set_same}
use lib.Bits.{bit_and, bit_or}
use Rattle.std.proofs.lemmas.Bool.{both_ways, eqb-false, ne_eqb, cases_Bool, and_from, not_from_false}
use Rattle.std.proofs.lemmas.List.{set-get_or}
use Rattle.masks.specs.Masks.{within, without}
use Rattle.model.specs.Board.{Board}
use Rattle.model.specs.Box.{Box, Live, cand, hi, live, lo}
use Rattle.model.specs.Entries.{bar, claim, cut, limit}
use Rattle.model.proofs.Entries.{at_set, live-bounds, live-some}
use Rattle.model.proofs.Lists.{every-from}

-- ---- what an entry leaves alone

pub limit-low : (i m : ℕ) (b : Box) (k : ℕ) → lo (cut (limit i m) b) k ≡ lo b k
unfolding cut
limit-low i m b k = refl

pub limit-high : (i m : ℕ) (b : Box) (k : ℕ) → hi (cut (limit i m) b) k ≡ hi b k
unfolding cut
limit-high i m b k = refl

pub claim-cand : (j m : ℕ) (b : Box) (k : ℕ) → cand (cut (claim j m) b) k ≡ cand b k
unfolding cut
claim-cand j m b k = refl

pub bar-cand : (j m : ℕ) (b : Box) (k : ℕ) → cand (cut (bar j m) b) k ≡ cand b k
unfolding cut
bar-cand j m b k = refl

module _ (bd : Board) (some : 0 < bd.sensors) (b : Box) (l : Live bd b) where
  -- ---- a limit

  module _ (i m : ℕ) (h : i < bd.sensors) where
    pub limit-at : cand (cut (limit i m) b) i ≡ bit_and (cand b i) m
    unfolding cut
    limit-at = get_or-set_same b.cands i (bit_and (cand b i) m) 0 (omega (arith, l.cands_many))

    pub limit-live : (bit_and (cand b i) m ≡ 0 → ⊥) → live bd (cut (limit i m) b) ≡ true
    unfolding cut live
    limit-live ne = and_from _ _
        (every-from _ bd.sensors (λ k r. at_set bd some (λ c. not (eqb c 0) ≡ true) b.cands bd.sensors i k (bit_and (cand b i) m) l.cands_many h (λ _. not_from_false _ (ne_eqb _ 0 ne)) (λ _. not_from_false _ (l.some k r))))
        (every-from _ bd.sets l.bounds)

    pub limit-dies : bit_and (cand b i) m ≡ 0 → live bd (cut (limit i m) b) ≡ false
    limit-dies e = elim (cases_Bool (live bd (cut (limit i m) b))) [
      | inl v ↦ absurd (eqb-false _ 0 (live-some bd some _ v i h) (limit-at ∙ e))
      | inr v ↦ v
    ]

    pub limit-moves : (bit_and (cand b i) m ≡ cand b i → ⊥) → cut (limit i m) b ≡ b → ⊥
    limit-moves ne e = ne (sym limit-at ∙ ap (λ x. cand x i) e)

  pub limit-same : (i m : ℕ) → bit_and (cand b i) m ≡ cand b i → cut (limit i m) b ≡ b
  unfolding cut
  limit-same i m e = let w : set b.cands i (bit_and (cand b i) m) ≡ b.cands = ap (set b.cands i) e ∙ set-get_or b.cands i 0 in λ z. record { cands = w z; lows = b.lows; highs = b.highs }

  -- ---- a claim

  module _ (j m : ℕ) (h : j < bd.sets) where
    pub claim-at : lo (cut (claim j m) b) j ≡ bit_or (lo b j) m
    unfolding cut
    claim-at = get_or-set_same b.lows j (bit_or (lo b j) m) 0 (omega (arith, l.lows_many))

    pub claim-there : (k : ℕ) → (k ≡ j → ⊥) → lo (cut (claim j m) b) k ≡ lo b k
    unfolding cut
    claim-there k ne = get_or-set_other b.lows j k (bit_or (lo b j) m) 0 ne

    pub claim-high : (k : ℕ) → hi (cut (claim j m) b) k ≡ hi b k
    unfolding cut
    claim-high k = refl

    pub claim-live : within (bit_or (lo b j) m) (hi b j) ≡ true → live bd (cut (claim j m) b) ≡ true
    unfolding cut live
    claim-live w = and_from _ _
        (every-from _ bd.sensors (λ k r. not_from_false _ (l.some k r)))
        (every-from _ bd.sets (λ k r. at_set bd some (λ c. within c (hi b k) ≡ true) b.lows bd.sets j k (bit_or (lo b j) m) l.lows_many h (λ e. subst (λ t. within (bit_or (lo b j) m) (hi b t) ≡ true) (sym e) w) (λ _. l.bounds k r)))

    pub claim-dies : within (bit_or (lo b j) m) (hi b j) ≡ false → live bd (cut (claim j m) b) ≡ false
    claim-dies w = elim (cases_Bool (live bd (cut (claim j m) b))) [
      | inl v ↦ absurd (both_ways _ w (sym (ap₂ within claim-at (claim-high j)) ∙ live-bounds bd some _ v j h))
      | inr v ↦ v
    ]

    pub claim-moves : (bit_or (lo b j) m ≡ lo b j → ⊥) → cut (claim j m) b ≡ b → ⊥
    claim-moves ne e = ne (sym claim-at ∙ ap (λ x. lo x j) e)

  pub claim-same : (j m : ℕ) → bit_or (lo b j) m ≡ lo b j → cut (claim j m) b ≡ b
  unfolding cut
  claim-same j m e = let w : set b.lows j (bit_or (lo b j) m) ≡ b.lows = ap (set b.lows j) e ∙ set-get_or b.lows j 0 in λ z. record { cands = b.cands; lows = w z; highs = b.highs }

  -- ---- a bar

  module _ (j m : ℕ) (h : j < bd.sets) where
    pub bar-at : hi (cut (bar j m) b) j ≡ without (hi b j) m
    unfolding cut
    bar-at = get_or-set_same b.highs j (without (hi b j) m) 0 (omega (arith, l.highs_many))

    pub bar-there : (k : ℕ) → (k ≡ j → ⊥) → hi (cut (bar j m) b) k ≡ hi b k
    unfolding cut
    bar-there k ne = get_or-set_other b.highs j k (without (hi b j) m) 0 ne

    pub bar-low : (k : ℕ) → lo (cut (bar j m) b) k ≡ lo b k
    unfolding cut
    bar-low k = refl

    pub bar-live : within (lo b j) (without (hi b j) m) ≡ true → live bd (cut (bar j m) b) ≡ true
    unfolding cut live
    bar-live w = and_from _ _
        (every-from _ bd.sensors (λ k r. not_from_false _ (l.some k r)))
        (every-from _ bd.sets (λ k r. at_set bd some (λ c. within (lo b k) c ≡ true) b.highs bd.sets j k (without (hi b j) m) l.highs_many h (λ e. subst (λ t. within (lo b t) (without (hi b j) m) ≡ true) (sym e) w) (λ _. l.bounds k r)))

    pub bar-dies : within (lo b j) (without (hi b j) m) ≡ false → live bd (cut (bar j m) b) ≡ false
    bar-dies w = elim (cases_Bool (live bd (cut (bar j m) b))) [
      | inl v ↦ absurd (both_ways _ w (sym (ap₂ within (bar-low j) bar-at) ∙ live-bounds bd some _ v j h))
      | inr v ↦ v
    ]

    pub bar-moves : (without (hi b j) m ≡ hi b j → ⊥) → cut (bar j m) b ≡ b → ⊥
    bar-moves ne e = ne (sym bar-at ∙ ap (λ x. hi x j) e)

  pub bar-same : (j m : ℕ) → without (hi b j) m ≡ hi b j → cut (bar j m) b ≡ b
  unfolding cut
  bar-same j m e = let w : set b.highs j (without (hi b j) m) ≡ b.highs = ap (set b.highs j) e ∙ set-get_or b.highs j 0 in λ z. record { cands = b.cands; lows = b.lows; highs = w z }
