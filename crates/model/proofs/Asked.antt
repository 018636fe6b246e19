-- A rule that is asked whether it fits, and skipped where it does not. Assumes nothing.
use Rattle.std.proofs.Common.{◌≡◌, ℕ, ◌<◌, Bool, true, false, List, [], ◌∷◌, map, refl, ap, true≢false}
use Rattle.std.specs.List.{AllByRecursion}
use Rattle.model.specs.Board.{Board}
use Rattle.model.specs.Box.{Box, In, Kept}
use Rattle.model.specs.Laws.{Lawful, Laws, Narrows, Restful, asked, fits, heeded}
use Rattle.model.specs.Layout.{Layout, On}
use Rattle.model.specs.Tight.{tight}
use Rattle.model.proofs.Tight.{ordering, tightness}

pub narrows-of : (bd : Board) (holds : Layout → Bool) (run : Box → Box) → Laws bd holds run → Narrows bd run
narrows-of bd holds run l = record { kept = l.kept; shrinks = l.shrinks; monotone = l.monotone }

-- a run that does nothing, of a rule that holds everywhere
idle : (bd : Board) → 0 < bd.sensors → Laws bd (λ x. true) (λ b. b)
idle bd some = record {
  kept = λ b k. k;
  shrinks = λ b k. (ordering bd some).itself b k;
  keeps_supports = λ b k x o i h. i;
  monotone = λ a b ka kb i. i;
  stays = λ b k x f h. refl;
  dies = λ b k x f h. absurd (true≢false h);
}

module _ {R : Type 0} (fault : Board → R → ℕ) (run : Board → R → Box → Box) (bd : Board) (r : R) (b : Box) where
  pub asked-fits : fits fault bd r ≡ true → asked fault run bd r b ≡ run bd r b
  unfolding asked
  asked-fits e = ap (λ t. elim t [ true ↦ run bd r b | false ↦ b ]) e

  pub asked-not : fits fault bd r ≡ false → asked fault run bd r b ≡ b
  unfolding asked
  asked-not e = ap (λ t. elim t [ true ↦ run bd r b | false ↦ b ]) e

module _ {R : Type 0} {fault : Board → R → ℕ} {holds : Board → R → Layout → Bool} {run : Board → R → Box → Box} (lawful : Lawful fault holds run)
    (bd : Board) (some : 0 < bd.sensors) where
  pub asked-laws : (r : R) → Laws bd (heeded fault holds bd r) (asked fault run bd r)
  unfolding asked heeded
  asked-laws r = go (fits fault bd r) (lawful.laws bd some r)
    where
      go : (t : Bool) → (t ≡ true → Laws bd (holds bd r) (run bd r)) → Laws bd (λ x. elim t [ true ↦ holds bd r x | false ↦ true ]) (λ b. elim t [ true ↦ run bd r b | false ↦ b ])
      go true g = g refl
      go false g = idle bd some

  pub asked-narrows : (r : R) → Narrows bd (asked fault run bd r)
  asked-narrows r = narrows-of bd _ _ (asked-laws r)

  pub all_asked : (rs : List R) → AllByRecursion (Narrows bd) (map (asked fault run bd) rs)
  all_asked [] = tt
  all_asked (r ∷ rs) = (asked-narrows r, all_asked rs)

  -- a layout at which the rule holds is kept
  pub asked-keeps : (r : R) (b : Box) → Kept bd b → (x : Layout) → On bd x → In bd x b → holds bd r x ≡ true → In bd x (asked fault run bd r b)
  unfolding heeded
  asked-keeps r b k x o i h = (asked-laws r).keeps_supports b k x o i
      (elim (fits fault bd r) as (λ t. elim t [ true ↦ holds bd r x | false ↦ true ] ≡ true) [ true ↦ h | false ↦ refl ])

-- a kind whose run is its tight box has all laws
pub tight-lawful : {R : Type 0} (fault : Board → R → ℕ) (holds : Board → R → Layout → Bool) → Lawful fault holds (λ bd r. tight bd (holds bd r))
tight-lawful fault holds = record { laws = λ bd some r f. (tightness bd some (holds bd r)).laws }

pub tight-restful : {R : Type 0} (fault : Board → R → ℕ) (holds : Board → R → Layout → Bool) → Restful fault (λ bd r. tight bd (holds bd r))
tight-restful fault holds = record { rests = λ bd some r f. (tightness bd some (holds bd r)).rests }
