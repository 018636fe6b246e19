-- The run of Within is its tight box. Assumes nothing.
use Rattle.std.proofs.Common.{◌≡◌, ℕ, ◌<◌, Bool, true, false, not, ◌&&◌, List, sym, refl, ap, ◌∙◌, subst, ap₂}
use mathlib.Core.Bool.{false≢true}
use lib.Bits.{bit_or}
use Rattle.std.specs.List.{AllByRecursion}
use Rattle.std.proofs.lemmas.Bool.{lt-ltb}
use Rattle.masks.specs.Masks.{has, within, without}
use Rattle.masks.proofs.Masks.{has-without, within_has}
use Rattle.masks.proofs.Subsets.{apart_from, within_all, within-or-r, within-trans}
use Rattle.model.specs.Board.{Board}
use Rattle.model.specs.Box.{Box, Choice, In, Kept, Live, hi, lo, offers}
use Rattle.model.specs.Entries.{Entry, bar, claim, cut, keeps, narrow, narrowed, placed}
use Rattle.model.specs.Layout.{Layout, On, set_of}
use Rattle.model.specs.Tight.{Supported, tight}
use Rattle.model.proofs.Cuts.{bar-at, bar-low, bar-there, claim-at, claim-high, claim-there}
use Rattle.model.proofs.Entries.{entry-narrows}
use Rattle.model.proofs.Narrowing.{entries-tight, narrow_cut, narrowed-cut}
use Rattle.model.proofs.Witness.{covers, hi-fills, lo-fills, set-made}
use Rattle.board.specs.Model.{board, model}
use Rattle.board.proofs.Shapes.{some, is-kept}
use Rattle.board.specs.declared.domains.Domains.{Domains}
use Rattle.sets.specs.Withins.{within_entries, within_fault, within_run}
use Rattle.sets.proofs.Fitting.{Pair, pair_fits}
use Rattle.sets.specs.declared.within.Within.{Within}

module _ (bd : Board) (some : 0 < bd.sensors) (a b : ℕ) (on : Pair bd a b) (x : Box) (k : Kept bd x) where
  abbrev es : List Entry
  es = within_entries (record { a = a; b = b }) x

  abbrev r : Box
  r = narrowed (narrow bd) es x

  abbrev ok : Layout → Bool
  ok y = within (set_of y a) (set_of y b)

  placed-all : AllByRecursion (λ e. placed bd e ≡ true) es
  placed-all = (lt-ltb a bd.sets on.first, (lt-ltb b bd.sets on.second, tt))

  sound : (y : Layout) → On bd y → In bd y x → ok y ≡ true → AllByRecursion (λ e. keeps e y ≡ true) es
  unfolding keeps
  sound y o i e = (
    apart_from (set_of y a) _ (λ v h. gone (has (hi x a) v) (has (hi x b) v) (has-without (hi x a) (hi x b) v) (within_has (set_of y b) (hi x b) (i.under b on.second) v (within_has (set_of y a) (set_of y b) e v h))),
    (within-trans (lo x a) (set_of y a) (set_of y b) (i.over a on.first) e, tt),
  )
    where
      gone : (p q : Bool) {t : Bool} → t ≡ (p && not q) → q ≡ true → t ≡ false
      gone true true e h = e
      gone true false e h = absurd (false≢true h)
      gone false q e h = e

  module _ (lr : Live bd r) where
    c : Live bd x × (r ≡ narrowed cut es x)
    c = narrowed-cut bd some es x placed-all k lr

    -- after the bar the box was still live
    l₁ : Live bd (narrow bd (bar a (without (hi x a) (hi x b))) x)
    l₁ = (narrow_cut bd some (claim b (lo x a)) _ placed-all.1.0 ((entry-narrows bd some _).kept x k) lr).0

    cut₁ : Live bd (cut (bar a (without (hi x a) (hi x b))) x)
    cut₁ = subst (Live bd) (narrow_cut bd some (bar a (without (hi x a) (hi x b))) x placed-all.0 k l₁).1 l₁

    lo-a : lo r a ≡ lo x a
    lo-a = ap (λ z. lo z a) c.1 ∙ claim-there bd some _ cut₁ b (lo x a) on.second a on.two ∙ bar-low bd some x c.0 a _ on.first a

    lo-b : lo r b ≡ bit_or (lo x b) (lo x a)
    lo-b = ap (λ z. lo z b) c.1 ∙ claim-at bd some _ cut₁ b (lo x a) on.second ∙ ap (λ m. bit_or m (lo x a)) (bar-low bd some x c.0 a _ on.first b)

    hi-a : hi r a ≡ without (hi x a) (without (hi x a) (hi x b))
    hi-a = ap (λ z. hi z a) c.1 ∙ claim-high bd some _ cut₁ b (lo x a) on.second a ∙ bar-at bd some x c.0 a _ on.first

    hi-b : hi r b ≡ hi x b
    hi-b = ap (λ z. hi z b) c.1 ∙ claim-high bd some _ cut₁ b (lo x a) on.second b ∙ bar-there bd some x c.0 a _ on.first b (λ e. on.two (sym e))

    low : within (lo r a) (lo r b) ≡ true
    low = ap₂ within lo-a lo-b ∙ within-or-r (lo x b) (lo x a)

    high : within (hi r a) (hi r b) ≡ true
    high = ap₂ within hi-a hi-b ∙ within_all _ (hi x b) (λ v h. both (has (hi x a) v) (has (hi x b) v)
        (sym (ap (λ t. has (hi x a) v && not t) (has-without (hi x a) (hi x b) v)) ∙ sym (has-without (hi x a) (without (hi x a) (hi x b)) v) ∙ h))
      where
        both : (p q : Bool) → (p && not (p && not q)) ≡ true → q ≡ true
        both true true e = refl
        both true false e = absurd (false≢true e)
        both false q e = absurd (false≢true e)

    complete : (ch : Choice) → offers bd r ch ≡ true → Supported bd ok r ch
    complete = covers bd some r lr ok (λ g. within (g a) (g b) ≡ true)
        (λ f g e. ap₂ within (set-made bd some r f g a on.first) (set-made bd some r f g b on.second) ∙ e)
        (record {
          base = (lo r, lo-fills bd some r lr, low);
          top = λ j v h e. (hi r, hi-fills bd some r lr, high, e);
          low = λ j v h q e. (lo r, lo-fills bd some r lr, low, e);
        })

  pub within-tight : r ≡ tight bd ok x
  within-tight = entries-tight bd some ok es x k sound complete

-- in a stored box, where the rule fits
pub within_runs : (d : Domains) (r : Within) → within_fault (board d) r ≡ 0 → narrowed (narrow (board d)) (within_entries r (model d)) (model d) ≡ within_run (board d) r (model d)
within_runs d r z = within-tight (board d) (some d) r.a r.b (pair_fits (board d) r.a r.b z) (model d) (is-kept d)
