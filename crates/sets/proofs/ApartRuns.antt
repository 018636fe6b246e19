-- The run of Apart is its tight box. Assumes nothing.
use Rattle.std.proofs.Common.{◌≡◌, ℕ, ◌<◌, Bool, true, eqb, List, sym, ap, ◌∙◌, subst, ap₂, inl, inr}
use lib.Bits.{bit_and}
use Rattle.std.specs.List.{AllByRecursion}
use Rattle.std.proofs.lemmas.Bool.{lt-ltb, cases_eq}
use Rattle.masks.specs.Masks.{within, without}
use Rattle.masks.proofs.Subsets.{apart-less, apart-swap, within-self, without-apart}
use Rattle.model.specs.Board.{Board}
use Rattle.model.specs.Box.{Box, Choice, In, Kept, Live, hi, lo, offers}
use Rattle.model.specs.Entries.{Entry, bar, cut, keeps, narrow, narrowed, placed}
use Rattle.model.specs.Layout.{Layout, On, set_of}
use Rattle.model.specs.Tight.{Supported, tight}
use Rattle.model.proofs.Cuts.{bar-at, bar-low, bar-there}
use Rattle.model.proofs.Entries.{entry-narrows}
use Rattle.model.proofs.Narrowing.{entries-tight, narrow_cut, narrowed-cut}
use Rattle.model.proofs.Witness.{covers, put_other, put_same, raise, raised, set-made}
use Rattle.board.specs.Model.{board, model}
use Rattle.board.proofs.Shapes.{some, is-kept}
use Rattle.board.specs.declared.domains.Domains.{Domains}
use Rattle.sets.specs.Aparts.{apart_entries, apart_fault, apart_run}
use Rattle.sets.specs.declared.apart.Apart.{Apart}
use Rattle.sets.proofs.Fitting.{Pair, pair_fits}

abbrev none : ℕ → ℕ → Type 0
none s t = eqb (bit_and s t) 0 ≡ true

module _ (bd : Board) (some : 0 < bd.sensors) (a b : ℕ) (on : Pair bd a b) (x : Box) (k : Kept bd x) where
  abbrev es : List Entry
  es = apart_entries (record { a = a; b = b }) x

  abbrev r : Box
  r = narrowed (narrow bd) es x

  abbrev ok : Layout → Bool
  ok y = eqb (bit_and (set_of y a) (set_of y b)) 0

  placed-all : AllByRecursion (λ e. placed bd e ≡ true) es
  placed-all = (lt-ltb a bd.sets on.first, (lt-ltb b bd.sets on.second, tt))

  sound : (y : Layout) → On bd y → In bd y x → ok y ≡ true → AllByRecursion (λ e. keeps e y ≡ true) es
  unfolding keeps
  sound y o i e = (
    apart-less (set_of y a) (set_of y b) (lo x b) e (i.over b on.second),
    (apart-less (set_of y b) (set_of y a) (lo x a) (apart-swap (set_of y a) (set_of y b) e) (i.over a on.first), tt),
  )

  module _ (lr : Live bd r) where
    c : Live bd x × (r ≡ narrowed cut es x)
    c = narrowed-cut bd some es x placed-all k lr

    -- after the first bar the box was still live
    l₁ : Live bd (narrow bd (bar a (lo x b)) x)
    l₁ = (narrow_cut bd some (bar b (lo x a)) _ placed-all.1.0 ((entry-narrows bd some _).kept x k) lr).0

    cut₁ : Live bd (cut (bar a (lo x b)) x)
    cut₁ = subst (Live bd) (narrow_cut bd some (bar a (lo x b)) x placed-all.0 k l₁).1 l₁

    lo-is : (j : ℕ) → lo r j ≡ lo x j
    lo-is j = ap (λ z. lo z j) c.1 ∙ bar-low bd some _ cut₁ b (lo x a) on.second j ∙ bar-low bd some x c.0 a (lo x b) on.first j

    hi-a : hi r a ≡ without (hi x a) (lo x b)
    hi-a = ap (λ z. hi z a) c.1 ∙ bar-there bd some _ cut₁ b (lo x a) on.second a on.two ∙ bar-at bd some x c.0 a (lo x b) on.first

    hi-b : hi r b ≡ without (hi x b) (lo x a)
    hi-b = ap (λ z. hi z b) c.1 ∙ bar-at bd some _ cut₁ b (lo x a) on.second ∙ ap (λ m. without m (lo x a)) (bar-there bd some x c.0 a (lo x b) on.first b (λ e. on.two (sym e)))

    -- what lies within a's upper bound has none of b's lower one, and the other way round
    near-a : (m : ℕ) → within m (hi r a) ≡ true → none m (lo r b)
    near-a m w = ap (λ t. eqb (bit_and m t) 0) (lo-is b) ∙ without-apart m (hi x a) (lo x b) (sym (ap (within m) hi-a) ∙ w)

    near-b : (m : ℕ) → within m (hi r b) ≡ true → none (lo r a) m
    near-b m w = apart-swap m (lo r a) (ap (λ t. eqb (bit_and m t) 0) (lo-is a) ∙ without-apart m (hi x b) (lo x a) (sym (ap (within m) hi-b) ∙ w))

    low : none (lo r a) (lo r b)
    low = near-a (lo r a) (lr.bounds a on.first)

    abbrev Good : (ℕ → ℕ) → Type 0
    Good g = none (g a) (g b)

    at : (g : ℕ → ℕ) (m n : ℕ) → g a ≡ m → g b ≡ n → none m n → Good g
    at g m n p q e = ap₂ (λ s t. eqb (bit_and s t) 0) p q ∙ e

    any : (j : ℕ) → Good (raise bd some r lr j)
    any j = elim (cases_eq a j) [
      | inl e ↦ subst (λ t. Good (raise bd some r lr t)) e (at (raise bd some r lr a) (hi r a) (lo r b) (put_same a (hi r a) (lo r)) (put_other a (hi r a) (lo r) b (λ z. on.two (sym z))) (near-a (hi r a) (within-self (hi r a))))
      | inr e ↦ elim (cases_eq b j) [
        | inl f ↦ subst (λ t. Good (raise bd some r lr t)) f (at (raise bd some r lr b) (lo r a) (hi r b) (put_other b (hi r b) (lo r) a on.two) (put_same b (hi r b) (lo r)) (near-b (hi r b) (within-self (hi r b))))
        | inr f ↦ at (raise bd some r lr j) (lo r a) (lo r b) (put_other j (hi r j) (lo r) a e) (put_other j (hi r j) (lo r) b f) low
      ]
    ]

    complete : (ch : Choice) → offers bd r ch ≡ true → Supported bd ok r ch
    complete = covers bd some r lr ok Good
        (λ f g e. ap₂ (λ s t. eqb (bit_and s t) 0) (set-made bd some r f g a on.first) (set-made bd some r f g b on.second) ∙ e)
        (raised bd some r lr ok Good low (λ j h. any j))

  pub apart-tight : r ≡ tight bd ok x
  apart-tight = entries-tight bd some ok es x k sound complete

-- in a stored box, where the rule fits
pub apart_runs : (d : Domains) (r : Apart) → apart_fault (board d) r ≡ 0 → narrowed (narrow (board d)) (apart_entries r (model d)) (model d) ≡ apart_run (board d) r (model d)
apart_runs d r z = apart-tight (board d) (some d) r.a r.b (pair_fits (board d) r.a r.b z) (model d) (is-kept d)
