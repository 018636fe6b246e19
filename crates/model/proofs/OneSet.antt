-- Rules on one set: their tight box by masks alone. Assumes nothing.
use Rattle.std.proofs.Common.{◌≡◌, ℕ, ◌^◌, ◌<◌, Bool, true, false, eqb, List, [], ◌∷◌, sym, ap, ◌∙◌, subst, ap₂, subst₂, inl, inr}
use lib.Bits.{bit_and, bit_or}
use Rattle.std.specs.List.{AllByRecursion}
use Rattle.std.proofs.lemmas.Bool.{lt-ltb, cases_eq}
use Rattle.masks.specs.Masks.{has, within, without}
use Rattle.masks.proofs.Subsets.{within-self}
use Rattle.model.specs.Board.{Board, room}
use Rattle.model.specs.Box.{Box, Choice, In, Kept, Live, hi, lo, offers}
use Rattle.model.specs.Entries.{Entry, bar, claim, cut, keeps, narrow, narrowed, placed}
use Rattle.model.specs.Layout.{Layout, On, set_of}
use Rattle.model.specs.Tight.{Supported, tight}
use Rattle.model.proofs.Cuts.{bar-at, bar-low, claim-at, claim-high}
use Rattle.model.proofs.Entries.{entry-narrows}
use Rattle.model.proofs.Narrowing.{entries-tight, narrow_cut, narrowed-cut}
use Rattle.model.proofs.Witness.{Covered, Fills, covers, lo-fills, put, put-fills, put_other, put_same, raise, raise-fills, set-made}

-- masks between l and h that pass: some, for each member of h one that has it, and for each number outside l one that lacks it
pub record Spread (ok : ℕ → Bool) (k l h : ℕ) : Type 0 where
  pub base : (m : ℕ) × (within l m ≡ true) × (within m h ≡ true) × (ok m ≡ true)
  pub top : (v : ℕ) → has h v ≡ true → (m : ℕ) × (within l m ≡ true) × (within m h ≡ true) × (ok m ≡ true) × (has m v ≡ true)
  pub low : (v : ℕ) → v < k → has l v ≡ false → (m : ℕ) × (within l m ≡ true) × (within m h ≡ true) × (ok m ≡ true) × (has m v ≡ false)

-- it is enough that both bounds pass
pub ends-spread : (ok : ℕ → Bool) (k l h : ℕ) → within l h ≡ true → ok l ≡ true → ok h ≡ true → Spread ok k l h
ends-spread ok k l h w p q = record {
  base = (l, within-self l, w, p);
  top = λ v e. (h, w, within-self h, q, e);
  low = λ v _ e. (l, within-self l, w, p, e);
}

module _ (bd : Board) (some : 0 < bd.sensors) (a : ℕ) (ha : a < bd.sets) (ok : ℕ → Bool) where
  abbrev passes : Layout → Bool
  passes y = ok (set_of y a)

  abbrev Good : (ℕ → ℕ) → Type 0
  Good g = ok (g a) ≡ true

  -- the other sets are free
  pub one-covered : (r : Box) (lr : Live bd r) → Spread ok (room bd a) (lo r a) (hi r a) → Covered bd some r lr passes Good
  one-covered r lr u = record {
    base = (put a b.0 (lo r), put-fills bd some r a b.0 (lo r) lf b.1 b.2, good (lo r) b.0 b.3);
    top = λ j w q e. elim (cases_eq j a) [
      | inl z ↦
          let t = u.top w (ap (λ n. has (hi r n) w) (sym z) ∙ e) in
          (put a t.0 (lo r), put-fills bd some r a t.0 (lo r) lf t.1 t.2, good (lo r) t.0 t.3, ap (λ k. has (put a t.0 (lo r) k) w) z ∙ ap (λ n. has n w) (put_same a t.0 (lo r)) ∙ t.4)
      | inr z ↦
          let g = raise bd some r lr j in
          (put a b.0 g, put-fills bd some r a b.0 g (raise-fills bd some r lr j q) b.1 b.2, good g b.0 b.3, ap (λ n. has n w) (put_other a b.0 g j z ∙ put_same j (hi r j) (lo r)) ∙ e)
    ];
    low = λ j w q s e. elim (cases_eq j a) [
      | inl z ↦
          let t = u.low w (subst (λ k. w < room bd k) z s) (ap (λ n. has (lo r n) w) (sym z) ∙ e) in
          (put a t.0 (lo r), put-fills bd some r a t.0 (lo r) lf t.1 t.2, good (lo r) t.0 t.3, ap (λ k. has (put a t.0 (lo r) k) w) z ∙ ap (λ n. has n w) (put_same a t.0 (lo r)) ∙ t.4)
      | inr z ↦ (put a b.0 (lo r), put-fills bd some r a b.0 (lo r) lf b.1 b.2, good (lo r) b.0 b.3, ap (λ n. has n w) (put_other a b.0 (lo r) j z) ∙ e)
    ];
  }
    where
      b : (m : ℕ) × (within (lo r a) m ≡ true) × (within m (hi r a) ≡ true) × (ok m ≡ true)
      b = u.base

      lf : Fills bd some r (lo r)
      lf = lo-fills bd some r lr

      good : (g : ℕ → ℕ) (m : ℕ) → ok m ≡ true → ok (put a m g a) ≡ true
      good g m e = ap ok (put_same a m g) ∙ e

  -- ---- a run that bars one mask and claims another

  module _ (out sure : ℕ) (x : Box) (k : Kept bd x) where
    abbrev es : List Entry
    es = bar a out ∷ claim a sure ∷ []

    abbrev r : Box
    r = narrowed (narrow bd) es x

    placed-all : AllByRecursion (λ e. placed bd e ≡ true) es
    placed-all = (lt-ltb a bd.sets ha, (lt-ltb a bd.sets ha, tt))

    module _ (lr : Live bd r) where
      c : Live bd x × (r ≡ narrowed cut es x)
      c = narrowed-cut bd some es x placed-all k lr

      -- after the bar the box was still live
      l₁ : Live bd (narrow bd (bar a out) x)
      l₁ = (narrow_cut bd some (claim a sure) _ placed-all.1.0 ((entry-narrows bd some _).kept x k) lr).0

      cut₁ : Live bd (cut (bar a out) x)
      cut₁ = subst (Live bd) (narrow_cut bd some (bar a out) x placed-all.0 k l₁).1 l₁

      lo-is : lo r a ≡ bit_or (lo x a) sure
      lo-is = ap (λ z. lo z a) c.1 ∙ claim-at bd some _ cut₁ a sure ha ∙ ap (λ m. bit_or m sure) (bar-low bd some x c.0 a out ha a)

      hi-is : hi r a ≡ without (hi x a) out
      hi-is = ap (λ z. hi z a) c.1 ∙ claim-high bd some _ cut₁ a sure ha a ∙ bar-at bd some x c.0 a out ha

    -- sound: a mask between the bounds that passes keeps both; complete: what is left is spread
    pub one-tight : ((m : ℕ) → m < 2 ^ room bd a → within (lo x a) m ≡ true → within m (hi x a) ≡ true → ok m ≡ true → (eqb (bit_and m out) 0 ≡ true) × (within sure m ≡ true))
        → (Live bd x → within (bit_or (lo x a) sure) (without (hi x a) out) ≡ true → Spread ok (room bd a) (bit_or (lo x a) sure) (without (hi x a) out))
        → r ≡ tight bd passes x
    unfolding keeps
    one-tight sound spread = entries-tight bd some passes es x k keep full
      where
        keep : (y : Layout) → On bd y → In bd y x → passes y ≡ true → AllByRecursion (λ e. keeps e y ≡ true) es
        keep y o i e = let w = sound (set_of y a) (o.sets_on a ha) (i.over a ha) (i.under a ha) e in (w.0, (w.1, tt))

        full : Live bd r → (ch : Choice) → offers bd r ch ≡ true → Supported bd passes r ch
        full lr =
            let u = spread (c lr).0 (sym (ap₂ within (lo-is lr) (hi-is lr)) ∙ lr.bounds a ha) in
            covers bd some r lr passes Good (λ f g e. ap ok (set-made bd some r f g a ha) ∙ e)
            (one-covered r lr (subst₂ (λ l h. Spread ok (room bd a) l h) (sym (lo-is lr)) (sym (hi-is lr)) u))
