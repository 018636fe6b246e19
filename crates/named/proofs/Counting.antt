-- Counting slots and sensors. Assumes nothing.
use Rattle.std.proofs.Common.{◌≡◌, ℕ, zero, suc, ◌+◌, ◌^◌, ◌<◌, ◌≤◌, Bool, true, false, cond, ◌&&◌, eqb, List, ◌∷◌, sym, refl, ap, ◌∙◌, subst, ap₂, inl, inr, arith}
use mathlib.Core.Bool.{false≢true}
use lib.Bits.{or_comm}
use lib.Count.{ones}
use Rattle.std.proofs.lemmas.Bool.{both_ways, leb-true, eqb-true, le-leb, eq-eqb, cases_lt, and_parts, cases_eq, cases_Bool, and_from, or_cases, or_left, or_right}
use Rattle.masks.specs.Masks.{has, tally}
use Rattle.masks.proofs.Counts.{ones-tally}
use Rattle.masks.proofs.Masks.{has-below}
use Rattle.masks.proofs.Sizes.{ones-more}
use Rattle.masks.proofs.Subsets.{single-within, within_both, within-or, within-or-r, within-self}
use Rattle.model.specs.Board.{Board, board_of}
use Rattle.model.specs.Layout.{Layout, On, slot_of}
use Rattle.model.specs.Tight.{below, union}
use Rattle.sets.specs.Counts.{counted}
use Rattle.range.specs.Ranges.{slots_of_all}
use Rattle.range.proofs.Images.{image-into, image-onto}
use Rattle.named.specs.Meanings.{AllDifferent, Between, some, used}
use Rattle.named.proofs.Chosen.{image-on}

pub iff-eq : (a b : Bool) → (a ≡ true → b ≡ true) → (b ≡ true → a ≡ true) → a ≡ b
iff-eq true b f g = sym (f refl)
iff-eq false true f g = g refl
iff-eq false false f g = refl

some_at : (p : ℕ → Bool) (n i : ℕ) → i < n → p i ≡ true → some p n ≡ true
some_at p zero i l e = absurd (omega arith)
some_at p (suc n) i l e = elim (cases_eq i n) [
  | inl z ↦ or_left _ _ (ap p (sym z) ∙ e)
  | inr z ↦ or_right _ _ (some_at p n i (omega arith) e)
]

some-find : (p : ℕ → Bool) (n : ℕ) → some p n ≡ true → (i : ℕ) × (i < n) × (p i ≡ true)
some-find p zero e = absurd (false≢true e)
some-find p (suc n) e = elim (or_cases (p n) (some p n) e) [
  | inl z ↦ (n, omega arith, z)
  | inr z ↦ let w = some-find p n z in (w.0, omega (arith, w.1), w.2)
]

pub tally-ext : (p q : ℕ → Bool) (k : ℕ) → ((i : ℕ) → i < k → p i ≡ q i) → tally p k ≡ tally q k
tally-ext p q zero f = refl
tally-ext p q (suc k) f = ap₂ (λ (b : Bool) (n : ℕ). cond b 1 0 + n) (f k (omega arith)) (tally-ext p q k (λ i l. f i (omega arith)))

-- as many slots as the mask of the sensors' slots has members
pub distinct : (bd : Board) (x : Layout) (g : ℕ) → On bd x → ones (slots_of_all bd x g) ≡ tally (used bd x g) bd.slots
distinct bd x g on = ones-tally bd.slots (slots_of_all bd x g) (image-on bd x g on) ∙ tally-ext (has (slots_of_all bd x g)) (used bd x g) bd.slots (λ v l. iff-eq _ _
    (λ e. let w = image-onto bd x g v e in some_at (λ (i : ℕ). has g i && eqb (slot_of x i) v) bd.sensors w.0 w.1 (and_from _ _ w.2 (eq-eqb _ _ w.3)))
    (λ e.
    let w = some-find (λ (i : ℕ). has g i && eqb (slot_of x i) v) bd.sensors e in
    let p = and_parts _ _ w.2 in
    subst (λ (u : ℕ). has (slots_of_all bd x g) u ≡ true) (eqb-true _ v p.1) (image-into bd x g w.0 w.1 p.0)))

pub counted-says : (p q m : ℕ) → counted p q m ≡ true → Between p q (ones m)
counted-says p q m e = let w = and_parts _ _ e in (leb-true _ _ w.0, leb-true _ _ w.1)

pub counted-from : (p q m : ℕ) → Between p q (ones m) → counted p q m ≡ true
counted-from p q m b = and_from _ _ (le-leb _ _ b.0) (le-leb _ _ b.1)

-- ---- as many slots as sensors, where and only where no two share one

below-yes : (p : ℕ → Bool) (n : ℕ) → p n ≡ true → below p (suc n) ≡ n ∷ below p n
unfolding below
below-yes p n e = subst (λ (b : Bool). elim b [ true ↦ n ∷ below p n | false ↦ below p n ] ≡ n ∷ below p n) (sym e) refl

below-no : (p : ℕ → Bool) (n : ℕ) → p n ≡ false → below p (suc n) ≡ below p n
unfolding below
below-no p n e = subst (λ (b : Bool). elim b [ true ↦ n ∷ below p n | false ↦ below p n ] ≡ below p n) (sym e) refl

module _ (x : Layout) (g : ℕ) where
  -- the slots of the sensors below n
  abbrev u : ℕ → ℕ
  u n = slots_of_all (board_of n 0 0 0) x g

  u-on : (n : ℕ) → has g n ≡ true → has (u n) (slot_of x n) ≡ true → ones (u (suc n)) ≡ ones (u n)
  unfolding union
  u-on n e h = ap (λ (l : List ℕ). ones (union (λ (i : ℕ). 2 ^ slot_of x i) l)) (below-yes (has g) n e) ∙ ap ones (within_both _ _ (within-or _ _ _ (single-within (slot_of x n) (u n) h) (within-self (u n))) (within-or-r (2 ^ slot_of x n) (u n)))

  u-new : (n : ℕ) → has g n ≡ true → has (u n) (slot_of x n) ≡ false → ones (u (suc n)) ≡ suc (ones (u n))
  unfolding union
  u-new n e h = ap (λ (l : List ℕ). ones (union (λ (i : ℕ). 2 ^ slot_of x i) l)) (below-yes (has g) n e) ∙ ap ones (or_comm (2 ^ slot_of x n) (u n)) ∙ ones-more (slot_of x n) (u n) h

  u-off : (n : ℕ) → has g n ≡ false → ones (u (suc n)) ≡ ones (u n)
  unfolding union
  u-off n e = ap (λ (l : List ℕ). ones (union (λ (i : ℕ). 2 ^ slot_of x i) l)) (below-no (has g) n e)

  u-into : (n i : ℕ) → i < n → has g i ≡ true → has (u n) (slot_of x i) ≡ true
  u-into n i l e = image-into (board_of n 0 0 0) x g i l e

  u-onto : (n v : ℕ) → has (u n) v ≡ true → (i : ℕ) × (i < n) × (has g i ≡ true) × (slot_of x i ≡ v)
  u-onto n v e = image-onto (board_of n 0 0 0) x g v e

  t-in : (n : ℕ) → has g n ≡ true → tally (has g) (suc n) ≡ suc (tally (has g) n)
  t-in n e = ap (λ (b : Bool). cond b 1 0 + tally (has g) n) e ∙ omega arith

  t-out : (n : ℕ) → has g n ≡ false → tally (has g) (suc n) ≡ tally (has g) n
  t-out n e = ap (λ (b : Bool). cond b 1 0 + tally (has g) n) e ∙ omega arith

  u-zero : ones (u 0) ≡ 0
  unfolding below union ones
  u-zero = refl

  few : (n : ℕ) → ones (u n) ≤ tally (has g) n
  few zero = omega (arith, u-zero)
  few (suc n) = elim (cases_Bool (has g n)) [
    | inl e ↦ elim (cases_Bool (has (u n) (slot_of x n))) [
      | inl h ↦ omega (arith, few n, u-on n e h, t-in n e)
      | inr h ↦ omega (arith, few n, u-new n e h, t-in n e)
    ]
    | inr e ↦ omega (arith, few n, u-off n e, t-out n e)
  ]

  pub all-counted : AllDifferent g x → (n : ℕ) → ones (u n) ≡ tally (has g) n
  all-counted d zero = u-zero
  all-counted d (suc n) = elim (cases_Bool (has g n)) [
    | inl e ↦ elim (cases_Bool (has (u n) (slot_of x n))) [
      | inl h ↦ absurd (let w = u-onto n (slot_of x n) h in omega (arith, w.1, d w.0 n w.2 e w.3))
      | inr h ↦ u-new n e h ∙ ap suc (all-counted d n) ∙ sym (t-in n e)
    ]
    | inr e ↦ u-off n e ∙ all-counted d n ∙ sym (t-out n e)
  ]

  pub counted-apart : (n : ℕ) → ones (u n) ≡ tally (has g) n → (i j : ℕ) → i < j → j < n → has g i ≡ true → has g j ≡ true → slot_of x i ≡ slot_of x j → ⊥
  counted-apart zero c i j l m a b s = omega arith
  counted-apart (suc n) c i j l m a b s = elim (cases_Bool (has g n)) [
    | inl e ↦ elim (cases_Bool (has (u n) (slot_of x n))) [
      | inl h ↦ omega (arith, few n, u-on n e h, t-in n e)
      | inr h ↦ elim (cases_eq j n) [
        | inl z ↦ both_ways _ h (ap (has (u n)) (ap (slot_of x) (sym z) ∙ sym s) ∙ u-into n i (omega arith) a)
        | inr z ↦ counted-apart n (omega (arith, u-new n e h, t-in n e)) i j l (omega arith) a b s
      ]
    ]
    | inr e ↦ elim (cases_eq j n) [
      | inl z ↦ both_ways _ e (ap (has g) (sym z) ∙ b)
      | inr z ↦ counted-apart n (omega (arith, u-off n e, t-out n e)) i j l (omega arith) a b s
    ]
  ]

module _ (bd : Board) (x : Layout) (g : ℕ) (on : g < 2 ^ bd.sensors) where
  pub all-different-counts : AllDifferent g x → ones (slots_of_all bd x g) ≡ ones g
  all-different-counts d = all-counted x g d bd.sensors ∙ sym (ones-tally bd.sensors g on)

  pub counts-all-different : ones (slots_of_all bd x g) ≡ ones g → AllDifferent g x
  counts-all-different c i j a b s =
      let e : ones (u x g bd.sensors) ≡ tally (has g) bd.sensors = c ∙ ones-tally bd.sensors g on in
      elim (cases_eq i j) [
        | inl z ↦ z
        | inr z ↦ elim (cases_lt i j) [
          | inl l ↦ absurd (counted-apart x g bd.sensors e i j l (has-below bd.sensors g j on b) a b s)
          | inr l ↦ absurd (counted-apart x g bd.sensors e j i (omega arith) (has-below bd.sensors g i on a) b a (sym s))
        ]
      ]
