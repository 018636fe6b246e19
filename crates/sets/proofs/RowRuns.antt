-- The run of Row is its tight box. Assumes nothing.
use Rattle.std.proofs.Common.{◌≡◌, ℕ, suc, ◌-◌, ◌^◌, ◌<◌, ◌≤◌, Bool, true, false, not, ◌&&◌, ◌||◌, eqb, leb, sym, refl, ap, ◌∙◌, ap₂, subst₂, inl, inr, arith, pow_pos, pow_mono}
use mathlib.Core.Bool.{false≢true}
use lib.Bits.{bit_and, bit_or, and_zero_r}
use lib.Count.{ones}
use Rattle.std.proofs.lemmas.Bool.{both_ways, not-true, leb-true, eqb-true, eqb-false, le-leb, eq-eqb, ne_eqb, cases_lt, and_parts, cases_eq, cases_Bool, and_from, and_right, not_from_true, not_from_false, cond-true, cond-false}
use Rattle.masks.specs.Masks.{has, lowest, past, stretch, within, without}
use Rattle.masks.proofs.Counts.{another, first, first-has, one_has}
use Rattle.masks.proofs.Ends.{lowest-has, lowest-in, lowest-le, past_all, past-in, past_top, stretch-ends, stretch-has, stretch-small}
use Rattle.masks.proofs.Masks.{has-below, has-single, has-without, within_has}
use Rattle.masks.proofs.Subsets.{apart_from, has-ext, nonzero, single-has, single-other, single-within, small, within_all, within_both, within-le, within-or, within-or-r, within-self, without-within}
use Rattle.model.specs.Board.{Board, room}
use Rattle.model.specs.Box.{Box, Kept, hi, lo}
use Rattle.model.specs.Entries.{narrow, narrowed}
use Rattle.model.specs.Layout.{set_of}
use Rattle.model.specs.Tight.{tight}
use Rattle.model.proofs.Lists.{every-at, every-from}
use Rattle.model.proofs.OneSet.{Spread, ends-spread, one-tight}
use Rattle.board.specs.Model.{board, model}
use Rattle.board.proofs.Shapes.{some, is-kept}
use Rattle.board.specs.declared.domains.Domains.{Domains}
use Rattle.sets.specs.Rows.{block, gapless, is_row, row_entries, row_in, row_out, row_fault, row_run}
use Rattle.sets.proofs.Fitting.{set-fits, room_small}
use Rattle.sets.specs.declared.row.Row.{Row}

-- ---- what a row is

row-some : (k m : ℕ) → is_row k m ≡ true → 0 < m
unfolding is_row
row-some k m e = let n = eqb-false m 0 (not-true _ (and_parts _ _ e).0) in omega arith

row_has : (k m : ℕ) → m < 2 ^ k → is_row k m ≡ true → (i v j : ℕ) → has m i ≡ true → has m j ≡ true → i ≤ v → v ≤ j → has m v ≡ true
unfolding is_row gapless
row_has k m h e i v j p q a b =
    let hi = has-below k m i h p in
    let hj = has-below k m j h q in
    let w = every-at _ k (every-at _ k (every-at _ k (and_parts _ _ e).1 i hi) v (omega arith)) j hj in
    go (has m i) (has m j) (leb i v) (leb v j) (has m v) p q (le-leb i v a) (le-leb v j b) w
  where
    go : (p q s t u : Bool) → p ≡ true → q ≡ true → s ≡ true → t ≡ true → (not ((p && q) && (s && t)) || u) ≡ true → u ≡ true
    go true true true true u _ _ _ _ e = e
    go true true true false u _ _ _ z e = absurd (false≢true z)
    go true true false t u _ _ z _ e = absurd (false≢true z)
    go true false s t u _ z _ _ e = absurd (false≢true z)
    go false q s t u z _ _ _ e = absurd (false≢true z)

row_from : (k m : ℕ) → 0 < m → ((i v j : ℕ) → has m i ≡ true → has m j ≡ true → i ≤ v → v ≤ j → has m v ≡ true) → is_row k m ≡ true
unfolding is_row gapless
row_from k m p f = and_from _ _ (not_from_false _ (ne_eqb m 0 (λ z. omega arith)))
    (every-from _ k (λ i _. every-from _ k (λ v _. every-from _ k (λ j _. go (has m i) (has m j) (leb i v) (leb v j) (has m v) (λ a b c d. f i v j a b (leb-true i v c) (leb-true v j d))))))
  where
    go : (p q s t u : Bool) → (p ≡ true → q ≡ true → s ≡ true → t ≡ true → u ≡ true) → (not ((p && q) && (s && t)) || u) ≡ true
    go true true true true u f = f refl refl refl refl
    go true true true false u f = refl
    go true true false t u f = refl
    go true false s t u f = refl
    go false q s t u f = refl

-- a stretch that is not empty is one, and so is a single member
stretch-row : (k s e i : ℕ) → has (stretch s e) i ≡ true → is_row k (stretch s e) ≡ true
stretch-row k s e i h = row_from k (stretch s e) (let n = eqb-false _ 0 (nonzero _ i h) in omega arith) (λ i v j p q a b.
    let f = stretch-ends s e i p in
    let t = stretch-ends s e j q in
    stretch-has s e v (omega arith) (omega arith) (omega arith))

single-row : (k u : ℕ) → is_row k (2 ^ u) ≡ true
single-row k u = row_from k (2 ^ u) (pow_pos u) (λ i v j p q a b.
    let ei = eqb-true u i (sym (has-single u i) ∙ p) in
    let ej = eqb-true u j (sym (has-single u j) ∙ q) in
    has-single u v ∙ eq-eqb u v (omega arith))

-- ---- what the run enters, case by case

module _ (l h : ℕ) where
  pub out_none : l ≡ 0 → row_out l h ≡ 0
  unfolding row_out
  out_none z = cond-true (eqb l 0) _ _ (eq-eqb l 0 z)

  pub out_some : (l ≡ 0 → ⊥) → row_out l h ≡ without h (block l h)
  unfolding row_out
  out_some z = cond-false (eqb l 0) _ _ (ne_eqb l 0 z)

  pub in_some : (l ≡ 0 → ⊥) → row_in l h ≡ stretch (lowest l) (past l)
  unfolding row_in
  in_some z = cond-false (eqb l 0) _ _ (ne_eqb l 0 z)

  pub in-dead : l ≡ 0 → h ≡ 0 → row_in l h ≡ 2 ^ 64 - 1
  unfolding row_in
  in-dead z w = cond-true (eqb l 0) _ _ (eq-eqb l 0 z) ∙ cond-true (eqb h 0) _ _ (eq-eqb h 0 w)

  pub in-single : l ≡ 0 → (h ≡ 0 → ⊥) → ones h ≡ 1 → row_in l h ≡ h
  unfolding row_in
  in-single z w o = cond-true (eqb l 0) _ _ (eq-eqb l 0 z) ∙ cond-false (eqb h 0) _ _ (ne_eqb h 0 w) ∙ cond-true (eqb (ones h) 1) _ _ (eq-eqb (ones h) 1 o)

  pub in-free : l ≡ 0 → (h ≡ 0 → ⊥) → (ones h ≡ 1 → ⊥) → row_in l h ≡ 0
  unfolding row_in
  in-free z w o = cond-true (eqb l 0) _ _ (eq-eqb l 0 z) ∙ cond-false (eqb h 0) _ _ (ne_eqb h 0 w) ∙ cond-false (eqb (ones h) 1) _ _ (ne_eqb (ones h) 1 o)

-- ---- where lo has members

module _ (l h : ℕ) (bl : l < 2 ^ 64) (z : l ≡ 0 → ⊥) where
  abbrev core : ℕ
  core = stretch (lowest l) (past l)

  abbrev before : ℕ
  before = without (stretch 0 (lowest l)) h

  abbrev after : ℕ
  after = without (stretch (past l) 64) h

  before_small : before < 2 ^ 64
  before_small = omega (arith, stretch-small 0 (lowest l))

  start : has l (lowest l) ≡ true
  start = lowest-has l bl (omega arith)

  end : (q : ℕ) × (past l ≡ suc q) × (has l q ≡ true) × (l < 2 ^ suc q)
  end = past_top l bl (omega arith)

  in-core : within l core ≡ true
  in-core = within_all l core (λ v e. stretch-has (lowest l) (past l) v (has-below 64 l v bl e) (lowest-le l v e) (past_all l v bl e))

  -- a gap: no member of h, before or after l
  gap-before : (v : ℕ) → has before v ≡ true → (v < lowest l) × (has h v ≡ false)
  gap-before v e =
      let w = and_parts _ _ (sym (has-without (stretch 0 (lowest l)) h v) ∙ e) in
      ((stretch-ends 0 (lowest l) v w.0).2, not-true _ w.1)

  gap-after : (v : ℕ) → has after v ≡ true → (past l ≤ v) × (has h v ≡ false)
  gap-after v e =
      let w = and_parts _ _ (sym (has-without (stretch (past l) 64) h v) ∙ e) in
      ((stretch-ends (past l) 64 v w.0).1, not-true _ w.1)

  -- a row between l and h stays in the block, and has the core
  module _ (k m : ℕ) (bm : m < 2 ^ k) (kk : k ≤ 64) (p : within l m ≡ true) (q : within m h ≡ true) (row : is_row k m ≡ true) where
    not-gap : (i v j : ℕ) → has m i ≡ true → has m j ≡ true → i ≤ v → v ≤ j → has h v ≡ false → ⊥
    not-gap i v j a b c d g = both_ways _ g (within_has m h q v (row_has k m bm row i v j a b c d))

    reach : (v : ℕ) → has m v ≡ true → has (block l h) v ≡ true
    reach v e = stretch-has (past before) (lowest after) v in-word
        (elim (cases_lt v (past before)) [
          | inl c ↦
              let t = past-in before v before_small c in
              let g = gap-before t.0 t.2 in
              absurd (not-gap v t.0 (lowest l) e (within_has l m p _ start) (omega (arith, t.1)) (omega (arith, g.0)) g.1)
          | inr c ↦ c
        ])
        (elim (cases_lt v (lowest after)) [
          | inl c ↦ c
          | inr c ↦
              let g = gap-after (lowest after) (lowest-in after v c in-word) in
              absurd (not-gap end.0 (lowest after) v (within_has l m p _ end.2) e (omega (arith, end.1, g.0)) c g.1)
        ])
      where
        in-word : v < 64
        in-word = omega (arith, has-below k m v bm e)

    keeps-block : eqb (bit_and m (without h (block l h))) 0 ≡ true
    keeps-block = apart_from m _ (λ v e. has-without h (block l h) v ∙ and_right _ _ (not_from_true _ (reach v e)))

    keeps-core : within core m ≡ true
    keeps-core = within_all core m (λ v e.
        let w = stretch-ends (lowest l) (past l) v e in
        row_has k m bm row (lowest l) v end.0 (within_has l m p _ start) (within_has l m p _ end.2) w.1 (omega (arith, end.1)))

  -- what is left is the core and the block
  module _ (v : within (bit_or l core) (without h (without h (block l h))) ≡ true) where
    low-is : bit_or l core ≡ core
    low-is = within_both _ core (within-or l core core in-core (within-self core)) (within-or-r l core)

    core-in : (i : ℕ) → has core i ≡ true → has h i ≡ true
    core-in i e = within_has _ h (without-within h _) i (within_has _ _ v i (within_has core _ (within-or-r l core) i e))

    block_in : (i : ℕ) → has (block l h) i ≡ true → has h i ≡ true
    block_in i e =
        let w = stretch-ends (past before) (lowest after) i e in
        let s = w.0 in
        elim (cases_Bool (has h i)) [
          | inl g ↦ g
          | inr g ↦ elim (cases_lt i (lowest l)) [
            | inl c ↦
                let b : has before i ≡ true = has-without (stretch 0 (lowest l)) h i ∙ and_from _ _ (stretch-has 0 (lowest l) i s (omega arith) c) (not_from_false _ g) in
                absurd (omega (arith, past_all before i before_small b))
            | inr c ↦ elim (cases_lt i (past l)) [
              | inl d ↦ core-in i (stretch-has (lowest l) (past l) i s c d)
              | inr d ↦
                  let b : has after i ≡ true = has-without (stretch (past l) 64) h i ∙ and_from _ _ (stretch-has (past l) 64 i s d s) (not_from_false _ g) in
                  absurd (omega (arith, lowest-le after i b))
            ]
          ]
        ]

    high_is : without h (without h (block l h)) ≡ block l h
    high_is = has-ext _ (block l h) (λ i. has-without h (without h (block l h)) i ∙ ap (λ t. has h i && not t) (has-without h (block l h) i) ∙ go (has h i) (has (block l h) i) (block_in i))
      where
        go : (p q : Bool) → (q ≡ true → p ≡ true) → (p && not (p && not q)) ≡ q
        go true true f = refl
        go true false f = refl
        go false true f = f refl
        go false false f = refl

    core-first : has core (lowest l) ≡ true
    core-first = within_has l core in-core _ start

    ends-left : (k : ℕ) → Spread (is_row k) k (bit_or l core) (without h (without h (block l h)))
    ends-left k =
        let w : within core (block l h) ≡ true = sym (ap₂ within low-is high_is) ∙ v in
        subst₂ (λ a b. Spread (is_row k) k a b) (sym low-is) (sym high_is)
        (ends-spread (is_row k) k core (block l h) w (stretch-row k (lowest l) (past l) (lowest l) core-first) (stretch-row k (past before) (lowest after) (lowest l) (within_has core _ w _ core-first)))

-- ---- where lo has none

module _ (k h : ℕ) where
  -- the one member of h is in every row within h
  keeps-single : (m : ℕ) → is_row k m ≡ true → within m h ≡ true → ones h ≡ 1 → within h m ≡ true
  keeps-single m row q o =
      let u = first m m in
      let e = first-has m m (small m) (ne_eqb m 0 (λ n. omega (arith, row-some k m row))) in
      ap (λ t. within t m) (one_has h u o (within_has m h q u e)) ∙ single-within u m e

  -- every member of h is a row
  free-spread : (h ≡ 0 → ⊥) → (ones h ≡ 1 → ⊥) → Spread (is_row k) k 0 h
  free-spread n o = record {
    base = (2 ^ u, none_in u, single-within u h here, single-row k u);
    top = λ v e. (2 ^ v, none_in v, single-within v h e, single-row k v, single-has v);
    low = λ v _ _. elim (cases_Bool (has h v)) [
      | inl e ↦ let t = another v h o e in (2 ^ t.0, none_in t.0, single-within t.0 h t.1, single-row k t.0, single-other t.0 v t.2)
      | inr e ↦ (2 ^ u, none_in u, single-within u h here, single-row k u, single-other u v (λ c. both_ways _ e (ap (has h) (sym c) ∙ here)))
    ];
  }
    where
      u : ℕ
      u = first h h

      here : has h u ≡ true
      here = first-has h h (small h) (ne_eqb h 0 n)

      none_in : (v : ℕ) → within 0 (2 ^ v) ≡ true
      none_in v = eq-eqb 0 0 refl

-- ---- the tight box

module _ (k : ℕ) (kk : k ≤ 64) (l h : ℕ) where
  keeps-both : (m : ℕ) → m < 2 ^ k → within l m ≡ true → within m h ≡ true → is_row k m ≡ true → (eqb (bit_and m (row_out l h)) 0 ≡ true) × (within (row_in l h) m ≡ true)
  keeps-both m bm p q row = elim (cases_eq l 0) [
    | inl z ↦ (
      ap (λ t. eqb (bit_and m t) 0) (out_none l h z) ∙ eq-eqb _ 0 (and_zero_r m),
      elim (cases_eq h 0) [
        | inl n ↦ absurd (omega (arith, row-some k m row, within-le m h q))
        | inr n ↦ elim (cases_eq (ones h) 1) [
          | inl o ↦ ap (λ t. within t m) (in-single l h z n o) ∙ keeps-single k h m row q o
          | inr o ↦ ap (λ t. within t m) (in-free l h z n o) ∙ eq-eqb 0 0 refl
        ]
      ],
    )
    | inr z ↦
        let bl : l < 2 ^ 64 = omega (arith, pow_mono kk, within-le l m p) in (
          ap (λ t. eqb (bit_and m t) 0) (out_some l h z) ∙ keeps-block l h bl z k m bm kk p q row,
          ap (λ t. within t m) (in_some l h z) ∙ keeps-core l h bl z k m bm kk p q row,
        )
  ]

  left : h < 2 ^ k → within l h ≡ true → within (bit_or l (row_in l h)) (without h (row_out l h)) ≡ true → Spread (is_row k) k (bit_or l (row_in l h)) (without h (row_out l h))
  left bh w v = elim (cases_eq l 0) [
    | inl z ↦
        let b : without h (row_out l h) ≡ h = ap (without h) (out_none l h z) ∙ omega (arith, and_zero_r h) in
        let a : bit_or l (row_in l h) ≡ row_in l h = ap (λ t. bit_or t (row_in l h)) z in
        let s : within (row_in l h) h ≡ true = sym (ap₂ within a b) ∙ v in
        elim (cases_eq h 0) [
          | inl n ↦ absurd (omega (arith, in-dead l h z n, within-le (row_in l h) h s))
          | inr n ↦ elim (cases_eq (ones h) 1) [
            | inl o ↦ subst₂ (λ a b. Spread (is_row k) k a b) (sym (a ∙ in-single l h z n o)) (sym b) (ends-spread (is_row k) k h h (within-self h) (one-row n o) (one-row n o))
            | inr o ↦ subst₂ (λ a b. Spread (is_row k) k a b) (sym (a ∙ in-free l h z n o)) (sym b) (free-spread k h n o)
          ]
        ]
    | inr z ↦
        let bl : l < 2 ^ 64 = omega (arith, pow_mono kk, within-le l h w) in
        subst₂ (λ o i. Spread (is_row k) k (bit_or l i) (without h o)) (sym (out_some l h z)) (sym (in_some l h z))
        (ends-left l h bl z (sym (ap₂ (λ o i. within (bit_or l i) (without h o)) (out_some l h z) (in_some l h z)) ∙ v) k)
  ]
    where
      one-row : (h ≡ 0 → ⊥) → ones h ≡ 1 → is_row k h ≡ true
      one-row n o =
          let u = first h h in
          ap (is_row k) (one_has h u o (first-has h h (small h) (ne_eqb h 0 n))) ∙ single-row k u

pub row-tight : (bd : Board) (some : 0 < bd.sensors) (a : ℕ) → a < bd.sets → room bd a ≤ 64 → (x : Box) (k : Kept bd x)
    → narrowed (narrow bd) (row_entries (record { a = a }) x) x ≡ tight bd (λ y. is_row (room bd a) (set_of y a)) x
row-tight bd some a ha kk x k =
    one-tight bd some a ha (is_row (room bd a)) (row_out (lo x a) (hi x a)) (row_in (lo x a) (hi x a)) x k
    (keeps-both (room bd a) kk (lo x a) (hi x a))
    (λ l v. left (room bd a) kk (lo x a) (hi x a) (l.highs_on a ha) (l.bounds a ha) v)

-- in a stored box, where the rule fits
pub row_runs : (d : Domains) (r : Row) → row_fault (board d) r ≡ 0 → narrowed (narrow (board d)) (row_entries r (model d)) (model d) ≡ row_run (board d) r (model d)
row_runs d r z = row-tight (board d) (some d) r.a (set-fits (board d) r.a z) (room_small d r.a) (model d) (is-kept d)
