-- Rows that a loop fills. Assumes nothing.
-- the places below i are filled by f, the others are 0
use Rattle.std.proofs.Common.{◌≡◌, ℕ, ◌+◌, ◌-◌, ◌^◌, ◌<◌, ◌≤◌, true, List, ◌++◌, length, get_or, take, drop, set, replicate, sym, ap, ◌∙◌, subst, inl, inr, arith, length-append, length-drop, length-set, length-take-le, get_or-set_other, get_or-set_same}
use lib.ListN.{length-replicate}
use lib.Pow.{ones_lt}
use Rattle.std.proofs.lemmas.Bool.{both_ways, cases_eq}
use Rattle.std.proofs.lemmas.List.{get_or-take, ext_get_or, get_or-replicate, get_or_append_left, get_or-append_right, drop-replicate}
use Rattle.model.specs.Board.{Board, Sized, room}
use Rattle.model.specs.Box.{full, live, tab}
use Rattle.model.specs.Capacity.{most_sensors, most_sets}
use Rattle.model.proofs.Boxes.{live-true}
use Rattle.model.proofs.Full.{full-live}
use Rattle.model.proofs.Lists.{tab-at, tab-length}
use Rattle.board.specs.Shape.{box_of}
use Rattle.board.proofs.Rows.{Rows}
use Rattle.board.proofs.Shapes.{zeros}

pub record Filled (f : ℕ → ℕ) (long i : ℕ) (xs : List ℕ) : Type 0 where
  pub many : length xs ≡ long
  pub at : (j : ℕ) → j < i → get_or xs j 0 ≡ f j
  pub past : (j : ℕ) → i ≤ j → get_or xs j 0 ≡ 0

pub none : (f : ℕ → ℕ) (long : ℕ) → Filled f long 0 (replicate long 0)
none f long = record { many = length-replicate long 0; at = λ j h. absurd (omega arith); past = λ j h. zeros long j }

pub one_more : (f : ℕ → ℕ) (long i : ℕ) (xs : List ℕ) (v : ℕ) → i < long → v ≡ f i → Filled f long i xs → Filled f long (i + 1) (set xs i v)
one_more f long i xs v h e w = record {
  many = length-set xs i v ∙ w.many;
  at = λ j r. elim (cases_eq j i) [
    | inl q ↦ ap (λ k. get_or (set xs i v) k 0) q ∙ get_or-set_same xs i v 0 (omega (arith, w.many)) ∙ e ∙ ap f (sym q)
    | inr q ↦ get_or-set_other xs i j v 0 q ∙ w.at j (omega arith)
  ];
  past = λ j r. get_or-set_other xs i j v 0 (λ q. omega arith) ∙ w.past j (omega arith);
}

-- a mask at the first n places
pub front : (v long n : ℕ) → n ≤ long → Filled (λ _. v) long n (replicate n v ++ drop n (replicate long 0))
front v long n le =
    let many : length (replicate n v) ≡ n = length-replicate n v in
    record {
      many = length-append (replicate n v) _ ∙ omega (arith, many, length-drop {A = ℕ} n (replicate long 0), length-replicate {A = ℕ} long 0);
      at = λ j r. get_or_append_left (replicate n v) _ 0 j (omega (arith, many)) ∙ get_or-replicate n j v 0 r;
      past = λ j r. get_or-append_right (replicate n v) _ n j 0 many r ∙ ap (λ xs. get_or xs (j - n) 0) (drop-replicate n long 0) ∙ zeros (long - n) (j - n);
    }

pub front-tab : (f : ℕ → ℕ) (long n : ℕ) (xs : List ℕ) → n ≤ long → Filled f long n xs → take n xs ≡ tab f n
front-tab f long n xs le w =
    let e = length-take-le n xs (omega (arith, w.many)) in
    ext_get_or 0 (take n xs) (tab f n) (e ∙ sym (tab-length f n)) (λ i h.
    let r : i < n = omega (arith, e) in
    get_or-take n xs i 0 r ∙ w.at i r ∙ sym (tab-at f n i 0 r))

module _ (bd : Board) (z : Sized bd.sensors bd.slots bd.sets bd.kinds) (c h : List ℕ)
    (fc : Filled (λ i. 2 ^ bd.slots - 1) most_sensors bd.sensors c) (fh : Filled (λ j. 2 ^ room bd j - 1) most_sets bd.sets h) where
  abbrev empty : List ℕ
  empty = replicate most_sets 0

  pub box-full : box_of bd c empty h ≡ full bd
  unfolding full
  box-full =
      let p = front-tab (λ i. 2 ^ bd.slots - 1) most_sensors bd.sensors c z.0.1 fc in
      let l = front-tab (λ j. 0) most_sets bd.sets empty z.2.0 (record { many = length-replicate {A = ℕ} most_sets 0; at = λ j _. zeros most_sets j; past = λ j _. zeros most_sets j }) in
      let q = front-tab (λ j. 2 ^ room bd j - 1) most_sets bd.sets h z.2.0 fh in
      λ i. record { cands = p i; lows = l i; highs = q i }

  alive : live bd (box_of bd c empty h) ≡ true
  alive = ap (live bd) box-full ∙ live-true bd z.0.0 (full bd) (full-live bd z.1.0)

  pub full-rows : Rows bd c empty h
  full-rows = record {
    sized = z;
    long = (fc.many, length-replicate {A = ℕ} most_sets 0, fh.many);
    padded = (fc.past, (λ j _. zeros most_sets j), fh.past);
    fitted = ((λ i r. subst (λ m. m < 2 ^ bd.slots) (sym (fc.at i r)) (ones_lt bd.slots)), (λ j r. subst (λ m. m < 2 ^ room bd j) (sym (fh.at j r)) (ones_lt (room bd j))));
    canon = ((λ i e. absurd (both_ways _ e alive)), (λ i e. absurd (both_ways _ e alive)), (λ i e. absurd (both_ways _ e alive)));
  }
