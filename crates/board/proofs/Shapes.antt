-- Padded rows as boxes. Assumes nothing.
use Rattle.std.proofs.Common.{◌≡◌, ℕ, ◌^◌, ◌<◌, ◌≤◌, true, not, eqb, List, length, get_or, take, replicate, sym, ap, ◌∙◌, subst, inl, inr, arith, length-take, length-take-le, pow_pos}
use lib.ListN.{length-replicate, get_or-replicate}
use Rattle.std.proofs.lemmas.Bool.{eq-eqb, cases_lt, cases_Bool}
use Rattle.std.proofs.lemmas.List.{get_or-take, ext_get_or, get_or_past}
use Rattle.model.specs.Board.{Board, room}
use Rattle.model.specs.Box.{Kept, Live, cand, dead, hi, live, lo}
use Rattle.model.proofs.Entries.{live-bounds, live-some}
use Rattle.board.specs.Model.{board, model}
use Rattle.board.specs.Shape.{Beyond, Fitted, box_of}
use Rattle.board.specs.declared.domains.Domains.{Domains}

pub zeros : (n i : ℕ) → get_or (replicate {A = ℕ} n 0) i 0 ≡ 0
zeros n i = elim (cases_lt i n) [ inl h ↦ get_or-replicate n i 0 0 h | inr h ↦ get_or_past (replicate n 0) i 0 (omega (arith, length-replicate {A = ℕ} n 0)) ]

pub zero-below : (n i k : ℕ) → get_or (replicate {A = ℕ} n 0) i 0 < 2 ^ k
zero-below n i k = subst (λ m. m < 2 ^ k) (sym (zeros n i)) (pow_pos k)

-- a row that is zero from n on, read through its first n places
pub at_front : (n : ℕ) (xs : List ℕ) → Beyond n xs → (i : ℕ) → get_or (take n xs) i 0 ≡ get_or xs i 0
at_front n xs z i = elim (cases_lt i n) [
  | inl h ↦ get_or-take n xs i 0 h
  | inr h ↦ get_or_past (take n xs) i 0 (omega (arith, length-take n xs)) ∙ sym (z i h)
]

-- zeros everywhere are the dead box
front : (n : ℕ) (xs : List ℕ) → n ≤ length xs → Beyond 0 xs → take n xs ≡ replicate n 0
front n xs le z = ext_get_or 0 (take n xs) (replicate n 0) (length-take-le n xs le ∙ sym (length-replicate n 0)) (λ i r.
    let m : i < n = omega (arith, length-take-le n xs le) in
    get_or-take n xs i 0 m ∙ z i (omega arith) ∙ sym (get_or-replicate n i 0 0 m))

module _ (bd : Board) (c l h : List ℕ) (lc : bd.sensors ≤ length c) (ll : bd.sets ≤ length l) (lh : bd.sets ≤ length h) where
  pub dead-of : Beyond 0 c → Beyond 0 l → Beyond 0 h → box_of bd c l h ≡ dead bd
  unfolding dead
  dead-of zc zl zh =
      let p = front bd.sensors c lc zc in
      let q = front bd.sets l ll zl in
      let r = front bd.sets h lh zh in
      λ i. record { cands = p i; lows = q i; highs = r i }

  pub live_of : 0 < bd.sensors → Fitted bd c h → live bd (box_of bd c l h) ≡ true → Live bd (box_of bd c l h)
  live_of some fit v = record {
    cands_many = length-take-le bd.sensors c lc;
    lows_many = length-take-le bd.sets l ll;
    highs_many = length-take-le bd.sets h lh;
    cands_on = λ i r. subst (λ m. m < 2 ^ bd.slots) (sym (get_or-take bd.sensors c i 0 r)) (fit.0 i r);
    highs_on = λ j r. subst (λ m. m < 2 ^ room bd j) (sym (get_or-take bd.sets h j 0 r)) (fit.1 j r);
    some = live-some bd some _ v;
    bounds = live-bounds bd some _ v;
  }

-- ---- of a stored box

module _ (d : Domains) where
  pub some : 0 < (board d).sensors
  some = d.sized.0.0

  pub cand-of : (i : ℕ) → cand (model d) i ≡ get_or d.cands i 0
  cand-of i = at_front (board d).sensors d.cands d.padded.0 i

  pub lo-of : (j : ℕ) → lo (model d) j ≡ get_or d.lo j 0
  lo-of j = at_front (board d).sets d.lo d.padded.1 j

  pub hi_of : (j : ℕ) → hi (model d) j ≡ get_or d.hi j 0
  hi_of j = at_front (board d).sets d.hi d.padded.2 j

  cands-long : (board d).sensors ≤ length d.cands
  cands-long = omega (arith, d.long.0, d.sized.0.1)

  lo-long : (board d).sets ≤ length d.lo
  lo-long = omega (arith, d.long.1, d.sized.2.0)

  hi-long : (board d).sets ≤ length d.hi
  hi-long = omega (arith, d.long.2, d.sized.2.0)

  -- it is the dead box, or live and on the board
  pub is-kept : Kept (board d) (model d)
  is-kept = elim (cases_Bool (live (board d) (model d))) [
    | inl v ↦ inr (live_of (board d) d.cands d.lo d.hi cands-long lo-long hi-long some d.fitted v)
    | inr v ↦ inl (dead-of (board d) d.cands d.lo d.hi cands-long lo-long hi-long (λ i _. d.canon.0 i v) (λ i _. d.canon.1 i v) (λ i _. d.canon.2 i v))
  ]

  -- the first sensor's candidates tell whether it is dead
  pub dead-test : eqb (get_or d.cands 0 0) 0 ≡ not (live (board d) (model d))
  dead-test = elim (cases_Bool (live (board d) (model d))) [
    | inl v ↦ ap (λ m. eqb m 0) (sym (cand-of 0)) ∙ live-some (board d) some (model d) v 0 some ∙ sym (ap not v)
    | inr v ↦ eq-eqb _ 0 (d.canon.0 0 v) ∙ sym (ap not v)
  ]
