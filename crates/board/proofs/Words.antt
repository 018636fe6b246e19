-- One word of a stored box written: it stands for an entry. Assumes nothing.
use Rattle.std.proofs.Common.{◌≡◌, ℕ, ◌^◌, ◌<◌, Bool, true, false, List, length, get_or, take, set, sym, refl, ap, ◌∙◌, subst, ap₂, inl, inr, arith, length-set, get_or-set_other, get_or-set_same}
use lib.Seq.{take-set-lt}
use lib.Bits.{bit_and, bit_or, and_le_l}
use Rattle.std.proofs.lemmas.Bool.{both_ways, lt-ltb, cases_eq}
use Rattle.masks.specs.Masks.{within, without}
use Rattle.model.specs.Board.{Board, room}
use Rattle.model.specs.Box.{Box, Live, cand, dead, hi, live, lo}
use Rattle.model.specs.Entries.{Entry, bar, claim, cut, limit, narrow, placed}
use Rattle.model.specs.Settled.{Progress}
use Rattle.model.proofs.Boxes.{live-dead, live-true}
use Rattle.model.proofs.Cuts.{bar-dies, bar-live, bar-moves, bar-same, claim-dies, claim-live, claim-moves, claim-same, limit-dies, limit-live, limit-moves, limit-same}
use Rattle.model.proofs.Entries.{entry-narrows, narrow-not, narrow-yes, stored-live, stored-not}
use Rattle.model.proofs.Narrowing.{live-kept, narrow-same, no-live, progress-entry, progress-none}
use Rattle.model.proofs.Tight.{dead-stays}
use Rattle.board.specs.Model.{board, model}
use Rattle.board.specs.Shape.{Beyond, Canon, box_of}
use Rattle.board.proofs.Rows.{Rows}
use Rattle.board.proofs.Shapes.{cand-of, hi_of, is-kept, lo-of, some}
use Rattle.board.specs.declared.domains.Domains.{Domains}

beyond-set : (n : ℕ) (xs : List ℕ) (i v : ℕ) → i < n → Beyond n xs → Beyond n (set xs i v)
beyond-set n xs i v h z k r = get_or-set_other xs i k v 0 (λ e. omega arith) ∙ z k r

-- what holds of the value and of the row holds of the row after
at-put : (P : ℕ → ℕ → Type 0) (n : ℕ) (xs : List ℕ) (i v : ℕ) → i < length xs → P i v → ((k : ℕ) → k < n → P k (get_or xs k 0)) → (k : ℕ) → k < n → P k (get_or (set xs i v) k 0)
at-put P n xs i v h p q k r = elim (cases_eq k i) [
  | inl e ↦ subst (λ m. P m (get_or (set xs i v) m 0)) (sym e) (subst (P i) (sym (get_or-set_same xs i v 0 h)) p)
  | inr e ↦ subst (P k) (sym (get_or-set_other xs i k v 0 e)) (q k r)
]

-- what a call on a box promises, for an entry
pub record Entered (e : Entry) (d : Domains) (moved : Bool) (bd' : Board) (b' : Box) : Type 0 where
  pub board_same : bd' ≡ board d
  pub model_is : b' ≡ narrow (board d) e (model d)
  pub progress : Progress (board d) moved (model d) b'

module _ (d : Domains) where
  -- an entry that names nothing on the board
  pub off-board : (e : Entry) → placed (board d) e ≡ false → Entered e d false (board d) (model d)
  off-board e p = record { board_same = refl; model_is = sym (narrow-not (board d) (some d) e (model d) p); progress = progress-none (board d) (some d) (model d) }

  -- one that finds the dead box
  pub on-dead : (e : Entry) → live (board d) (model d) ≡ false → Entered e d false (board d) (model d)
  on-dead e v =
      let z = no-live (board d) (some d) (model d) (is-kept d) v in
      record {
        board_same = refl;
        model_is = sym (ap (narrow (board d) e) z ∙ dead-stays (board d) (some d) (narrow (board d) e) (entry-narrows (board d) (some d) e) ∙ sym z);
        progress = progress-none (board d) (some d) (model d);
      }

  module _ (e : Entry) (p : placed (board d) e ≡ true) where
    -- nothing to write
    pub unchanged : cut e (model d) ≡ model d → Entered e d false (board d) (model d)
    unchanged q = record { board_same = refl; model_is = sym (narrow-same (board d) (some d) e (model d) p (is-kept d) q); progress = progress-none (board d) (some d) (model d) }

    module _ (v : live (board d) (model d) ≡ true) where
      -- the box dies
      pub killed : live (board d) (cut e (model d)) ≡ false → (bd' : Board) (b' : Box) → bd' ≡ board d → b' ≡ dead (board d) → Entered e d true bd' b'
      killed w bd' b' same q =
          let m = q ∙ sym (narrow-yes (board d) (some d) e (model d) p ∙ stored-not (board d) (some d) (cut e (model d)) w) in
          record {
            board_same = same;
            model_is = m;
            progress = progress-entry (board d) (some d) e (model d) b' (is-kept d) m (λ z. both_ways _ (ap (live (board d)) (sym z ∙ q) ∙ live-dead (board d) (some d)) v);
          }

      -- a word is written
      pub written : live (board d) (cut e (model d)) ≡ true → (cut e (model d) ≡ model d → ⊥) → (b' : Box) → b' ≡ cut e (model d) → Entered e d true (board d) b'
      written w ne b' q =
          let m = q ∙ sym (narrow-yes (board d) (some d) e (model d) p ∙ stored-live (board d) (some d) (cut e (model d)) w) in
          record {
            board_same = refl;
            model_is = m;
            progress = progress-entry (board d) (some d) e (model d) b' (is-kept d) m (λ z. ne (sym q ∙ z));
          }

  -- ---- the rows after a write, with what a stored box keeps

  abbrev Stored : List ℕ → List ℕ → List ℕ → Type 0
  Stored c l h = Rows (board d) c l h

  -- a live box has no zeros to keep
  live-canon : (c l h : List ℕ) (b : Box) → box_of (board d) c l h ≡ b → live (board d) b ≡ true → Canon (board d) c l h
  live-canon c l h b q w =
      let t : live (board d) (box_of (board d) c l h) ≡ true = ap (live (board d)) q ∙ w in
      ((λ i z. absurd (both_ways _ z t)), (λ i z. absurd (both_ways _ z t)), (λ i z. absurd (both_ways _ z t)))

  module _ (i m v : ℕ) (r : i < (board d).sensors) (e : v ≡ bit_and (get_or d.cands i 0) m) where
    pub limit-box : box_of (board d) (set d.cands i v) d.lo d.hi ≡ cut (limit i m) (model d)
    unfolding cut
    limit-box =
        let w = take-set-lt (board d).sensors d.cands i v r ∙ ap (set (take (board d).sensors d.cands) i) (e ∙ ap (λ x. bit_and x m) (sym (cand-of d i))) in
        λ k. record { cands = w k; lows = take (board d).sets d.lo; highs = take (board d).sets d.hi }

    pub limit-rows : live (board d) (cut (limit i m) (model d)) ≡ true → Stored (set d.cands i v) d.lo d.hi
    limit-rows w = record {
      sized = d.sized;
      long = (length-set d.cands i v ∙ d.long.0, d.long.1, d.long.2);
      padded = (beyond-set (board d).sensors d.cands i v r d.padded.0, d.padded.1, d.padded.2);
      fitted = (at-put (λ k w. w < 2 ^ (board d).slots) (board d).sensors d.cands i v (omega (arith, d.long.0, d.sized.0.1)) (omega (arith, e, and_le_l (get_or d.cands i 0) m, d.fitted.0 i r)) d.fitted.0, d.fitted.1);
      canon = live-canon _ _ _ _ limit-box w;
    }

  module _ (j m v : ℕ) (r : j < (board d).sets) where
    pub claim-box : v ≡ bit_or (get_or d.lo j 0) m → box_of (board d) d.cands (set d.lo j v) d.hi ≡ cut (claim j m) (model d)
    unfolding cut
    claim-box e =
        let w = take-set-lt (board d).sets d.lo j v r ∙ ap (set (take (board d).sets d.lo) j) (e ∙ ap (λ x. bit_or x m) (sym (lo-of d j))) in
        λ k. record { cands = take (board d).sensors d.cands; lows = w k; highs = take (board d).sets d.hi }

    pub claim-rows : v ≡ bit_or (get_or d.lo j 0) m → live (board d) (cut (claim j m) (model d)) ≡ true → Stored d.cands (set d.lo j v) d.hi
    claim-rows e w = record {
      sized = d.sized;
      long = (d.long.0, length-set d.lo j v ∙ d.long.1, d.long.2);
      padded = (d.padded.0, beyond-set (board d).sets d.lo j v r d.padded.1, d.padded.2);
      fitted = d.fitted;
      canon = live-canon _ _ _ _ (claim-box e) w;
    }

    pub bar-box : v ≡ without (get_or d.hi j 0) m → box_of (board d) d.cands d.lo (set d.hi j v) ≡ cut (bar j m) (model d)
    unfolding cut
    bar-box e =
        let w = take-set-lt (board d).sets d.hi j v r ∙ ap (set (take (board d).sets d.hi) j) (e ∙ ap (λ x. without x m) (sym (hi_of d j))) in
        λ k. record { cands = take (board d).sensors d.cands; lows = take (board d).sets d.lo; highs = w k }

    pub bar-rows : v ≡ without (get_or d.hi j 0) m → live (board d) (cut (bar j m) (model d)) ≡ true → Stored d.cands d.lo (set d.hi j v)
    bar-rows e w = record {
      sized = d.sized;
      long = (d.long.0, d.long.1, length-set d.hi j v ∙ d.long.2);
      padded = (d.padded.0, d.padded.1, beyond-set (board d).sets d.hi j v r d.padded.2);
      fitted = (d.fitted.0, at-put (λ k w. w < 2 ^ room (board d) k) (board d).sets d.hi j v (omega (arith, d.long.2, d.sized.2.0)) (omega (arith, e, d.fitted.1 j r)) d.fitted.1);
      canon = live-canon _ _ _ _ (bar-box e) w;
    }

-- ---- the cases of each write, by what the code tests

-- a box whose word is not empty is live
pub live-by : (d : Domains) → (live (board d) (model d) ≡ false → ⊥) → Live (board d) (model d)
live-by d f = elim (is-kept d) [
  | inl z ↦ absurd (f (ap (live (board d)) z ∙ live-dead (board d) (some d)))
  | inr l ↦ l
]

module _ (d : Domains) (i m : ℕ) (r : i < (board d).sensors) where
  abbrev was : ℕ
  was = get_or d.cands i 0

  model-was : bit_and (cand (model d) i) m ≡ bit_and was m
  model-was = ap (λ x. bit_and x m) (cand-of d i)

  on : placed (board d) (limit i m) ≡ true
  on = lt-ltb i (board d).sensors r

  alive : (bit_and was m ≡ was → ⊥) → Live (board d) (model d)
  alive ne = live-by d (λ v. let z = d.canon.0 i v in ne (ap (λ x. bit_and x m) z ∙ sym z))

  pub limit-none : bit_and was m ≡ was → Entered (limit i m) d false (board d) (model d)
  limit-none e = elim (is-kept d) [
    | inl z ↦ on-dead d (limit i m) (ap (live (board d)) z ∙ live-dead (board d) (some d))
    | inr l ↦ unchanged d (limit i m) on (limit-same (board d) (some d) (model d) l i m (model-was ∙ e ∙ sym (cand-of d i)))
  ]

  pub limit-kills : (bit_and was m ≡ was → ⊥) → bit_and was m ≡ 0 → (bd' : Board) (b' : Box) → bd' ≡ board d → b' ≡ dead (board d) → Entered (limit i m) d true bd' b'
  limit-kills ne z = let l = alive ne in killed d (limit i m) on (live-true (board d) (some d) (model d) l) (limit-dies (board d) (some d) (model d) l i m r (model-was ∙ z))

  pub limit-left : (bit_and was m ≡ was → ⊥) → (bit_and was m ≡ 0 → ⊥) → live (board d) (cut (limit i m) (model d)) ≡ true
  limit-left ne nz = limit-live (board d) (some d) (model d) (alive ne) i m r (λ z. nz (sym model-was ∙ z))

  pub limit-writes : (bit_and was m ≡ was → ⊥) → (bit_and was m ≡ 0 → ⊥) → (b' : Box) → b' ≡ cut (limit i m) (model d) → Entered (limit i m) d true (board d) b'
  limit-writes ne nz = let l = alive ne in written d (limit i m) on (live-true (board d) (some d) (model d) l) (limit-left ne nz)
      (limit-moves (board d) (some d) (model d) l i m r (λ z. ne (sym model-was ∙ z ∙ cand-of d i)))

module _ (d : Domains) (j m : ℕ) (r : j < (board d).sets) where
  module _ (v : live (board d) (model d) ≡ true) where
    abbrev low : ℕ
    low = get_or d.lo j 0

    live-d : Live (board d) (model d)
    live-d = live-kept (board d) (some d) (model d) (is-kept d) v

    model-low : bit_or (lo (model d) j) m ≡ bit_or low m
    model-low = ap (λ x. bit_or x m) (lo-of d j)

    on-claim : placed (board d) (claim j m) ≡ true
    on-claim = lt-ltb j (board d).sets r

    pub claim-none : bit_or low m ≡ low → Entered (claim j m) d false (board d) (model d)
    claim-none e = unchanged d (claim j m) on-claim (claim-same (board d) (some d) (model d) live-d j m (model-low ∙ e ∙ sym (lo-of d j)))

    fits_in : within (bit_or (lo (model d) j) m) (hi (model d) j) ≡ within (bit_or low m) (get_or d.hi j 0)
    fits_in = ap₂ within model-low (hi_of d j)

    pub claim-kills : within (bit_or low m) (get_or d.hi j 0) ≡ false → (bd' : Board) (b' : Box) → bd' ≡ board d → b' ≡ dead (board d) → Entered (claim j m) d true bd' b'
    claim-kills w = killed d (claim j m) on-claim v (claim-dies (board d) (some d) (model d) live-d j m r (fits_in ∙ w))

    pub claim-left : within (bit_or low m) (get_or d.hi j 0) ≡ true → live (board d) (cut (claim j m) (model d)) ≡ true
    claim-left w = claim-live (board d) (some d) (model d) live-d j m r (fits_in ∙ w)

    pub claim-writes : (bit_or low m ≡ low → ⊥) → within (bit_or low m) (get_or d.hi j 0) ≡ true → (b' : Box) → b' ≡ cut (claim j m) (model d) → Entered (claim j m) d true (board d) b'
    claim-writes ne w = written d (claim j m) on-claim v (claim-left w) (claim-moves (board d) (some d) (model d) live-d j m r (λ z. ne (sym model-low ∙ z ∙ lo-of d j)))

  abbrev high : ℕ
  high = get_or d.hi j 0

  model-high : without (hi (model d) j) m ≡ without high m
  model-high = ap (λ x. without x m) (hi_of d j)

  on-bar : placed (board d) (bar j m) ≡ true
  on-bar = lt-ltb j (board d).sets r

  open-high : (without high m ≡ high → ⊥) → Live (board d) (model d)
  open-high ne = live-by d (λ v. let z = d.canon.2 j v in ne (ap (λ x. without x m) z ∙ sym z))

  pub bar-none : without high m ≡ high → Entered (bar j m) d false (board d) (model d)
  bar-none e = elim (is-kept d) [
    | inl z ↦ on-dead d (bar j m) (ap (live (board d)) z ∙ live-dead (board d) (some d))
    | inr l ↦ unchanged d (bar j m) on-bar (bar-same (board d) (some d) (model d) l j m (model-high ∙ e ∙ sym (hi_of d j)))
  ]

  keeps_low : within (lo (model d) j) (without (hi (model d) j) m) ≡ within (get_or d.lo j 0) (without high m)
  keeps_low = ap₂ within (lo-of d j) model-high

  pub bar-kills : (without high m ≡ high → ⊥) → within (get_or d.lo j 0) (without high m) ≡ false → (bd' : Board) (b' : Box) → bd' ≡ board d → b' ≡ dead (board d) → Entered (bar j m) d true bd' b'
  bar-kills ne w = let l = open-high ne in killed d (bar j m) on-bar (live-true (board d) (some d) (model d) l) (bar-dies (board d) (some d) (model d) l j m r (keeps_low ∙ w))

  pub bar-left : (without high m ≡ high → ⊥) → within (get_or d.lo j 0) (without high m) ≡ true → live (board d) (cut (bar j m) (model d)) ≡ true
  bar-left ne w = bar-live (board d) (some d) (model d) (open-high ne) j m r (keeps_low ∙ w)

  pub bar-writes : (without high m ≡ high → ⊥) → within (get_or d.lo j 0) (without high m) ≡ true → (b' : Box) → b' ≡ cut (bar j m) (model d) → Entered (bar j m) d true (board d) b'
  bar-writes ne w = let l = open-high ne in written d (bar j m) on-bar (live-true (board d) (some d) (model d) l) (bar-left ne w) (bar-moves (board d) (some d) (model d) l j m r (λ z. ne (sym model-high ∙ z ∙ hi_of d j)))
