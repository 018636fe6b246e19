-- The loops of settling. Assumes nothing.
use Rattle.std.proofs.Common.{◌≡◌, ℕ, ◌+◌, ◌<◌, ◌≤◌, Bool, true, false, not, ◌||◌, List, [], ◌∷◌, ◌++◌, map, length, get_or, take, sym, refl, ap, ◌∙◌, subst, ap₂, inl, take_all}
use mathlib.Core.List.{map-append}
use Rattle.std.specs.List.{AllByRecursion}
use Rattle.std.proofs.lemmas.Bool.{not-true, or_right}
use Rattle.std.proofs.lemmas.List.{take_more}
use Rattle.model.specs.Board.{Board}
use Rattle.model.specs.Box.{Box, Inside, Kept, choice, live, size}
use Rattle.model.specs.Laws.{Lawful, Narrows, asked}
use Rattle.model.specs.Layout.{Layout}
use Rattle.model.specs.Settled.{Progress, round, settled}
use Rattle.model.proofs.Asked.{all_asked, asked-narrows}
use Rattle.model.proofs.Narrowing.{progress-join, progress-none}
use Rattle.model.proofs.Order.{Fewer, ordered}
use Rattle.model.proofs.Rounds.{Ordered, Runs, round-good, round-inside, round_keeps, round-still}
use Rattle.model.proofs.Tight.{all_runs, from, ordering, settling, to}
use Rattle.board.specs.Model.{board, model}
use Rattle.board.proofs.Shapes.{is-kept, some}
use Rattle.board.specs.declared.domains.Domains.{Domains}

pub round-append : {B : Type 0} (rs qs : List (B → B)) (b : B) → round (rs ++ qs) b ≡ round qs (round rs b)
unfolding round
round-append [] qs b = refl
round-append (r ∷ rs) qs b = round-append rs qs (r b)

-- one run is a round of its own
pub round-one : {B : Type 0} (r : B → B) (b : B) → r b ≡ round (r ∷ []) b
unfolding round
round-one r b = refl

-- ---- one rule

pub dead-rests : {R : Type 0} {fault : Board → R → ℕ} {holds : Board → R → Layout → Bool} {run : Board → R → Box → Box} → Lawful fault holds run
    → (r : R) (d : Domains) → not (live (board d) (model d)) ≡ true → model d ≡ asked fault run (board d) r (model d)
dead-rests lawful r d e =
    let n = asked-narrows lawful (board d) (some d) r in
    (ordering (board d) (some d)).one (model d) _ (is-kept d) (n.kept (model d) (is-kept d)) (inl (not-true _ e)) (n.shrinks (model d) (is-kept d))

-- ---- one round

-- the rules so far have each run once
pub record Sofar {R : Type 0} (fault : Board → R → ℕ) (run : Board → R → Box → Box) (rs : List R) (a b : Domains) (moved : Bool) : Type 0 where
  pub board_same : board b ≡ board a
  pub result : model b ≡ round (map (asked fault run (board a)) rs) (model a)
  pub progress : Progress (board a) moved (model a) (model b)

module _ {R : Type 0} {fault : Board → R → ℕ} {run : Board → R → Box → Box} where
  pub none_yet : (rs : List R) (a : Domains) → Sofar fault run (take 0 rs) a a false
  unfolding round
  none_yet rs a = record { board_same = refl; result = refl; progress = progress-none (board a) (some a) (model a) }

  -- more rules each once, after the others
  pub joined : (rs qs : List R) (a b c : Domains) (s t : Bool) → Sofar fault run rs a b s → Sofar fault run qs b c t → Sofar fault run (rs ++ qs) a c (s || t)
  joined rs qs a b c s t w v = record {
    board_same = v.board_same ∙ w.board_same;
    result =
        let f = asked fault run (board a) in
        v.result ∙ ap₂ (λ o x. round (map (asked fault run o) qs) x) w.board_same w.result
        ∙ sym (round-append (map f rs) (map f qs) (model a))
        ∙ ap (λ z. round z (model a)) (sym (map-append f rs qs));
    progress = progress-join (board a) (some a) s t (model a) (model b) (model c) w.progress (subst (λ o. Progress o t (model b) (model c)) w.board_same v.progress);
  }

  -- one rule
  pub alone : (r : R) (a b : Domains) (s : Bool) → board b ≡ board a → model b ≡ asked fault run (board a) r (model a) → Progress (board a) s (model a) (model b)
      → Sofar fault run (r ∷ []) a b s
  alone r a b s bs m p = record { board_same = bs; result = m ∙ round-one (asked fault run (board a) r) (model a); progress = p }

  pub one_more : (rs : List R) (i : ℕ) (r : R) (a b c : Domains) (s t : Bool) → i < length rs → r ≡ get_or rs i r → Sofar fault run (take i rs) a b s
      → Sofar fault run (r ∷ []) b c t → Sofar fault run (take (i + 1) rs) a c (s || t)
  one_more rs i r a b c s t h e w v =
      subst (λ z. Sofar fault run z a c (s || t)) (ap (λ q. take i rs ++ (q ∷ [])) e ∙ sym (take_more rs i r h)) (joined (take i rs) (r ∷ []) a b c s t w v)

  pub whole : (rs : List R) (i : ℕ) (a b : Domains) (s : Bool) → length rs ≤ i → Sofar fault run (take i rs) a b s → Sofar fault run rs a b s
  whole rs i a b s h w = record {
    board_same = w.board_same;
    result = w.result ∙ ap (λ t. round (map (asked fault run (board a)) t) (model a)) (take_all i rs h);
    progress = w.progress;
  }

-- ---- round after round

-- b is on the way from b₀: every box that no run changes, and is inside b₀, is inside b
pub record Going (bd : Board) (runs : List (Box → Box)) (b₀ b : Box) : Type 0 where
  pub kept : Kept bd b
  pub inside : Inside bd b b₀
  pub above : (t : Box) → Kept bd t → Inside bd t b₀ → AllByRecursion (λ r. r t ≡ t) runs → Inside bd t b

module _ {R : Type 0} {fault : Board → R → ℕ} {holds : Board → R → Layout → Bool} {run : Board → R → Box → Box} (lawful : Lawful fault holds run) (rs : List R) (a : Domains) where
  abbrev table : List (Box → Box)
  table = map (asked fault run (board a)) rs

  narrows : AllByRecursion (Narrows (board a)) table
  narrows = all_asked lawful (board a) (some a) rs

  runs : AllByRecursion (Runs (Kept (board a)) (Fewer (board a) (some a))) table
  runs = all_runs (board a) (some a) table narrows

  abbrev order : Ordered (Kept (board a)) (Fewer (board a) (some a)) (size (board a))
  order = ordered (board a) (some a)

  pub record Settles (b : Domains) (moved : Bool) : Type 0 where
    pub board_same : board b ≡ board a
    pub going : Going (board a) table (model a) (model b)
    pub since : Progress (board a) moved (model a) (model b)

  pub start : Settles a false
  start = record { board_same = refl; since = progress-none (board a) (some a) (model a); going = record { kept = is-kept a; inside = (ordering (board a) (some a)).itself (model a) (is-kept a); above = λ t k i f. i } }

  module _ (b c : Domains) (before moved : Bool) (s : Settles b before) (w : Sofar fault run rs b c moved) where
    result : model c ≡ round table (model b)
    result = w.result ∙ ap (λ o. round (map (asked fault run o) rs) (model b)) s.board_same

    progress : Progress (board a) moved (model b) (model c)
    progress = subst (λ o. Progress o moved (model b) (model c)) s.board_same w.progress

    going_on : Going (board a) table (model a) (round table (model b))
    going_on =
        let g = s.going in
        let kr = round-good (Kept (board a)) (Fewer (board a) (some a)) (size (board a)) order table runs (model b) g.kept in
        record {
          kept = kr;
          inside = (ordering (board a) (some a)).chain _ (model b) (model a) kr g.kept (is-kept a)
              (to (board a) (some a) _ (model b) kr g.kept (round-inside (Kept (board a)) (Fewer (board a) (some a)) (size (board a)) order table runs (model b) g.kept)) g.inside;
          above = λ t kt i f. to (board a) (some a) t _ kt kr (round_keeps (Kept (board a)) (Fewer (board a) (some a)) (size (board a)) order table runs t (model b) kt g.kept
              (from (board a) (some a) t (model b) kt g.kept (g.above t kt i f)) f);
        }

    pub again : moved ≡ true → Settles c true
    again t = record {
      board_same = w.board_same ∙ s.board_same;
      going = subst (Going (board a) table (model a)) (sym result) going_on;
      since = subst (λ m. Progress (board a) m (model a) (model c)) (or_right before moved t) (progress-join (board a) (some a) before moved (model a) (model b) (model c) s.since progress);
    }

    pub falls : moved ≡ true → size (board a) (model c) < size (board a) (model b)
    falls t = progress.falls t

    -- a round that changes nothing is the last
    pub ends : moved ≡ false → Progress (board a) before (model a) (model c)
    ends t = subst (Progress (board a) before (model a)) (sym (progress.still t)) s.since

    pub rests : moved ≡ false → model c ≡ settled (board a) table (model a)
    rests t =
        let g = s.going in
        let same = progress.still t in
        let still = round-still (Kept (board a)) (Fewer (board a) (some a)) (size (board a)) order table runs (model b) g.kept (λ k h. ap (λ x. choice (board a) x k) (sym result ∙ same) ∙ h) in
        same ∙ (settling (board a) (some a)).one table (model a) (model b) _
        (record { kept = g.kept; inside = g.inside; still = still; largest = g.above })
        ((settling (board a) (some a)).made table narrows (model a) (is-kept a))

    -- what is settled from here on is settled from the start
    pub resumed : moved ≡ true → (m : Box) → m ≡ settled (board c) (map (asked fault run (board c)) rs) (model c) → m ≡ settled (board a) table (model a)
    resumed t m e =
        let n = again t in
        let same = n.board_same in
        let here : m ≡ settled (board a) table (model c) = e ∙ ap (λ o. settled o (map (asked fault run o) rs) (model c)) same in
        let s = (settling (board a) (some a)).made table narrows (model c) n.going.kept in
        here ∙ (settling (board a) (some a)).one table (model a) _ _
        (record {
          kept = s.kept;
          inside = (ordering (board a) (some a)).chain _ (model c) (model a) s.kept n.going.kept (is-kept a) s.inside n.going.inside;
          still = s.still;
          largest = λ x k i f. s.largest x k (n.going.above x k i f) f;
        })
        ((settling (board a) (some a)).made table narrows (model a) (is-kept a))
