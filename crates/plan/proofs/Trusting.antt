-- What a settled plan may be trusted for follows from the theorem on mixes of calls. Assumes nothing.
-- every layout of the board lies in the box of a new plan
use Rattle.std.proofs.Common.{◌≡◌, ℕ, ◌-◌, ◌^◌, ◌<◌, Bool, true, List, [], ◌∷◌, map, sym, refl, ap, ◌∙◌, subst}
use Rattle.std.specs.List.{AllByRecursion}
use Rattle.masks.specs.Masks.{has, within}
use Rattle.masks.proofs.Masks.{has-full, within-from}
use Rattle.model.specs.Board.{Board, room}
use Rattle.model.specs.Box.{Box, Choice, In, Kept, cand, choice, full, hi, live, lo, uses}
use Rattle.model.specs.Calls.{Call, Mem, Mixes, State, after, does, enter, post, posted, reopen, settle}
use Rattle.model.specs.Laws.{Lawful, Only, asked, fits}
use Rattle.model.specs.Layout.{Layout, On, set_of, slot_of}
use Rattle.model.proofs.Asked.{all_asked, asked-fits}
use Rattle.model.proofs.Boxes.{mem-lay, space}
use Rattle.model.proofs.Full.{full-kept}
use Rattle.model.proofs.Lists.{all-mem, all_of_map, tab-at}
use Rattle.model.proofs.Mixes.{mix-kept, mix-settled-kept, mixes, posted-fit, rules_are}
use Rattle.model.proofs.Tight.{settling}
use Rattle.text.specs.Lines.{listing}
use Rattle.plan.specs.Trust.{Leads, ReadsAlike, Trusted, begun}

full-in : (bd : Board) (x : Layout) → On bd x → In bd x (full bd)
unfolding full
full-in bd x o = record {
  slots_in = λ i h. ap (λ m. has m (slot_of x i)) (tab-at (λ i. 2 ^ bd.slots - 1) bd.sensors i 0 h) ∙ has-full bd.slots (slot_of x i) (o.slots_on i h);
  over = λ j h. ap (λ m. within m (set_of x j)) (tab-at {X = ℕ} (λ j. 0) bd.sets j 0 h);
  under = λ j h. ap (within (set_of x j)) (tab-at (λ j. 2 ^ room bd j - 1) bd.sets j 0 h)
      ∙ within-from (room bd j) (set_of x j) _ (o.sets_on j h) (λ v r e. has-full (room bd j) v r);
}

pub alike-reads : (bd : Board) (a b : Box) → a ≡ b → ReadsAlike bd a b
alike-reads bd a b e = record {
  text = ap (listing bd) e;
  candidates = λ i. ap (λ x. cand x i) e;
  lower = λ j. ap (λ x. lo x j) e;
  upper = λ j. ap (λ x. hi x j) e;
  dead = ap (live bd) e;
}

module _ {R : Type 0} {fault : Board → R → ℕ} {holds : Board → R → Layout → Bool} {run : Board → R → Box → Box} (lawful : Lawful fault holds run)
    (s : State R) (some : 0 < s.board.sensors) (slots : 0 < s.board.slots) (t : Box) (e : t ≡ (does fault run settle s).box) where
  abbrev start : State R
  start = begun fault holds run s.board s.places

  mixed : Mixes fault holds run s.board (full s.board)
  mixed = mixes lawful s.board some (full s.board) (full-kept s.board slots)

  -- a layout in the box of a live or dead plan uses choices of it
  used : (b : Box) → Kept s.board b → (x : Layout) → On s.board x → In s.board x b → (c : Choice) → uses s.board x c ≡ true → choice s.board b c ≡ true
  used b k x o i c u = (space s.board some).lay-in b k x (mem-lay s.board some b x o i) c u

  settle-from : (h : List (Call R)) → Leads fault holds run h s → t ≡ (does fault run settle (after fault run h start)).box
  settle-from h l = e ∙ ap (λ z. (does fault run settle z).box) (sym l)

  pub trusted : Trusted fault holds run s t
  trusted = record {
    same = λ h l places g ae ar. alike-reads s.board t _ (settle-from h l ∙ mixed.order s.places places h g ae ar);
    no_loss = λ g g' l x o k c u.
        used (after fault run g start).box (mix-kept lawful s.board some (full s.board) (full-kept s.board slots) s.places g) x o
        (mixed.never_lost s.places g x o (full-in s.board x o) k) c u;
    no_loss_settled = λ h l x o k c u.
        subst (λ z. choice s.board z c ≡ true) (sym (settle-from h l))
        (used _ (mix-settled-kept lawful s.board some (full s.board) (full-kept s.board slots) s.places h) x o
        (mixed.kept_to_the_end s.places h x o (full-in s.board x o) k) c u);
    lone = λ h l x only. mixed.lone s.places h x (subst (λ z. Only s.board z x) (settle-from h l) only);
  }

  -- ---- rules that were accepted

  rules-of : (h : List (Call R)) → Leads fault holds run h s → s.rules ≡ posted fault run h start
  rules-of h l = ap (λ z. z.rules) (sym l) ∙ rules_are fault run h start

  kept-start : Kept s.board s.box → AllByRecursion (λ r. asked fault run s.board r t ≡ t) s.rules
  kept-start k =
      let w = (settling s.board some).made (map (asked fault run s.board) s.rules) (all_asked lawful s.board some s.rules) s.box k in
      subst (λ z. AllByRecursion (λ r. asked fault run s.board r z ≡ z) s.rules) (sym e) (all_of_map (λ f. f _ ≡ _) (asked fault run s.board) s.rules w.still)

  -- each fits, and its run leaves the settled box
  pub at_rest : (h : List (Call R)) → Leads fault holds run h s → (r : R) → Mem r (posted fault run h start) → (fits fault s.board r ≡ true) × (run s.board r t ≡ t)
  at_rest h l r m =
      let k : Kept s.board s.box = subst (λ z. Kept s.board z.box) l (mix-kept lawful s.board some (full s.board) (full-kept s.board slots) s.places h) in
      let f = all-mem (λ r. fits fault s.board r ≡ true) (posted fault run h start) (posted-fit fault run h start) r m in
      let a = all-mem (λ r. asked fault run s.board r t ≡ t) (posted fault run h start) (subst (AllByRecursion (λ r. asked fault run s.board r t ≡ t)) (rules-of h l) (kept-start k)) r m in
      (f, sym (asked-fits fault run s.board r t f) ∙ a)

-- the places are the same after any mix of calls
module _ {R : Type 0} (fault : Board → R → ℕ) (run : Board → R → Box → Box) where
  pub after-places : (cs : List (Call R)) (s : State R) → (after fault run cs s).places ≡ s.places
  after-places [] s = refl
  after-places (enter e ∷ cs) s = after-places cs (does fault run (enter e) s)
  after-places (post q ∷ cs) s = after-places cs (does fault run (post q) s)
  after-places (settle ∷ cs) s = after-places cs (does fault run settle s)
  after-places (reopen ∷ cs) s = after-places cs (does fault run reopen s)
