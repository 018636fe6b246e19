-- What a mix of calls comes to. Assumes nothing.
use Rattle.std.proofs.Common.{◌≡◌, ℕ, ◌<◌, Bool, true, false, cond, eqb, leb, List, [], ◌∷◌, ◌++◌, map, sym, refl, ap, ◌∙◌, subst, ap₂, inl, inr, append_assoc, append-nil, arith}
use Rattle.std.specs.List.{AllByRecursion}
use Rattle.std.proofs.lemmas.Bool.{both_ways, eqb-true, lt-ltb, le-leb, eq-eqb, ne_eqb, cases_lt, cases_eq, cases_Bool, cond-true, cond-false}
use Rattle.std.proofs.ByRecursion.{All-weaker}
use Rattle.model.specs.Board.{Board}
use Rattle.model.specs.Box.{Box, In, Kept, live, size}
use Rattle.model.specs.Calls.{Call, KeepsAll, Mixes, MixesStand, State, after, answer, does, draft, enter, entered, no_place, post, posted, reopen, settle}
use Rattle.model.specs.Entries.{Entry, bar, claim, entry_causes, keeps, limit, narrow, narrowed, placed}
use Rattle.model.specs.Laws.{Lawful, Laws, Only, asked, fits}
use Rattle.model.specs.Layout.{Layout, On}
use Rattle.model.specs.Refusals.{earlier, order, rank_in, refusal}
use Rattle.model.specs.Settled.{settled}
use Rattle.model.specs.Tight.{tight}
use Rattle.model.proofs.Asked.{asked-fits, asked-keeps, asked-narrows}
use Rattle.model.proofs.Boxes.{live-dead}
use Rattle.model.proofs.Entries.{entry-firm, entry-keeps, entry-narrows, in-live, narrow-is}
use Rattle.model.proofs.Lists.{all_of_map, all-to-map}
use Rattle.model.proofs.Order.{Fewer, ordered}
use Rattle.model.proofs.Rounds.{Runs}
use Rattle.model.proofs.Steps.{Step, after-good, answer-alike, entering, entries_of, history-holds, history-is, narrowed-good, narrowed-parts, posted_of, posting, resettling, settle_is, settled-holds, walked}
use Rattle.model.proofs.Tight.{runs_of, tightness}

pub earlier-none : (a b : ℕ) → earlier a b ≡ 0 → a ≡ 0
earlier-none a b e = elim (cases_eq a 0) [
  | inl z ↦ z
  | inr z ↦ absurd (elim (cases_eq b 0) [
    | inl y ↦ z (sym (cond-false (eqb a 0) b _ (ne_eqb a 0 z) ∙ cond-true (eqb b 0) a _ (eq-eqb b 0 y)) ∙ e)
    | inr y ↦ pick (leb (rank_in order a) (rank_in order b)) (sym (cond-false (eqb a 0) b _ (ne_eqb a 0 z) ∙ cond-false (eqb b 0) a _ (ne_eqb b 0 y)) ∙ e) z y
  ])
]
  where
    pick : (t : Bool) → cond t a b ≡ 0 → (a ≡ 0 → ⊥) → (b ≡ 0 → ⊥) → ⊥
    pick true e z y = z e
    pick false e z y = y e

-- an accepted entry names a sensor or a set of the board
pub accepted-placed : (bd : Board) (e : Entry) → refusal (entry_causes bd e) ≡ 0 → placed bd e ≡ true
accepted-placed bd (limit i m) z = lt-ltb i bd.sensors (none bd.sensors i 2 _ (λ w. omega arith) z)
  where
    none : (n i k l : ℕ) → (k ≡ 0 → ⊥) → cond (leb n i) k l ≡ 0 → i < n
    none n i k l ne e = elim (cases_lt i n) [ inl h ↦ h | inr h ↦ absurd (ne (sym (cond-true (leb n i) k l (le-leb n i h)) ∙ e)) ]
accepted-placed bd (claim j m) z = elim (cases_lt j bd.sets) [ inl h ↦ lt-ltb j bd.sets h | inr h ↦ absurd (omega (arith, sym (cond-true (leb bd.sets j) 3 _ (le-leb _ j h)) ∙ z)) ]
accepted-placed bd (bar j m) z = elim (cases_lt j bd.sets) [ inl h ↦ lt-ltb j bd.sets h | inr h ↦ absurd (omega (arith, sym (cond-true (leb bd.sets j) 3 _ (le-leb _ j h)) ∙ z)) ]

-- ---- the steps that a mix of calls is

module _ {R : Type 0} (fault : Board → R → ℕ) (run : Board → R → Box → Box) where
  steps : List (Call R) → State R → List (Step Entry R)
  steps [] s = []
  steps (enter e ∷ cs) s = let r = steps cs (does fault run (enter e) s) in elim (eqb (answer fault run (enter e) s) 0) [ true ↦ entering e ∷ r | false ↦ r ]
  steps (post q ∷ cs) s = let r = steps cs (does fault run (post q) s) in elim (eqb (answer fault run (post q) s) 0) [ true ↦ posting q ∷ r | false ↦ r ]
  steps (settle ∷ cs) s = resettling ∷ steps cs (does fault run settle s)
  steps (reopen ∷ cs) s = steps cs (does fault run reopen s)

  abbrev walk : Board → List (Step Entry R) → List R → Box → Box
  walk bd = walked (size bd) (narrow bd) (asked fault run bd)

  after-box : (cs : List (Call R)) (s : State R) → walk s.board (steps cs s) s.rules s.box ≡ (after fault run cs s).box
  unfolding steps
  after-box [] s = refl
  after-box (enter e ∷ cs) s = go (eqb (answer fault run (enter e) s) 0) (steps cs (does fault run (enter e) s)) ∙ after-box cs (does fault run (enter e) s)
    where
      go : (t : Bool) (r : List (Step Entry R)) → walk s.board (elim t [ true ↦ entering e ∷ r | false ↦ r ]) s.rules s.box ≡ walk s.board r s.rules (cond t (narrow s.board e s.box) s.box)
      go true r = refl
      go false r = refl
  after-box (post q ∷ cs) s = go (eqb (answer fault run (post q) s) 0) (steps cs (does fault run (post q) s)) ∙ after-box cs (does fault run (post q) s)
    where
      go : (t : Bool) (r : List (Step Entry R)) → walk s.board (elim t [ true ↦ posting q ∷ r | false ↦ r ]) s.rules s.box ≡ walk s.board r (cond t (s.rules ++ (q ∷ [])) s.rules) s.box
      go true r = refl
      go false r = refl
  after-box (settle ∷ cs) s = after-box cs (does fault run settle s)
  after-box (reopen ∷ cs) s = after-box cs (does fault run reopen s)

  pub after-board : (cs : List (Call R)) (s : State R) → (after fault run cs s).board ≡ s.board
  after-board [] s = refl
  after-board (enter e ∷ cs) s = after-board cs (does fault run (enter e) s)
  after-board (post q ∷ cs) s = after-board cs (does fault run (post q) s)
  after-board (settle ∷ cs) s = after-board cs (does fault run settle s)
  after-board (reopen ∷ cs) s = after-board cs (does fault run reopen s)

  entered-is : (cs : List (Call R)) (s : State R) → entries_of (steps cs s) ≡ entered fault run cs s
  unfolding steps entered
  entered-is [] s = refl
  entered-is (enter e ∷ cs) s = go (eqb (answer fault run (enter e) s) 0) (steps cs (does fault run (enter e) s)) ∙ ap (λ es. elim (eqb (answer fault run (enter e) s) 0) [ true ↦ e ∷ es | false ↦ es ]) (entered-is cs (does fault run (enter e) s))
    where
      go : (t : Bool) (r : List (Step Entry R)) → entries_of (elim t [ true ↦ entering e ∷ r | false ↦ r ]) ≡ elim t [ true ↦ e ∷ entries_of r | false ↦ entries_of r ]
      go true r = refl
      go false r = refl
  entered-is (post q ∷ cs) s = go (eqb (answer fault run (post q) s) 0) (steps cs (does fault run (post q) s)) ∙ entered-is cs (does fault run (post q) s)
    where
      go : (t : Bool) (r : List (Step Entry R)) → entries_of (elim t [ true ↦ posting q ∷ r | false ↦ r ]) ≡ entries_of r
      go true r = refl
      go false r = refl
  entered-is (settle ∷ cs) s = entered-is cs (does fault run settle s)
  entered-is (reopen ∷ cs) s = entered-is cs (does fault run reopen s)

  posted-is : (cs : List (Call R)) (s : State R) → posted_of (steps cs s) ≡ posted fault run cs s
  unfolding steps posted
  posted-is [] s = refl
  posted-is (enter e ∷ cs) s = go (eqb (answer fault run (enter e) s) 0) (steps cs (does fault run (enter e) s)) ∙ posted-is cs (does fault run (enter e) s)
    where
      go : (t : Bool) (r : List (Step Entry R)) → posted_of (elim t [ true ↦ entering e ∷ r | false ↦ r ]) ≡ posted_of r
      go true r = refl
      go false r = refl
  posted-is (post q ∷ cs) s = go (eqb (answer fault run (post q) s) 0) (steps cs (does fault run (post q) s)) ∙ ap (λ rs. elim (eqb (answer fault run (post q) s) 0) [ true ↦ q ∷ rs | false ↦ rs ]) (posted-is cs (does fault run (post q) s))
    where
      go : (t : Bool) (r : List (Step Entry R)) → posted_of (elim t [ true ↦ posting q ∷ r | false ↦ r ]) ≡ elim t [ true ↦ q ∷ posted_of r | false ↦ posted_of r ]
      go true r = refl
      go false r = refl
  posted-is (settle ∷ cs) s = posted-is cs (does fault run settle s)
  posted-is (reopen ∷ cs) s = posted-is cs (does fault run reopen s)

  -- the table holds the accepted rules, the oldest first
  pub rules_are : (cs : List (Call R)) (s : State R) → (after fault run cs s).rules ≡ s.rules ++ posted fault run cs s
  unfolding posted
  rules_are [] s = sym (append-nil s.rules)
  rules_are (enter e ∷ cs) s = rules_are cs (does fault run (enter e) s)
  rules_are (post q ∷ cs) s = rules_are cs (does fault run (post q) s) ∙ go (eqb (answer fault run (post q) s) 0) (posted fault run cs (does fault run (post q) s))
    where
      go : (t : Bool) (rs : List R) → cond t (s.rules ++ (q ∷ [])) s.rules ++ rs ≡ s.rules ++ elim t [ true ↦ q ∷ rs | false ↦ rs ]
      go true rs = append_assoc s.rules (q ∷ []) rs
      go false rs = refl
  rules_are (settle ∷ cs) s = rules_are cs (does fault run settle s)
  rules_are (reopen ∷ cs) s = rules_are cs (does fault run reopen s)

  -- accepted rules fit the board, and accepted entries name something on it
  pub posted-fit : (cs : List (Call R)) (s : State R) → AllByRecursion (λ r. fits fault s.board r ≡ true) (posted fault run cs s)
  unfolding posted
  posted-fit [] s = tt
  posted-fit (enter e ∷ cs) s = posted-fit cs (does fault run (enter e) s)
  posted-fit (post q ∷ cs) s = go (eqb (answer fault run (post q) s) 0) refl (posted-fit cs (does fault run (post q) s))
    where
      go : (t : Bool) → eqb (answer fault run (post q) s) 0 ≡ t → AllByRecursion (λ r. fits fault s.board r ≡ true) (posted fault run cs (does fault run (post q) s))
          → AllByRecursion (λ r. fits fault s.board r ≡ true) (elim t [ true ↦ q ∷ posted fault run cs (does fault run (post q) s) | false ↦ posted fault run cs (does fault run (post q) s) ])
      go true e a = (eq-eqb (fault s.board q) 0 (earlier-none (fault s.board q) (cond (no_place s) 8 0) (eqb-true (answer fault run (post q) s) 0 e)), a)
      go false e a = a
  posted-fit (settle ∷ cs) s = posted-fit cs (does fault run settle s)
  posted-fit (reopen ∷ cs) s = posted-fit cs (does fault run reopen s)

  pub entered-placed : (cs : List (Call R)) (s : State R) → AllByRecursion (λ e. placed s.board e ≡ true) (entered fault run cs s)
  unfolding entered
  entered-placed [] s = tt
  entered-placed (enter e ∷ cs) s = go (eqb (answer fault run (enter e) s) 0) refl (entered-placed cs (does fault run (enter e) s))
    where
      go : (t : Bool) → eqb (answer fault run (enter e) s) 0 ≡ t → AllByRecursion (λ e. placed s.board e ≡ true) (entered fault run cs (does fault run (enter e) s))
          → AllByRecursion (λ e. placed s.board e ≡ true) (elim t [ true ↦ e ∷ entered fault run cs (does fault run (enter e) s) | false ↦ entered fault run cs (does fault run (enter e) s) ])
      go true q a = (accepted-placed s.board e (eqb-true _ 0 q), a)
      go false q a = a
  entered-placed (post q ∷ cs) s = entered-placed cs (does fault run (post q) s)
  entered-placed (settle ∷ cs) s = entered-placed cs (does fault run settle s)
  entered-placed (reopen ∷ cs) s = entered-placed cs (does fault run reopen s)

-- ---- the theorem

module _ {R : Type 0} {fault : Board → R → ℕ} {holds : Board → R → Layout → Bool} {run : Board → R → Box → Box} (lawful : Lawful fault holds run)
    (bd : Board) (some : 0 < bd.sensors) (start : Box) (k : Kept bd start) where
  runs : (r : R) → Runs (Kept bd) (Fewer bd some) (asked fault run bd r)
  runs r = runs_of bd some _ (asked-narrows lawful bd some r)

  cuts : (e : Entry) → Runs (Kept bd) (Fewer bd some) (narrow bd e)
  cuts e = runs_of bd some (narrow bd e) (entry-narrows bd some e)

  abbrev from_places : ℕ → State R
  from_places p = draft bd p start

  -- what the accepted entries and rules alone come to
  abbrev alone : List Entry → List R → Box
  alone es rs = settled bd (map (asked fault run bd) rs) (narrowed (narrow bd) es start)

  pub mix-alone : (p : ℕ) (g : List (Call R)) → (does fault run settle (after fault run g (from_places p))).box ≡ alone (entered fault run g (from_places p)) (posted fault run g (from_places p))
  mix-alone p g =
      let s = from_places p in
      ap (λ o. settled o (map (asked fault run o) (after fault run g s).rules) (after fault run g s).box) (after-board fault run g s)
      ∙ ap₂ (λ rs b. settled bd (map (asked fault run bd) rs) b) (rules_are fault run g s ∙ sym (posted-is fault run g s)) (sym (after-box fault run g s))
      ∙ history-is (Kept bd) (Fewer bd some) (size bd) (ordered bd some) (narrow bd) (asked fault run bd) cuts runs (entry-firm bd some) (steps fault run g s) start k
      ∙ ap₂ alone (entered-is fault run g s) (posted-is fault run g s)

  pub mix-kept : (p : ℕ) (g : List (Call R)) → Kept bd (after fault run g (from_places p)).box
  mix-kept p g = subst (Kept bd) (after-box fault run g (from_places p))
      (after-good (Kept bd) (Fewer bd some) (size bd) (ordered bd some) (narrow bd) (asked fault run bd) cuts runs (entry-firm bd some) (steps fault run g (from_places p)) [] start k)

  -- a box with one layout that the run leaves: the rule holds there
  left-holds : (h : Layout → Bool) (r : Box → Box) → Laws bd h r → (b : Box) → Kept bd b → r b ≡ b → (x : Layout) → Only bd b x → h x ≡ true
  left-holds h r l b kb e x only = elim (cases_Bool (h x)) [
    | inl t ↦ t
    | inr t ↦ absurd (both_ways _ (ap (live bd) (sym e ∙ l.dies b kb x only t) ∙ live-dead bd some) (in-live bd some b x only.on only.inside))
  ]

  rule-kept : (b : Box) → Kept bd b → (x : Layout) → Only bd b x → (rs : List R) → AllByRecursion (λ r. fits fault bd r ≡ true) rs → AllByRecursion (λ r. asked fault run bd r b ≡ b) rs → AllByRecursion (λ r. holds bd r x ≡ true) rs
  rule-kept b kb x o [] f a = tt
  rule-kept b kb x o (r ∷ rs) f a = (
    left-holds (holds bd r) (run bd r) (lawful.laws bd some r f.0) b kb (sym (asked-fits fault run bd r b f.0) ∙ a.0) x o,
    rule-kept b kb x o rs f.1 a.1,
  )

  entry_kept : (b : Box) → Kept bd b → (x : Layout) → Only bd b x → (es : List Entry) → AllByRecursion (λ e. placed bd e ≡ true) es → AllByRecursion (λ e. narrow bd e b ≡ b) es → AllByRecursion (λ e. keeps e x ≡ true) es
  entry_kept b kb x o [] p a = tt
  entry_kept b kb x o (e ∷ es) p a = (
    left-holds (keeps e) (tight bd (keeps e)) (tightness bd some (keeps e)).laws b kb (sym (narrow-is bd some e b p.0 kb) ∙ a.0) x o,
    entry_kept b kb x o es p.1 a.1,
  )

  -- a last settle of the accepted rules
  last-settle : (p : ℕ) (g : List (Call R)) → (does fault run settle (after fault run g (from_places p))).box ≡ settled bd (map (asked fault run bd) (posted fault run g (from_places p))) (after fault run g (from_places p)).box
  last-settle p g =
      let s = from_places p in
      ap (λ o. settled o (map (asked fault run o) (after fault run g s).rules) (after fault run g s).box) (after-board fault run g s)
      ∙ ap (λ rs. settled bd (map (asked fault run bd) rs) (after fault run g s).box) (rules_are fault run g s)

  pub mix-settled-kept : (p : ℕ) (g : List (Call R)) → Kept bd (does fault run settle (after fault run g (from_places p))).box
  mix-settled-kept p g = subst (Kept bd) (sym (last-settle p g))
      (settle_is (Kept bd) (Fewer bd some) (size bd) (ordered bd some) (narrow bd) (asked fault run bd) cuts runs (entry-firm bd some) (posted fault run g (from_places p)) _ (mix-kept p g)).good

  -- a rule that holds at a layout keeps it
  abbrev Holds-on : Layout → R → Type 0
  Holds-on x r = (b : Box) → Kept bd b × In bd x b → Kept bd (asked fault run bd r b) × In bd x (asked fault run bd r b)

  rule-keeps : (x : Layout) → On bd x → (rs : List R) → AllByRecursion (λ r. holds bd r x ≡ true) rs → AllByRecursion (Holds-on x) rs
  rule-keeps x o rs h = All-weaker (λ r. holds bd r x ≡ true) (Holds-on x) (λ r h b n. ((asked-narrows lawful bd some r).kept b n.0, asked-keeps lawful bd some r b n.0 x o n.1 h)) rs h

  kept-so-far : (p : ℕ) (g : List (Call R)) (x : Layout) → On bd x → In bd x start → KeepsAll fault holds run bd g (from_places p) x → In bd x (after fault run g (from_places p)).box
  kept-so-far p g x o i kept =
      let s = from_places p in
      subst (In bd x) (after-box fault run g s) (history-holds (size bd) (narrow bd) (asked fault run bd) (λ b. Kept bd b × In bd x b) (steps fault run g s) [] start (k, i)
      (All-weaker (λ e. keeps e x ≡ true) (λ e. (b : Box) → Kept bd b × In bd x b → Kept bd (narrow bd e b) × In bd x (narrow bd e b))
      (λ e h b n. ((entry-narrows bd some e).kept b n.0, entry-keeps bd some e b x n.0 o n.1 (λ _. h))) _ (subst (AllByRecursion (λ e. keeps e x ≡ true)) (sym (entered-is fault run g s)) kept.entries))
      tt
      (rule-keeps x o _ (subst (AllByRecursion (λ r. holds bd r x ≡ true)) (sym (posted-is fault run g s)) kept.rules))).1

  pub mixes : Mixes fault holds run bd start
  mixes = record {
    order = λ p q g h ae ar. mix-alone p g
        ∙ answer-alike (Kept bd) (Fewer bd some) (size bd) (ordered bd some) (narrow bd) (asked fault run bd) cuts runs (entry-firm bd some) _ _ _ _ start k ae ar
        ∙ sym (mix-alone q h);
    never_lost = kept-so-far;
    kept_to_the_end = λ p g x o i kept.
        let rs = posted fault run g (from_places p) in
        subst (In bd x) (sym (last-settle p g))
        (settled-holds {E = Entry} (size bd) (narrow bd) (asked fault run bd) (λ b. Kept bd b × In bd x b) (map (asked fault run bd) rs)
        (all-to-map (λ f. (b : Box) → Kept bd b × In bd x b → Kept bd (f b) × In bd x (f b)) (asked fault run bd) rs (rule-keeps x o rs kept.rules))
        _ (mix-kept p g, kept-so-far p g x o i kept)).1;
    lone = λ p g x only.
        let s = from_places p in
        let e = mix-alone p g in
        let es = entered fault run g s in
        let rs = posted fault run g s in
        let b = alone es rs in
        let only' : Only bd b x = subst (λ t. Only bd t x) e only in
        let kn = narrowed-good (Kept bd) (Fewer bd some) (size bd) (ordered bd some) (narrow bd) (asked fault run bd) cuts runs (entry-firm bd some) es start k in
        let w = settle_is (Kept bd) (Fewer bd some) (size bd) (ordered bd some) (narrow bd) (asked fault run bd) cuts runs (entry-firm bd some) rs (narrowed (narrow bd) es start) kn in
        let parts = narrowed-parts (Kept bd) (Fewer bd some) (size bd) (ordered bd some) (narrow bd) (asked fault run bd) cuts runs (entry-firm bd some) es start b k w.good w.inside in
        record {
          entries = entry_kept b w.good x only' es (entered-placed fault run g s) parts.1;
          rules = rule-kept b w.good x only' rs (posted-fit fault run g s) (all_of_map (λ f. f b ≡ b) (asked fault run bd) rs w.still);
        };
  }

pub mixes-stand : {R : Type 0} {fault : Board → R → ℕ} {holds : Board → R → Layout → Bool} {run : Board → R → Box → Box} → Lawful fault holds run → MixesStand fault holds run
mixes-stand lawful bd some start k = mixes lawful bd some start k
