-- What entries, posts and settlings in any order come to, over any order of boxes. Assumes nothing.
-- what changes a plan: an accepted entry, an accepted rule, a settling of the rules so far
use Rattle.std.proofs.Common.{◌≡◌, ℕ, zero, suc, true, false, ltb, List, [], ◌∷◌, ◌++◌, map, subst}
use Rattle.std.specs.List.{AllByRecursion}
use Rattle.std.proofs.ByRecursion.{All-push}
use Rattle.model.specs.Box.{size}
use Rattle.model.specs.Calls.{Alike}
use Rattle.model.specs.Entries.{narrow, narrowed}
use Rattle.model.specs.Settled.{round, rounds, settled_by}
use Rattle.model.proofs.Lists.{alike-sym, all_alike, all-every, all_of_map, all-to-map}
use Rattle.model.proofs.Rounds.{Ordered, Runs, Settled, settled_is, settled-one}

pub data Step (E R : Type 0) : Type 0 where
  entering : E → Step E R
  posting : R → Step E R
  resettling : Step E R

abbrev pub entries_of : {E R : Type 0} → List (Step E R) → List E
entries_of [] = []
entries_of (entering e ∷ s) = e ∷ entries_of s
entries_of (posting r ∷ s) = entries_of s
entries_of (resettling ∷ s) = entries_of s

abbrev pub posted_of : {E R : Type 0} → List (Step E R) → List R
posted_of [] = []
posted_of (entering e ∷ s) = posted_of s
posted_of (posting r ∷ s) = r ∷ posted_of s
posted_of (resettling ∷ s) = posted_of s

-- the box after steps that began with rules rs and box b
abbrev pub walked : {B E R : Type 0} → (B → ℕ) → (E → B → B) → (R → B → B) → List (Step E R) → List R → B → B
walked size narrow run [] rs b = b
walked size narrow run (entering e ∷ s) rs b = walked size narrow run s rs (narrow e b)
walked size narrow run (posting r ∷ s) rs b = walked size narrow run s (rs ++ (r ∷ [])) b
walked size narrow run (resettling ∷ s) rs b = walked size narrow run s rs (settled_by size (map run rs) b)

module _ {B E R : Type 0} (Good : B → Type 0) (Sub : B → B → Type 0) (size : B → ℕ) (ord : Ordered Good Sub size)
    (narrow : E → B → B) (run : R → B → B)
    (narrows : (e : E) → Runs Good Sub (narrow e)) (runs : (r : R) → Runs Good Sub (run r))
    (firm : (e : E) (a b : B) → Good a → Good b → Sub a (narrow e b) → narrow e a ≡ a) where
  all-run : (rs : List R) → AllByRecursion (Runs Good Sub) (map run rs)
  all-run rs = all-to-map (Runs Good Sub) run rs (all-every (λ r. Runs Good Sub (run r)) runs rs)

  abbrev Fixed : List R → B → Type 0
  Fixed rs t = AllByRecursion (λ r. run r t ≡ t) rs

  abbrev Firm : List E → B → Type 0
  Firm es t = AllByRecursion (λ e. narrow e t ≡ t) es

  pub settle_is : (rs : List R) (b : B) → Good b → Settled Good Sub (map run rs) b (settled_by size (map run rs) b)
  settle_is rs b g = settled_is Good Sub size ord (map run rs) (all-run rs) b g

  pub after-good : (s : List (Step E R)) (rs : List R) (b : B) → Good b → Good (walked size narrow run s rs b)
  after-good [] rs b g = g
  after-good (entering e ∷ s) rs b g = after-good s rs (narrow e b) ((narrows e).good b g)
  after-good (posting r ∷ s) rs b g = after-good s (rs ++ (r ∷ [])) b g
  after-good (resettling ∷ s) rs b g = after-good s rs (settled_by size (map run rs) b) (settle_is rs b g).good

  pub narrowed-good : (es : List E) (b : B) → Good b → Good (narrowed narrow es b)
  narrowed-good [] b g = g
  narrowed-good (e ∷ es) b g = narrowed-good es (narrow e b) ((narrows e).good b g)

  -- the box is always inside what the entries alone leave
  pub after-inside : (s : List (Step E R)) (rs : List R) (b c : B) → Good b → Good c → Sub b c
      → Sub (walked size narrow run s rs b) (narrowed narrow (entries_of s) c)
  after-inside [] rs b c g k i = i
  after-inside (entering e ∷ s) rs b c g k i =
      after-inside s rs (narrow e b) (narrow e c) ((narrows e).good b g) ((narrows e).good c k) ((narrows e).mono b c g k i)
  after-inside (posting r ∷ s) rs b c g k i = after-inside s (rs ++ (r ∷ [])) b c g k i
  after-inside (resettling ∷ s) rs b c g k i =
      let h = settle_is rs b g in
      after-inside s rs (settled_by size (map run rs) b) c h.good k (ord.chain _ b _ h.inside i)

  -- a box that no entry and no rule of the history changes stays inside
  after-keeps : (s : List (Step E R)) (rs : List R) (b t : B) → Good b → Good t → Sub t b → Fixed rs t → Fixed (posted_of s) t → Firm (entries_of s) t
      → Sub t (walked size narrow run s rs b)
  after-keeps [] rs b t g k i fx fp fe = i
  after-keeps (entering e ∷ s) rs b t g k i fx fp fe =
      after-keeps s rs (narrow e b) t ((narrows e).good b g) k (subst (λ x. Sub x (narrow e b)) fe.0 ((narrows e).mono t b k g i)) fx fp fe.1
  after-keeps (posting r ∷ s) rs b t g k i fx fp fe = after-keeps s (rs ++ (r ∷ [])) b t g k i (All-push (λ q. run q t ≡ t) rs r fx fp.0) fp.1 fe
  after-keeps (resettling ∷ s) rs b t g k i fx fp fe =
      let h = settle_is rs b g in
      after-keeps s rs (settled_by size (map run rs) b) t h.good k (h.largest t k i (all-to-map (λ f. f t ≡ t) run rs fx)) fx fp fe

  -- inside the narrowed box: inside the box, and no entry changes it
  pub narrowed-parts : (es : List E) (b t : B) → Good b → Good t → Sub t (narrowed narrow es b) → Sub t b × Firm es t
  narrowed-parts [] b t g k i = (i, tt)
  narrowed-parts (e ∷ es) b t g k i =
      let h = narrowed-parts es (narrow e b) t ((narrows e).good b g) k i in
      (ord.chain _ (narrow e b) _ h.0 ((narrows e).shrinks b g), (firm e t b k g h.0, h.1))

  narrowed-from : (es : List E) (b t : B) → Good b → Good t → Sub t b → Firm es t → Sub t (narrowed narrow es b)
  narrowed-from [] b t g k i f = i
  narrowed-from (e ∷ es) b t g k i f =
      narrowed-from es (narrow e b) t ((narrows e).good b g) k (subst (λ x. Sub x (narrow e b)) f.0 ((narrows e).mono t b k g i)) f.1

  -- a settle after the steps comes to what the entries and the rules alone come to
  pub history-is : (s : List (Step E R)) (start : B) → Good start
      → settled_by size (map run (posted_of s)) (walked size narrow run s [] start) ≡ settled_by size (map run (posted_of s)) (narrowed narrow (entries_of s) start)
  history-is s start g =
      let b = walked size narrow run s [] start in
      let h = settle_is (posted_of s) b (after-good s [] start g) in
      settled-one Good Sub size ord (map run (posted_of s)) (narrowed narrow (entries_of s) start) _ _
      (record {
        good = h.good;
        inside = ord.chain _ b _ h.inside (after-inside s [] start start g g (ord.itself start));
        still = h.still;
        largest = λ t k i fx.
            let p = narrowed-parts (entries_of s) start t g k i in
            h.largest t k (after-keeps s [] start t g k p.0 tt (all_of_map (λ f. f t ≡ t) run (posted_of s) fx) p.1) fx;
      })
      (settle_is (posted_of s) (narrowed narrow (entries_of s) start) (narrowed-good (entries_of s) start g))

  -- which entries and which rules, and nothing else, decide it
  pub answer-alike : (es fs : List E) (rs qs : List R) (start : B) → Good start → Alike es fs → Alike rs qs
      → settled_by size (map run rs) (narrowed narrow es start) ≡ settled_by size (map run qs) (narrowed narrow fs start)
  answer-alike es fs rs qs start g ae ar =
      let h = settle_is rs (narrowed narrow es start) (narrowed-good es start g) in
      let move : (es fs : List E) (t : B) → Good t → Alike es fs → Sub t (narrowed narrow es start) → Sub t (narrowed narrow fs start) =
      λ es fs t k a i. let p = narrowed-parts es start t g k i in narrowed-from fs start t g k p.0 (all_alike (λ e. narrow e t ≡ t) es fs a p.1) in
      let fix : (rs qs : List R) (t : B) → Alike rs qs → AllByRecursion (λ f. f t ≡ t) (map run rs) → AllByRecursion (λ f. f t ≡ t) (map run qs) =
      λ rs qs t a f. all-to-map (λ f. f t ≡ t) run qs (all_alike (λ r. run r t ≡ t) rs qs a (all_of_map (λ f. f t ≡ t) run rs f)) in
      settled-one Good Sub size ord (map run qs) (narrowed narrow fs start) _ _
      (record {
        good = h.good;
        inside = move es fs _ h.good ae h.inside;
        still = fix rs qs _ ar h.still;
        largest = λ t k i fx. h.largest t k (move fs es t k (alike-sym es fs ae) i) (fix qs rs t (alike-sym rs qs ar) fx);
      })
      (settle_is qs (narrowed narrow fs start) (narrowed-good fs start g))

-- what a property that every step keeps comes to: a layout that keeps all entries and rules is never struck
module _ {B E R : Type 0} (size : B → ℕ) (narrow : E → B → B) (run : R → B → B) (P : B → Type 0) where
  round-holds : (rs : List (B → B)) → AllByRecursion (λ r. (b : B) → P b → P (r b)) rs → (b : B) → P b → P (round rs b)
  unfolding round
  round-holds [] h b p = p
  round-holds (r ∷ rs) h b p = round-holds rs h.1 (r b) (h.0 b p)

  rounds-holds : (rs : List (B → B)) → AllByRecursion (λ r. (b : B) → P b → P (r b)) rs → (f : ℕ) (b : B) → P b → P (rounds size rs f b)
  unfolding rounds
  rounds-holds rs h zero b p = p
  rounds-holds rs h (suc f) b p =
      elim (ltb (size (round rs b)) (size b)) as (λ t. P (elim t [ true ↦ rounds size rs f (round rs b) | false ↦ b ]))
      [ true ↦ rounds-holds rs h f (round rs b) (round-holds rs h b p) | false ↦ p ]

  pub settled-holds : (rs : List (B → B)) → AllByRecursion (λ r. (b : B) → P b → P (r b)) rs → (b : B) → P b → P (settled_by size rs b)
  unfolding settled_by
  settled-holds rs h b p = rounds-holds rs h (size b) b p

  pub history-holds : (s : List (Step E R)) (rs : List R) (b : B) → P b
      → AllByRecursion (λ e. (b : B) → P b → P (narrow e b)) (entries_of s)
      → AllByRecursion (λ r. (b : B) → P b → P (run r b)) rs
      → AllByRecursion (λ r. (b : B) → P b → P (run r b)) (posted_of s) → P (walked size narrow run s rs b)
  history-holds [] rs b p he hr hp = p
  history-holds (entering e ∷ s) rs b p he hr hp = history-holds s rs (narrow e b) (he.0 b p) he.1 hr hp
  history-holds (posting r ∷ s) rs b p he hr hp = history-holds s (rs ++ (r ∷ [])) b p he (All-push (λ q. (b : B) → P b → P (run q b)) rs r hr hp.0) hp.1
  history-holds (resettling ∷ s) rs b p he hr hp =
      history-holds s rs (settled_by size (map run rs) b) (settled-holds (map run rs) (all-to-map (λ f. (b : B) → P b → P (f b)) run rs hr) b p) he hr hp
