-- A rule that holds where all of some rules hold, and runs by settling them, has their laws. Assumes nothing.
use Rattle.std.proofs.Common.{◌≡◌, ℕ, ◌<◌, Bool, true, false, ◌⊎◌, List, [], ◌∷◌, map, refl, ap, ◌∙◌, subst, ap₂, inl, inr}
use Rattle.std.specs.List.{AllByRecursion}
use Rattle.std.proofs.lemmas.Bool.{both_ways, cases_Bool}
use Rattle.model.specs.Board.{Board}
use Rattle.model.specs.Box.{Box, In, Kept, choice, dead, size}
use Rattle.model.specs.Calls.{Mem}
use Rattle.model.specs.Laws.{Laws, Narrows, Rests, asked, fits}
use Rattle.model.specs.Layout.{Layout}
use Rattle.model.specs.Settled.{Largest, settled}
use Rattle.model.proofs.Asked.{asked-fits, narrows-of}
use Rattle.model.proofs.Boxes.{dead-choice}
use Rattle.model.proofs.Lists.{all-mem, all_of_map, all-to-map, mem-all}
use Rattle.model.proofs.Steps.{settled-holds}
use Rattle.model.proofs.Tight.{from, no-choice, ordering, settling}

-- ---- what a list of runs settles to, where each has its laws

module _ {Q : Type 0} (bd : Board) (some : 0 < bd.sensors) (holds : Q → Layout → Bool) (run : Q → Box → Box)
    (qs : List Q) (laws : AllByRecursion (λ q. Laws bd (holds q) (run q)) qs) where
  law : (q : Q) → Mem q qs → Laws bd (holds q) (run q)
  law = all-mem (λ q. Laws bd (holds q) (run q)) qs laws

  all-narrow : AllByRecursion (Narrows bd) (map run qs)
  all-narrow = all-to-map (Narrows bd) run qs (mem-all (λ q. Narrows bd (run q)) qs (λ q m. narrows-of bd (holds q) (run q) (law q m)))

  rest : (b : Box) → Kept bd b → Largest bd (map run qs) b (settled bd (map run qs) b)
  rest b k = (settling bd some).made (map run qs) all-narrow b k

  -- a box that no run changes is its own settled box
  still-settled : (b : Box) → Kept bd b → AllByRecursion (λ r. r b ≡ b) (map run qs) → settled bd (map run qs) b ≡ b
  still-settled b k h =
      let s = rest b k in
      (ordering bd some).one _ b s.kept k s.inside (s.largest b k ((ordering bd some).itself b k) h)

  -- and a settled box one that no run changes
  pub each-still : (b : Box) → Kept bd b → settled bd (map run qs) b ≡ b → (q : Q) → Mem q qs → run q b ≡ b
  each-still b k e q m = all-mem (λ q. run q b ≡ b) qs (all_of_map (λ r. r b ≡ b) run qs (subst (λ c. AllByRecursion (λ r. r c ≡ c) (map run qs)) e (rest b k).still)) q m

  pub bundle-rests : Rests bd (settled bd (map run qs))
  bundle-rests b k = let s = rest b k in still-settled _ s.kept s.still

  each-or-one : (x : Layout) (ps : List Q) → AllByRecursion (λ q. holds q x ≡ true) ps ⊎ ((q : Q) × Mem q ps × (holds q x ≡ false))
  each-or-one x [] = inl tt
  each-or-one x (p ∷ ps) = elim (cases_Bool (holds p x)) [
    | inl h ↦ elim (each-or-one x ps) [ inl a ↦ inl (h, a) | inr o ↦ inr (o.0, inr o.1, o.2) ]
    | inr h ↦ inr (p, inl refl, h)
  ]

  -- ---- the rule of them all

  module _ (whole : Layout → Bool) (Whole-each : (x : Layout) → whole x ≡ true → AllByRecursion (λ q. holds q x ≡ true) qs)
      (each-whole : (x : Layout) → AllByRecursion (λ q. holds q x ≡ true) qs → whole x ≡ true) where
    pub bundle-laws : Laws bd whole (settled bd (map run qs))
    bundle-laws = record {
      kept = λ b k. (rest b k).kept;
      shrinks = λ b k. (rest b k).inside;
      keeps_supports = λ b k x o i h.
          (settled-holds {E = Q} {R = Q} (size bd) (λ e b. b) run (λ b. Kept bd b × In bd x b) (map run qs)
          (all-to-map (λ (r : Box → Box). (b : Box) → Kept bd b × In bd x b → Kept bd (r b) × In bd x (r b)) run qs
          (mem-all (λ q. (b : Box) → Kept bd b × In bd x b → Kept bd (run q b) × In bd x (run q b)) qs
          (λ q m b p. ((law q m).kept b p.0, (law q m).keeps_supports b p.0 x o p.1 (all-mem (λ q. holds q x ≡ true) qs (Whole-each x h) q m)))))
          b (k, i)).1;
      monotone = λ a b ka kb i.
          let s = rest a ka in
          (rest b kb).largest _ s.kept ((ordering bd some).chain _ a b s.kept ka kb s.inside i) s.still;
      stays = λ b k x f h. still-settled b k (all-to-map (λ r. r b ≡ b) run qs (mem-all (λ q. run q b ≡ b) qs (λ q m. (law q m).stays b k x f (all-mem (λ q. holds q x ≡ true) qs (Whole-each x h) q m))));
      dies = λ b k x f h. elim (each-or-one x qs) [
        | inl a ↦ absurd (both_ways _ h (each-whole x a))
        | inr w ↦ gone b k w.0 w.1 ((law w.0 w.1).dies b k x f w.2)
      ];
    }
      where
        gone : (b : Box) → Kept bd b → (q : Q) → Mem q qs → run q b ≡ dead bd → settled bd (map run qs) b ≡ dead bd
        gone b k q m d =
            let s = rest b k in
            let l = law q m in
            let fixed = each-still _ s.kept (still-settled _ s.kept s.still) q m in
            no-choice bd some _ s.kept (λ c e.
            both_ways _ (dead-choice bd some (run q b) d c)
            (from bd some _ (run q b) (l.kept _ s.kept) (l.kept b k) (l.monotone _ b s.kept k s.inside) c (ap (λ y. choice bd y c) fixed ∙ e)))

-- rules that all fit are asked in vain
pub asked-all : {R : Type 0} (fault : Board → R → ℕ) (run : Board → R → Box → Box) (bd : Board) (rs : List R) → AllByRecursion (λ r. fits fault bd r ≡ true) rs
    → map (asked fault run bd) rs ≡ map (run bd) rs
asked-all fault run bd [] h = refl
asked-all fault run bd (r ∷ rs) h =
    let e : asked fault run bd r ≡ run bd r = λ i b. asked-fits fault run bd r b h.0 i in
    ap₂ (λ f fs. f ∷ fs) e (asked-all fault run bd rs h.1)
