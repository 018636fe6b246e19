-- The settled box over any order of boxes: rounds come to the largest box that no run changes. Assumes nothing.
-- boxes with an order, and a size that falls with it
use Rattle.std.proofs.Common.{◌≡◌, ℕ, zero, suc, ◌<◌, ◌≤◌, Bool, true, false, ltb, ◌⊎◌, List, [], ◌∷◌, sym, refl, subst, inl, inr, arith}
use Rattle.std.specs.List.{AllByRecursion}
use Rattle.std.proofs.lemmas.Bool.{ltb-true, ltb-false}
use Rattle.model.specs.Laws.{fits}
use Rattle.model.specs.Settled.{round, rounds, settled_by}

pub record Ordered {B : Type 0} (Good : B → Type 0) (Sub : B → B → Type 0) (size : B → ℕ) : Type 0 where
  pub itself : (a : B) → Sub a a
  pub chain : (a b c : B) → Sub a b → Sub b c → Sub a c
  pub one : (a b : B) → Good a → Good b → Sub a b → Sub b a → a ≡ b
  pub smaller : (a b : B) → Good a → Good b → Sub a b → (size a < size b) ⊎ (a ≡ b)

-- shrinks and monotone, on good boxes
pub record Runs {B : Type 0} (Good : B → Type 0) (Sub : B → B → Type 0) (r : B → B) : Type 0 where
  pub good : (b : B) → Good b → Good (r b)
  pub shrinks : (b : B) → Good b → Sub (r b) b
  pub mono : (a b : B) → Good a → Good b → Sub a b → Sub (r a) (r b)

pub record Settled {B : Type 0} (Good : B → Type 0) (Sub : B → B → Type 0) (rs : List (B → B)) (b s : B) : Type 0 where
  pub good : Good s
  pub inside : Sub s b
  pub still : AllByRecursion (λ r. r s ≡ s) rs
  pub largest : (t : B) → Good t → Sub t b → AllByRecursion (λ r. r t ≡ t) rs → Sub t s

module _ {B : Type 0} (Good : B → Type 0) (Sub : B → B → Type 0) (size : B → ℕ) (ord : Ordered Good Sub size) where
  pub round-good : (rs : List (B → B)) → AllByRecursion (Runs Good Sub) rs → (b : B) → Good b → Good (round rs b)
  unfolding round
  round-good [] h b g = g
  round-good (r ∷ rs) h b g = round-good rs h.1 (r b) (h.0.good b g)

  pub round-inside : (rs : List (B → B)) → AllByRecursion (Runs Good Sub) rs → (b : B) → Good b → Sub (round rs b) b
  unfolding round
  round-inside [] h b g = ord.itself b
  round-inside (r ∷ rs) h b g =
      ord.chain _ (r b) _ (round-inside rs h.1 (r b) (h.0.good b g)) (h.0.shrinks b g)

  -- a box that no run changes, and is inside b, is inside what a round makes of b
  pub round_keeps : (rs : List (B → B)) → AllByRecursion (Runs Good Sub) rs → (t b : B) → Good t → Good b → Sub t b → AllByRecursion (λ r. r t ≡ t) rs → Sub t (round rs b)
  unfolding round
  round_keeps [] h t b gt gb i fix = i
  round_keeps (r ∷ rs) h t b gt gb i fix =
      round_keeps rs h.1 t (r b) gt (h.0.good b gb) (subst (λ x. Sub x (r b)) fix.0 (h.0.mono t b gt gb i)) fix.1

  -- a round that changes nothing has no run that does
  pub round-still : (rs : List (B → B)) → AllByRecursion (Runs Good Sub) rs → (b : B) → Good b → Sub b (round rs b) → AllByRecursion (λ r. r b ≡ b) rs
  unfolding round
  round-still [] h b g i = tt
  round-still (r ∷ rs) h b g i =
      let gr = h.0.good b g in
      let e : r b ≡ b = ord.one (r b) b gr g (h.0.shrinks b g) (ord.chain _ (round rs (r b)) _ i (round-inside rs h.1 (r b) gr)) in
      (e, round-still rs h.1 b g (subst (λ x. Sub b (round rs x)) e i))

  pub rounds-settle : (rs : List (B → B)) → AllByRecursion (Runs Good Sub) rs → (f : ℕ) (b : B) → Good b → size b ≤ f → Settled Good Sub rs b (rounds size rs f b)
  unfolding rounds
  rounds-settle rs h zero b g fits =
      let inside = round-inside rs h b g in
      let same : round rs b ≡ b = elim (ord.smaller (round rs b) b (round-good rs h b g) g inside) [ inl l ↦ absurd (omega arith) | inr e ↦ e ] in
      record {
        good = g;
        inside = ord.itself b;
        still = round-still rs h b g (subst (λ x. Sub b x) (sym same) (ord.itself b));
        largest = λ t gt i fix. i;
      }
  rounds-settle rs h (suc f) b g fits = go (ltb (size (round rs b)) (size b)) refl (rounds-settle rs h f (round rs b) (round-good rs h b g))
    where
      inside : Sub (round rs b) b
      inside = round-inside rs h b g

      go : (t : Bool) → ltb (size (round rs b)) (size b) ≡ t
          → (size (round rs b) ≤ f → Settled Good Sub rs (round rs b) (rounds size rs f (round rs b)))
          → Settled Good Sub rs b (elim t [ true ↦ rounds size rs f (round rs b) | false ↦ b ])
      go true e again =
          let less = ltb-true (size (round rs b)) (size b) e in
          let s = again (omega arith) in
          record {
            good = s.good;
            inside = ord.chain _ (round rs b) _ s.inside inside;
            still = s.still;
            largest = λ t gt i fix. s.largest t gt (round_keeps rs h t b gt g i fix) fix;
          }
      go false e again =
          let less = ltb-false (size (round rs b)) (size b) e in
          let same : round rs b ≡ b = elim (ord.smaller (round rs b) b (round-good rs h b g) g inside) [ inl l ↦ absurd (omega arith) | inr e ↦ e ] in
          record {
            good = g;
            inside = ord.itself b;
            still = round-still rs h b g (subst (λ x. Sub b x) (sym same) (ord.itself b));
            largest = λ t gt i fix. i;
          }

  pub settled_is : (rs : List (B → B)) → AllByRecursion (Runs Good Sub) rs → (b : B) → Good b → Settled Good Sub rs b (settled_by size rs b)
  unfolding settled_by
  settled_is rs h b g = rounds-settle rs h (size b) b g (omega arith)

  pub settled-one : (rs : List (B → B)) (b s t : B) → Settled Good Sub rs b s → Settled Good Sub rs b t → s ≡ t
  settled-one rs b s t p q =
      ord.one s t p.good q.good (q.largest s p.good p.inside p.still) (p.largest t q.good q.inside q.still)
