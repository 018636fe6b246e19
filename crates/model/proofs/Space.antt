-- The laws of the tight box, over any boxes, layouts and choices. Assumes nothing.
-- what is asked of boxes, layouts and choices
use Rattle.std.proofs.Common.{◌≡◌, Bool, true, false, List, sym, refl, ap, ◌∙◌}
use Rattle.std.specs.List.{AllByRecursion}
use Rattle.std.proofs.lemmas.Bool.{both_ways}
use Rattle.model.specs.Calls.{Mem}
use Rattle.model.specs.Tight.{keep}
use Rattle.model.proofs.Lists.{all_keep, any, any-mem, any_some, keep-mem, mem-keep}

pub record Space {B L C : Type 0} (choice : B → C → Bool) (uses : L → C → Bool) (Good : B → Type 0) (On : L → Type 0)
    (layouts : B → List L) (hull : List L → B) : Type 0 where
  pub lay-on : (b : B) → Good b → (x : L) → Mem x (layouts b) → On x
  pub lay-in : (b : B) → Good b → (x : L) → Mem x (layouts b) → (c : C) → uses x c ≡ true → choice b c ≡ true
  pub lay-all : (b : B) → Good b → (x : L) → On x → ((c : C) → uses x c ≡ true → choice b c ≡ true) → Mem x (layouts b)
  pub lay-each : (b : B) → Good b → (c : C) → choice b c ≡ true → (x : L) × Mem x (layouts b) × (uses x c ≡ true)
  pub hull-has : (xs : List L) → AllByRecursion On xs → (c : C) → choice (hull xs) c ≡ any (λ x. uses x c) xs
  pub hull-good : (xs : List L) → AllByRecursion On xs → Good (hull xs)
  pub one : (a b : B) → Good a → Good b → ((c : C) → choice a c ≡ choice b c) → a ≡ b

module _ {B L C : Type 0} (choice : B → C → Bool) (uses : L → C → Bool) (Good : B → Type 0) (On : L → Type 0)
    (layouts : B → List L) (hull : List L → B) (sp : Space choice uses Good On layouts hull) where
  abbrev pub Sub : B → B → Type 0
  Sub a b = (c : C) → choice a c ≡ true → choice b c ≡ true

  same_bool : (x y : Bool) → (x ≡ true → y ≡ true) → (y ≡ true → x ≡ true) → x ≡ y
  same_bool true y f g = sym (f refl)
  same_bool false true f g = g refl
  same_bool false false f g = refl

  pub sub-one : (a b : B) → Good a → Good b → Sub a b → Sub b a → a ≡ b
  sub-one a b ga gb p q = sp.one a b ga gb (λ c. same_bool (choice a c) (choice b c) (p c) (q c))

  module _ (holds : L → Bool) where
    abbrev tightly : B → B
    tightly b = hull (keep holds (layouts b))

    supports-on : (b : B) → Good b → AllByRecursion On (keep holds (layouts b))
    supports-on b g = all_keep On holds (layouts b) (λ x m. sp.lay-on b g x m)

    pub tight-good : (b : B) → Good b → Good (tightly b)
    tight-good b g = sp.hull-good (keep holds (layouts b)) (supports-on b g)

    -- a choice is in the tight box iff some support uses it
    pub tight-some : (b : B) → Good b → (c : C) → choice (tightly b) c ≡ true → (x : L) × Mem x (layouts b) × (holds x ≡ true) × (uses x c ≡ true)
    tight-some b g c e =
        let h = any_some (λ x. uses x c) (keep holds (layouts b)) (sym (sp.hull-has _ (supports-on b g) c) ∙ e) in
        let k = keep-mem holds (layouts b) h.0 h.1 in
        (h.0, k.0, k.1, h.2)

    pub some-tight : (b : B) → Good b → (c : C) (x : L) → Mem x (layouts b) → holds x ≡ true → uses x c ≡ true → choice (tightly b) c ≡ true
    some-tight b g c x m h u =
        sp.hull-has _ (supports-on b g) c ∙ any-mem (λ x. uses x c) _ x (mem-keep holds (layouts b) x m h) u

    -- shrinks
    pub tight-inside : (b : B) → Good b → Sub (tightly b) b
    tight-inside b g c e = let h = tight-some b g c e in sp.lay-in b g h.0 h.1 c h.3

    -- keeps supports
    pub tight-keeps : (b : B) → Good b → (x : L) → Mem x (layouts b) → holds x ≡ true → Mem x (layouts (tightly b))
    tight-keeps b g x m h = sp.lay-all (tightly b) (tight-good b g) x (sp.lay-on b g x m) (λ c u. some-tight b g c x m h u)

    -- monotone
    pub tight-mono : (a b : B) → Good a → Good b → Sub a b → Sub (tightly a) (tightly b)
    tight-mono a b ga gb i c e =
        let h = tight-some a ga c e in
        some-tight b gb c h.0 (sp.lay-all b gb h.0 (sp.lay-on a ga h.0 h.1) (λ d u. i d (sp.lay-in a ga h.0 h.1 d u))) h.2 h.3

    -- decides a single layout: the box has the one layout x
    pub tight-stays : (b : B) → Good b → (x : L) → Mem x (layouts b) → ((y : L) → Mem y (layouts b) → y ≡ x) → holds x ≡ true → tightly b ≡ b
    tight-stays b g x m only h =
        sub-one (tightly b) b (tight-good b g) g (tight-inside b g)
        (λ c e. let k = sp.lay-each b g c e in some-tight b g c x m h (ap (λ y. uses y c) (sym (only k.0 k.1)) ∙ k.2))

    pub tight-dies : (b : B) → Good b → (x : L) → ((y : L) → Mem y (layouts b) → y ≡ x) → holds x ≡ false → (c : C) → choice (tightly b) c ≡ true → ⊥
    tight-dies b g x only h c e = let k = tight-some b g c e in both_ways (holds x) h (ap holds (sym (only k.0 k.1)) ∙ k.2)

    -- at rest
    pub tight-again : (b : B) → Good b → tightly (tightly b) ≡ tightly b
    tight-again b g =
        let gt = tight-good b g in
        sub-one _ _ (tight-good (tightly b) gt) gt (tight-inside (tightly b) gt)
        (λ c e. let h = tight-some b g c e in some-tight (tightly b) gt c h.0 (tight-keeps b g h.0 h.1 h.2) h.2 h.3)
