-- Members of lists, lists made from a function of the place, and unions of masks. Assumes nothing.
use Rattle.std.proofs.Common.{◌≡◌, ℕ, zero, suc, ◌^◌, ◌<◌, Bool, true, false, not, ◌&&◌, ◌||◌, ◌⊎◌, List, [], ◌∷◌, ◌++◌, map, length, get_or, sym, refl, ap, ◌∙◌, subst, inl, inr, arith, pow_pos}
use lib.Bits.{and_le_l, or_lt}
use Rattle.std.specs.List.{AllByRecursion}
use Rattle.std.proofs.lemmas.Bool.{both_ways, and_parts, cases_eq, and_from, or_cases, or_left, or_right}
use Rattle.masks.specs.Masks.{has}
use Rattle.masks.proofs.Masks.{has-and, has-or, has-zero}
use Rattle.model.specs.Box.{every, tab}
use Rattle.model.specs.Calls.{Alike, Mem}
use Rattle.model.specs.Layout.{Layout, layout}
use Rattle.model.specs.Tight.{before, below, choose, keep, pairs, shared, union}

pub all-mem : {X : Type 0} (P : X → Type 0) (xs : List X) → AllByRecursion P xs → (x : X) → Mem x xs → P x
all-mem P [] a x m = absurd m
all-mem P (y ∷ ys) a x m = elim m [ inl e ↦ subst P (sym e) a.0 | inr n ↦ all-mem P ys a.1 x n ]

pub mem-all : {X : Type 0} (P : X → Type 0) (xs : List X) → ((x : X) → Mem x xs → P x) → AllByRecursion P xs
mem-all P [] f = tt
mem-all P (y ∷ ys) f = (f y (inl refl), mem-all P ys (λ x m. f x (inr m)))

pub all_alike : {X : Type 0} (P : X → Type 0) (xs ys : List X) → Alike xs ys → AllByRecursion P xs → AllByRecursion P ys
all_alike P xs ys s a = mem-all P ys (λ x m. all-mem P xs a x (s.back x m))

pub alike-sym : {X : Type 0} (xs ys : List X) → Alike xs ys → Alike ys xs
alike-sym xs ys s = record { there = s.back; back = s.there }

pub all_of_map : {X Y : Type 0} (P : Y → Type 0) (f : X → Y) (xs : List X) → AllByRecursion P (map f xs) → AllByRecursion (λ x. P (f x)) xs
all_of_map P f [] a = tt
all_of_map P f (x ∷ xs) a = (a.0, all_of_map P f xs a.1)

pub all-to-map : {X Y : Type 0} (P : Y → Type 0) (f : X → Y) (xs : List X) → AllByRecursion (λ x. P (f x)) xs → AllByRecursion P (map f xs)
all-to-map P f [] a = tt
all-to-map P f (x ∷ xs) a = (a.0, all-to-map P f xs a.1)

pub all-every : {X : Type 0} (P : X → Type 0) → ((x : X) → P x) → (xs : List X) → AllByRecursion P xs
all-every P f [] = tt
all-every P f (x ∷ xs) = (f x, all-every P f xs)

abbrev pub any : {X : Type 0} → (X → Bool) → List X → Bool
any p [] = false
any p (x ∷ xs) = p x || any p xs

pub any-mem : {X : Type 0} (p : X → Bool) (xs : List X) (x : X) → Mem x xs → p x ≡ true → any p xs ≡ true
any-mem p [] x m e = absurd m
any-mem p (y ∷ ys) x m e =
    elim m [ inl q ↦ or_left (p y) (any p ys) (ap p (sym q) ∙ e) | inr n ↦ or_right (p y) (any p ys) (any-mem p ys x n e) ]

pub any_some : {X : Type 0} (p : X → Bool) (xs : List X) → any p xs ≡ true → (x : X) × Mem x xs × (p x ≡ true)
any_some p [] e = absurd (mathlib.Core.Bool.false≢true e)
any_some p (y ∷ ys) e = elim (or_cases (p y) (any p ys) e) [
  | inl q ↦ (y, inl refl, q)
  | inr q ↦ let h = any_some p ys q in (h.0, inr h.1, h.2)
]

pub keep-mem : {X : Type 0} (p : X → Bool) (xs : List X) (x : X) → Mem x (keep p xs) → Mem x xs × (p x ≡ true)
unfolding keep
keep-mem p [] x m = absurd m
keep-mem {X} p (y ∷ ys) x m = go (p y) refl m (λ n. keep-mem p ys x n)
  where
    go : (t : Bool) → p y ≡ t → Mem x (elim t [ true ↦ y ∷ keep p ys | false ↦ keep p ys ]) → (Mem x (keep p ys) → Mem x ys × (p x ≡ true)) → Mem x (y ∷ ys) × (p x ≡ true)
    go true e m again = elim m [ inl q ↦ (inl q, ap p q ∙ e) | inr n ↦ (inr (again n).0, (again n).1) ]
    go false e m again = (inr (again m).0, (again m).1)

pub mem-keep : {X : Type 0} (p : X → Bool) (xs : List X) (x : X) → Mem x xs → p x ≡ true → Mem x (keep p xs)
unfolding keep
mem-keep p [] x m e = absurd m
mem-keep {X} p (y ∷ ys) x m e = go (p y) refl m (λ n. mem-keep p ys x n e)
  where
    go : (t : Bool) → p y ≡ t → Mem x (y ∷ ys) → (Mem x ys → Mem x (keep p ys)) → Mem x (elim t [ true ↦ y ∷ keep p ys | false ↦ keep p ys ])
    go true f m again = elim m [ inl q ↦ inl q | inr n ↦ inr (again n) ]
    go false f m again = elim m [ inl q ↦ absurd (both_ways (p y) f (ap p (sym q) ∙ e)) | inr n ↦ again n ]

pub all_keep : {X : Type 0} (P : X → Type 0) (p : X → Bool) (xs : List X) → ((x : X) → Mem x xs → P x) → AllByRecursion P (keep p xs)
unfolding keep
all_keep P p [] f = tt
all_keep {X} P p (y ∷ ys) f = go (p y) (all_keep P p ys (λ x m. f x (inr m)))
  where
    go : (t : Bool) → AllByRecursion P (keep p ys) → AllByRecursion P (elim t [ true ↦ y ∷ keep p ys | false ↦ keep p ys ])
    go true a = (f y (inl refl), a)
    go false a = a

pub every-at : (p : ℕ → Bool) (n : ℕ) → every p n ≡ true → (i : ℕ) → i < n → p i ≡ true
every-at p zero e i h = absurd (omega arith)
every-at p (suc n) e i h =
    let k = and_parts (p n) (every p n) e in
    elim (cases_eq i n) [ inl q ↦ ap p q ∙ k.0 | inr q ↦ every-at p n k.1 i (omega arith) ]

pub every-from : (p : ℕ → Bool) (n : ℕ) → ((i : ℕ) → i < n → p i ≡ true) → every p n ≡ true
every-from p zero f = refl
every-from p (suc n) f = and_from (p n) (every p n) (f n (omega arith)) (every-from p n (λ i h. f i (omega arith)))

pub below-mem : (p : ℕ → Bool) (n i : ℕ) → Mem i (below p n) → (i < n) × (p i ≡ true)
unfolding below
below-mem p zero i m = absurd m
below-mem p (suc n) i m = go (p n) refl m (λ k. below-mem p n i k)
  where
    go : (t : Bool) → p n ≡ t → Mem i (elim t [ true ↦ n ∷ below p n | false ↦ below p n ]) → (Mem i (below p n) → (i < n) × (p i ≡ true)) → (i < suc n) × (p i ≡ true)
    go true e m again = elim m [ inl q ↦ (omega arith, ap p q ∙ e) | inr k ↦ let a = again k in (omega arith, a.1) ]
    go false e m again = let a = again m in (omega arith, a.1)

pub mem_below : (p : ℕ → Bool) (n i : ℕ) → i < n → p i ≡ true → Mem i (below p n)
unfolding below
mem_below p zero i h e = absurd (omega arith)
mem_below p (suc n) i h e = go (p n) refl (cases_eq i n) (λ k. mem_below p n i k e)
  where
    go : (t : Bool) → p n ≡ t → (i ≡ n) ⊎ (i ≡ n → ⊥) → (i < n → Mem i (below p n)) → Mem i (elim t [ true ↦ n ∷ below p n | false ↦ below p n ])
    go true f (inl q) again = inl q
    go true f (inr q) again = inr (again (omega arith))
    go false f (inl q) again = absurd (mathlib.Core.Bool.false≢true (sym f ∙ ap p (sym q) ∙ e))
    go false f (inr q) again = again (omega arith)

pub mem-append : {X : Type 0} (x : X) (xs ys : List X) → Mem x (xs ++ ys) → Mem x xs ⊎ Mem x ys
mem-append x [] ys m = inr m
mem-append x (y ∷ xs) ys m = elim m [ inl e ↦ inl (inl e) | inr n ↦ elim (mem-append x xs ys n) [ inl k ↦ inl (inr k) | inr k ↦ inr k ] ]

pub mem-left : {X : Type 0} (x : X) (xs ys : List X) → Mem x xs → Mem x (xs ++ ys)
mem-left x [] ys m = absurd m
mem-left x (y ∷ xs) ys m = elim m [ inl e ↦ inl e | inr n ↦ inr (mem-left x xs ys n) ]

pub mem-right : {X : Type 0} (x : X) (xs ys : List X) → Mem x ys → Mem x (xs ++ ys)
mem-right x [] ys m = m
mem-right x (y ∷ xs) ys m = inr (mem-right x xs ys m)

pub mem-map : {X Y : Type 0} (f : X → Y) (x : X) (xs : List X) → Mem x xs → Mem (f x) (map f xs)
mem-map f x [] m = absurd m
mem-map f x (y ∷ xs) m = elim m [ inl e ↦ inl (ap f e) | inr n ↦ inr (mem-map f x xs n) ]

pub mem-of-map : {X Y : Type 0} (f : X → Y) (y : Y) (xs : List X) → Mem y (map f xs) → (x : X) × Mem x xs × (y ≡ f x)
mem-of-map f y [] m = absurd m
mem-of-map f y (z ∷ xs) m = elim m [ inl e ↦ (z, inl refl, e) | inr n ↦ let h = mem-of-map f y xs n in (h.0, inr h.1, h.2) ]

pub before-mem : {X : Type 0} (y : List X) (xs : List X) (rest : List (List X)) → Mem y (before xs rest) → (x : X) × (r : List X) × Mem x xs × Mem r rest × (y ≡ x ∷ r)
unfolding before
before-mem y [] rest m = absurd m
before-mem y (x ∷ xs) rest m = elim (mem-append y (map (λ r. x ∷ r) rest) (before xs rest) m) [
  | inl n ↦ let h = mem-of-map (λ r. x ∷ r) y rest n in (x, h.0, inl refl, h.1, h.2)
  | inr n ↦ let h = before-mem y xs rest n in (h.0, h.1, inr h.2, h.3, h.4)
]

pub mem-before : {X : Type 0} (x : X) (r : List X) (xs : List X) (rest : List (List X)) → Mem x xs → Mem r rest → Mem (x ∷ r) (before xs rest)
unfolding before
mem-before x r [] rest m n = absurd m
mem-before x r (y ∷ xs) rest m n = elim m [
  | inl e ↦ mem-left (x ∷ r) _ _ (subst (λ z. Mem (x ∷ r) (map (λ s. z ∷ s) rest)) e (mem-map (λ s. x ∷ s) r rest n))
  | inr k ↦ mem-right (x ∷ r) (map (λ s. y ∷ s) rest) _ (mem-before x r xs rest k n)
]

pub choose-mem : (f : ℕ → List ℕ) (n : ℕ) (xs : List ℕ) → Mem xs (choose f n) → (length xs ≡ n) × ((i : ℕ) → i < n → Mem (get_or xs i 0) (f i))
unfolding choose
choose-mem f zero xs m = elim m [ inl e ↦ (ap length e, λ i h. absurd (omega arith)) | inr n ↦ absurd n ]
choose-mem f (suc n) xs m =
    let h = before-mem xs (f 0) (choose (λ i. f (suc i)) n) m in
    let k = choose-mem (λ i. f (suc i)) n h.1 h.3 in
    let at : (i : ℕ) → i < suc n → Mem (get_or (h.0 ∷ h.1) i 0) (f i) = elim [ zero ↦ λ l. h.2 | suc i ↦ λ l. k.1 i (omega arith) ] in
    (ap length h.4 ∙ ap suc k.0, λ i l. subst (λ ys. Mem (get_or ys i 0) (f i)) (sym h.4) (at i l))

pub mem-choose : (f : ℕ → List ℕ) (n : ℕ) (xs : List ℕ) → length xs ≡ n → ((i : ℕ) → i < n → Mem (get_or xs i 0) (f i)) → Mem xs (choose f n)
unfolding choose
mem-choose f zero [] e h = inl refl
mem-choose f zero (x ∷ xs) e h = absurd (omega arith)
mem-choose f (suc n) [] e h = absurd (omega arith)
mem-choose f (suc n) (x ∷ xs) e h =
    mem-before x xs (f 0) _ (h 0 (omega arith)) (mem-choose (λ i. f (suc i)) n xs (omega arith) (λ i l. h (suc i) (omega arith)))

pub pairs-mem : (l : Layout) (xs ys : List (List ℕ)) → Mem l (pairs xs ys) → Mem l.slot xs × Mem l.members ys
unfolding pairs
pairs-mem l [] ys m = absurd m
pairs-mem l (x ∷ xs) ys m = elim (mem-append l (map (layout x) ys) (pairs xs ys) m) [
  | inl n ↦ let h = mem-of-map (layout x) l ys n in
      (inl (ap (λ k. k.slot) h.2), subst (λ z. Mem z ys) (sym (ap (λ k. k.members) h.2)) h.1)
  | inr n ↦ let h = pairs-mem l xs ys n in (inr h.0, h.1)
]

pub mem-pairs : (s t : List ℕ) (xs ys : List (List ℕ)) → Mem s xs → Mem t ys → Mem (layout s t) (pairs xs ys)
unfolding pairs
mem-pairs s t [] ys m n = absurd m
mem-pairs s t (x ∷ xs) ys m n = elim m [
  | inl e ↦ mem-left _ _ _ (subst (λ z. Mem (layout s t) (map (layout z) ys)) e (mem-map (layout s) t ys n))
  | inr k ↦ mem-right _ (map (layout x) ys) _ (mem-pairs s t xs ys k n)
]

pub tab-length : {X : Type 0} (f : ℕ → X) (n : ℕ) → length (tab f n) ≡ n
unfolding tab
tab-length f zero = refl
tab-length f (suc n) = ap suc (tab-length (λ i. f (suc i)) n)

pub tab-at : {X : Type 0} (f : ℕ → X) (n i : ℕ) (d : X) → i < n → get_or (tab f n) i d ≡ f i
unfolding tab
tab-at f zero i d h = absurd (omega arith)
tab-at f (suc n) zero d h = refl
tab-at f (suc n) (suc i) d h = tab-at (λ i. f (suc i)) n i d (omega arith)

pub union-has : {X : Type 0} (f : X → ℕ) (xs : List X) (i : ℕ) → has (union f xs) i ≡ any (λ x. has (f x) i) xs
unfolding union
union-has f [] i = has-zero i
union-has f (x ∷ xs) i = has-or (f x) (union f xs) i ∙ ap (λ t. has (f x) i || t) (union-has f xs i)

abbrev pub all : {X : Type 0} → (X → Bool) → List X → Bool
all p [] = true
all p (x ∷ xs) = p x && all p xs

pub shared_has : {X : Type 0} (f : X → ℕ) (x : X) (xs : List X) (i : ℕ) → has (shared f (x ∷ xs)) i ≡ all (λ x. has (f x) i) (x ∷ xs)
unfolding shared
shared_has f x [] i = sym (mathlib.Core.Bool.and-true (has (f x) i))
shared_has f x (y ∷ ys) i = has-and (f x) (shared f (y ∷ ys)) i ∙ ap (λ t. has (f x) i && t) (shared_has f y ys i)

pub not-all : {X : Type 0} (p : X → Bool) (xs : List X) → not (all p xs) ≡ any (λ x. not (p x)) xs
not-all p [] = refl
not-all p (x ∷ xs) = elim (p x) as (λ t. not (t && all p xs) ≡ (not t || any (λ x. not (p x)) xs)) [ true ↦ not-all p xs | false ↦ refl ]

pub union-below : {X : Type 0} (f : X → ℕ) (k : ℕ) (xs : List X) → ((x : X) → Mem x xs → f x < 2 ^ k) → union f xs < 2 ^ k
unfolding union
union-below f k [] h = pow_pos k
union-below f k (x ∷ xs) h = or_lt k (f x) (union f xs) (h x (inl refl)) (union-below f k xs (λ y m. h y (inr m)))

pub shared-below : {X : Type 0} (f : X → ℕ) (k : ℕ) (xs : List X) → ((x : X) → Mem x xs → f x < 2 ^ k) → shared f xs < 2 ^ k
unfolding shared
shared-below f k [] h = pow_pos k
shared-below f k (x ∷ []) h = h x (inl refl)
shared-below f k (x ∷ y ∷ ys) h = omega (arith, and_le_l (f x) (shared f (y ∷ ys)), h x (inl refl))
