-- Records and their bytes: decoding and encoding undo each other.
use Rattle.std.proofs.Common.{◌≡◌, ℕ, suc, ◌+◌, ◌-◌, ◌/◌, ◌%◌, ◌^◌, ◌<◌, ◌≤◌, Bool, true, false, cond, eqb, ltb, List, [], ◌∷◌, ◌++◌, length, get_or, take, drop, Some, None, Ok, Err, Option, Result, sym, refl, ap, ◌∙◌, subst, inl, inr, arith, length-append, length-drop, take-append-drop, length-take}
use Rattle.std.proofs.lemmas.List.{drop_more, drop_all, drop-drop, take_at, take_all, get_or_at, get_or-append_right, append-nil}
use Rattle.std.proofs.ByRecursion.{All-get_or, All-take, All-drop}
use Rattle.std.proofs.lemmas.Slice.{between_to_end}
use Rattle.std.proofs.lemmas.Bool.{cases_eq, le-ltb, ltb-false, cond_both}
use Rattle.std.proofs.lemmas.Bool.Decides.{nat_tests}
use Rattle.sheet.specs.Layout.{Rec, head, name, limit, claim, bar, range, roots, within, apart, count, row, word_width, mask_width, lengths, known, least, greatest, sized, plain, flaw, ruled, value, digits, Bytes, mask_at, parsed, inner, framed, encode, flaw_of, inside, counted, taking, decode, Held}
use Rattle.sheet.proofs.Numbers.{items, take-items, length_digits, value-digits, digits_value, value-part}

-- What a record without flaw is.

none_of : (a b d : Bool) (x y z : ℕ) → cond a (cond b (cond d None (Some x)) (Some y)) (Some z) ≡ None → (a ≡ true) × (b ≡ true) × (d ≡ true)
none_of true true true x y z h = (refl, refl, refl)
none_of true true false x y z h = (refl, refl, cc)
none_of true false d x y z h = (refl, cc, cc)
none_of false b d x y z h = (cc, cc, cc)

pub flawless : (k n : ℕ) (text : List ℕ) → flaw k n text ≡ None → (known k ≡ true) × (sized k n ≡ true) × (cond (eqb k 2) (plain text) true ≡ true)
flawless k n text h = none_of (known k) (sized k n) (cond (eqb k 2) (plain text) true) 14 13 12 h

pub known-bounds : (k : ℕ) → known k ≡ true → (1 ≤ k) × (k ≤ 11)
known-bounds k h = (grind (arith, nat_tests), grind (arith, nat_tests))

pub sized-bounds : (k n : ℕ) → sized k n ≡ true → (least k ≤ n) × (n ≤ greatest k)
sized-bounds k n h = (grind (arith, nat_tests), grind (arith, nat_tests))

-- every length fits one byte, so its two bytes are exact
pub greatest-small : (k : ℕ) → known k ≡ true → greatest k < 256
unfolding word_width mask_width
greatest-small k h =
    let b = known-bounds k h in
    All-get_or (λ (p : ℕ × ℕ). p.1 < 256) lengths k (0, 0) (omega arith) (omega arith, (omega arith, (omega arith, (omega arith, (omega arith, (omega arith, (omega arith, (omega arith, (omega arith, (omega arith, (omega arith, (omega arith, tt))))))))))))

pub size_small : (k n : ℕ) (text : List ℕ) → flaw k n text ≡ None → n < 256
size_small k n text h =
    let f = flawless k n text h in
    let s = sized-bounds k n f.1 in
    let g = greatest-small k f.0 in
    omega (arith, s.1, g)

-- What the code's steps come to.

pub second : (xs t : List ℕ) → t ≡ drop 1 (take (length xs - 1) (drop 1 xs)) → t ≡ drop 2 xs
second xs t e = e ∙ ap (drop 1) (between_to_end xs 1 (length xs) (omega arith)) ∙ drop-drop 1 1 xs

pub inside_by : (xs text : List ℕ) (k : ℕ) (o : Option ℕ) → k ≡ get_or xs 0 0 → text ≡ drop 2 xs → o ≡ flaw k (length xs) text → ruled o (Ok (parsed k (drop 1 xs))) ≡ inside xs
inside_by xs text k o e t h = ap (λ u. ruled u (Ok (parsed k (drop 1 xs)))) (h ∙ ap (flaw k (length xs)) t) ∙ ap (λ i. ruled (flaw i (length xs) (drop 2 xs)) (Ok (parsed i (drop 1 xs)))) e

pub decode-by : (xs front : List ℕ) (n : ℕ) (o : Result Rec ℕ) → 2 ≤ length xs → n ≡ counted xs → (n ≡ 0 → ⊥) → n ≤ length (drop 2 xs) → front ≡ take n (drop 2 xs) → o ≡ inside front → taking (2 + n) o ≡ decode xs
decode-by xs front n o l e p q f h =
    let a : ltb (length xs) 2 ≡ false = le-ltb (length xs) 2 l in
    let b : cond (eqb (counted xs) 0) true (ltb (length (drop 2 xs)) (counted xs)) ≡ false = grind (arith, nat_tests) in
    let i : front ≡ take (counted xs) (drop 2 xs) = f ∙ ap (λ m. take m (drop 2 xs)) e in
    ap (taking (2 + n)) (h ∙ ap inside i) ∙ ap (λ m. taking (2 + m) (inside (take (counted xs) (drop 2 xs)))) e ∙ rw (a, b)

-- Decoding what was encoded.

pub decode-framed : (ys rest : List ℕ) → 0 < length ys → decode (framed ys ++ rest) ≡ taking (2 + length ys) (inside ys)
decode-framed ys rest l =
    sym (decode-by (framed ys ++ rest) ys (length ys) (inside ys) (omega arith) (omega arith) (omega arith) (omega (arith, length-append ys rest)) (sym (take_at ys rest (length ys) refl)) refl)

value-front : (n x : ℕ) (xs rest : List ℕ) → x < 256 ^ n → xs ≡ digits n x ++ rest → value (take n xs) ≡ x
value-front n x xs rest h e = ap (λ t. value (take n t)) e ∙ ap value (take_at (digits n x) rest n (length_digits n x)) ∙ value-digits n x h

value-whole : (n x : ℕ) → x < 256 ^ n → value (take n (digits n x)) ≡ x
value-whole n x h = value-front n x (digits n x) [] h (sym (append-nil (digits n x)))

triple-read : (g s t : ℕ) (xs : List ℕ) → xs ≡ digits mask_width g ++ (s ∷ t ∷ []) → g < 256 ^ mask_width → (mask_at 0 xs ≡ g) × (get_or xs mask_width 0 ≡ s) × (get_or xs (mask_width + 1) 0 ≡ t)
triple-read g s t xs e h =
    let l : length (digits mask_width g) ≡ mask_width = length_digits mask_width g in
    let one : mask_width + 1 - mask_width ≡ 1 = omega arith in (
      value-front mask_width g xs (s ∷ t ∷ []) h e,
      ap (λ u. get_or u mask_width 0) e ∙ get_or_at (digits mask_width g) s (t ∷ []) 0 mask_width l,
      ap (λ u. get_or u (mask_width + 1) 0) e ∙ get_or-append_right (digits mask_width g) (s ∷ t ∷ []) mask_width (mask_width + 1) 0 l (omega arith) ∙ ap (λ i. get_or (s ∷ t ∷ []) i 0) one,
    )

parsed-inner : (r : Rec) → Held r → parsed (get_or (inner r) 0 0) (drop 1 (inner r)) ≡ r
parsed-inner (head n m k w) h = ap (head n m k) (value-whole word_width w h)
parsed-inner (name s t) h = refl
parsed-inner (limit s x) h = ap (limit s) (value-whole mask_width x h)
parsed-inner (claim s x) h = ap (claim s) (value-whole mask_width x h)
parsed-inner (bar s x) h = ap (bar s) (value-whole mask_width x h)
parsed-inner (range g s t) h =
    let p = triple-read g s t (digits mask_width g ++ (s ∷ t ∷ [])) refl h in
    let a = p.0 in let b = p.1 in let d = p.2 in cc
parsed-inner (roots g s t) h =
    let p = triple-read g s t (digits mask_width g ++ (s ∷ t ∷ [])) refl h in
    let a = p.0 in let b = p.1 in let d = p.2 in cc
parsed-inner (within a b) h = refl
parsed-inner (apart a b) h = refl
parsed-inner (count a p q) h = refl
parsed-inner (row a) h = refl

inner-some : (r : Rec) → 0 < length (inner r)
inner-some (head n m k w) = omega arith
inner-some (name s t) = omega arith
inner-some (limit s x) = omega arith
inner-some (claim s x) = omega arith
inner-some (bar s x) = omega arith
inner-some (range g s t) = omega arith
inner-some (roots g s t) = omega arith
inner-some (within a b) = omega arith
inner-some (apart a b) = omega arith
inner-some (count a p q) = omega arith
inner-some (row a) = omega arith

pub decode-encode : (r : Rec) (rest : List ℕ) → Held r → flaw_of r ≡ None → decode (encode r ++ rest) ≡ Ok (r, length (encode r))
decode-encode r rest h f =
    let i : inside (inner r) ≡ Ok r = ap (λ o. ruled o (Ok (parsed (get_or (inner r) 0 0) (drop 1 (inner r))))) f ∙ ap Ok (parsed-inner r h) in
    let n : 2 + length (inner r) ≡ length (encode r) = omega arith in
    decode-framed (inner r) rest (inner-some r) ∙ ap (taking (2 + length (inner r))) i ∙ ap (λ m. Ok (r, m)) n

-- Encoding what was decoded.

abbrev Back : ℕ → Type 0
Back k = (fs : List ℕ) → least k ≤ suc (length fs) → suc (length fs) ≤ greatest k → Bytes fs → inner (parsed k fs) ≡ k ∷ fs

digits-at : (n i : ℕ) (fs : List ℕ) → i + n ≤ length fs → Bytes fs → digits n (value (take n (drop i fs))) ≡ take n (drop i fs)
digits-at n i fs h b =
    let xs : List ℕ = take n (drop i fs) in
    let l : length xs ≡ n = simp (length-take, length-drop) (omega arith) in
    ap (λ m. digits m (value xs)) (sym l) ∙ digits_value xs (All-take (λ x. x < 256) n (drop i fs) (All-drop (λ x. x < 256) i fs b))

-- a number that ends the fields
digits_last : (n i : ℕ) (fs : List ℕ) → i + n ≡ length fs → Bytes fs → digits n (value (take n (drop i fs))) ≡ drop i fs
digits_last n i fs h b = digits-at n i fs (omega arith) b ∙ take_all n (drop i fs) (simp length-drop (omega arith))

few : (fs : List ℕ) (n : ℕ) → length fs ≡ n → items fs 0 n ≡ fs
few fs n h = sym (take-items fs 0 n (omega arith)) ∙ take_all n fs (omega arith)

entry-back : (k : ℕ) (fs : List ℕ) → length fs ≡ 1 + mask_width → Bytes fs → k ∷ get_or fs 0 0 ∷ digits mask_width (mask_at 1 fs) ≡ k ∷ fs
entry-back k fs n b = ap (λ t. k ∷ get_or fs 0 0 ∷ t) (digits_last mask_width 1 fs (omega arith) b) ∙ ap (λ t. k ∷ t) (sym (drop_more fs 0 0 (omega arith)))

triple-back : (k : ℕ) (fs : List ℕ) → length fs ≡ 2 + mask_width → Bytes fs → k ∷ (digits mask_width (mask_at 0 fs) ++ (get_or fs mask_width 0 ∷ get_or fs (mask_width + 1) 0 ∷ [])) ≡ k ∷ fs
triple-back k fs n b =
    let d : digits mask_width (mask_at 0 fs) ≡ take mask_width fs = digits-at mask_width 0 fs (omega arith) b in
    let e₀ : drop mask_width fs ≡ get_or fs mask_width 0 ∷ drop (mask_width + 1) fs = drop_more fs mask_width 0 (omega arith) in
    let e₁ : drop (mask_width + 1) fs ≡ get_or fs (mask_width + 1) 0 ∷ drop (mask_width + 1 + 1) fs = drop_more fs (mask_width + 1) 0 (omega arith) in
    let e₂ : drop (mask_width + 1 + 1) fs ≡ [] = drop_all (mask_width + 1 + 1) fs (omega arith) in
    let e : drop mask_width fs ≡ get_or fs mask_width 0 ∷ get_or fs (mask_width + 1) 0 ∷ [] = cc in
    ap (λ t. k ∷ (t ++ (get_or fs mask_width 0 ∷ get_or fs (mask_width + 1) 0 ∷ []))) d ∙ ap (λ t. k ∷ (take mask_width fs ++ t)) (sym e) ∙ ap (λ t. k ∷ t) (take-append-drop mask_width fs)

head-back : Back 1
head-back fs lo hi b =
    let d : digits word_width (value (take word_width (drop 3 fs))) ≡ drop 3 fs = digits_last word_width 3 fs (omega arith) b in
    let e₀ : fs ≡ get_or fs 0 0 ∷ drop 1 fs = drop_more fs 0 0 (omega arith) in
    let e₁ : drop 1 fs ≡ get_or fs 1 0 ∷ drop 2 fs = drop_more fs 1 0 (omega arith) in
    let e₂ : drop 2 fs ≡ get_or fs 2 0 ∷ drop 3 fs = drop_more fs 2 0 (omega arith) in
    cc

name_back : Back 2
name_back fs lo hi b = ap (λ t. 2 ∷ t) (sym (drop_more fs 0 0 (omega arith)))

back : (k : ℕ) → known k ≡ true → Back k
back k h =
    let b = known-bounds k h in
    elim (cases_eq k 1) [
      | inl e ↦ subst Back (sym e) head-back
      | inr n1 ↦
          elim (cases_eq k 2) [
            | inl e ↦ subst Back (sym e) name_back
            | inr n2 ↦
                elim (cases_eq k 3) [
                  | inl e ↦ subst Back (sym e) (λ fs lo hi b. entry-back 3 fs (omega arith) b)
                  | inr n3 ↦
                      elim (cases_eq k 4) [
                        | inl e ↦ subst Back (sym e) (λ fs lo hi b. entry-back 4 fs (omega arith) b)
                        | inr n4 ↦
                            elim (cases_eq k 5) [
                              | inl e ↦ subst Back (sym e) (λ fs lo hi b. entry-back 5 fs (omega arith) b)
                              | inr n5 ↦
                                  elim (cases_eq k 6) [
                                    | inl e ↦ subst Back (sym e) (λ fs lo hi b. triple-back 6 fs (omega arith) b)
                                    | inr n6 ↦
                                        elim (cases_eq k 7) [
                                          | inl e ↦ subst Back (sym e) (λ fs lo hi b. triple-back 7 fs (omega arith) b)
                                          | inr n7 ↦
                                              elim (cases_eq k 8) [
                                                | inl e ↦ subst Back (sym e) (λ fs lo hi b. ap (λ t. 8 ∷ t) (few fs 2 (omega arith)))
                                                | inr n8 ↦
                                                    elim (cases_eq k 9) [
                                                      | inl e ↦ subst Back (sym e) (λ fs lo hi b. ap (λ t. 9 ∷ t) (few fs 2 (omega arith)))
                                                      | inr n9 ↦
                                                          elim (cases_eq k 10) [
                                                            | inl e ↦ subst Back (sym e) (λ fs lo hi b. ap (λ t. 10 ∷ t) (few fs 3 (omega arith)))
                                                            | inr n10 ↦
                                                                let e : k ≡ 11 = omega (arith, n1, n2, n3, n4, n5, n6, n7, n8, n9, n10) in subst Back (sym e) (λ fs lo hi b. ap (λ t. 11 ∷ t) (few fs 1 (omega arith)))
                                                          ]
                                                    ]
                                              ]
                                        ]
                                  ]
                            ]
                      ]
                ]
          ]
    ]

ruled-ok : (o : Option ℕ) (x r : Rec) → ruled o (Ok x) ≡ Ok r → (o ≡ None) × (x ≡ r)
ruled-ok None x r h = (refl, cc)
ruled-ok (Some n) x r h = (cc, cc)

-- kind and fields that say a record are its bytes, and have no flaw
pub inside_back : (ys : List ℕ) (r : Rec) → 0 < length ys → Bytes ys → inside ys ≡ Ok r → (inner r ≡ ys) × (flaw (get_or ys 0 0) (length ys) (drop 2 ys) ≡ None)
inside_back ys r l b h =
    let k : ℕ = get_or ys 0 0 in
    let o = ruled-ok (flaw k (length ys) (drop 2 ys)) (parsed k (drop 1 ys)) r h in
    let f = flawless k (length ys) (drop 2 ys) o.0 in
    let s = sized-bounds k (length ys) f.1 in
    let e : ys ≡ k ∷ drop 1 ys = drop_more ys 0 0 l in
    let n : length ys ≡ suc (length (drop 1 ys)) = ap length e in
    let i : inner (parsed k (drop 1 ys)) ≡ k ∷ drop 1 ys = back k f.0 (drop 1 ys) (omega (arith, s.0)) (omega (arith, s.1)) (All-drop (λ x. x < 256) 1 ys b) in
    (ap inner (sym o.1) ∙ i ∙ sym e, o.0)

first_of : {X : Type 0} (a : Bool) (n : ℕ) (z : Result X ℕ) (v : X) → cond a (Err n) z ≡ Ok v → (a ≡ false) × (z ≡ Ok v)
first_of true n z v h = (cc, cc)
first_of false n z v h = (refl, h)

taking-ok : (o : Result Rec ℕ) (m n : ℕ) (r : Rec) → taking m o ≡ Ok (r, n) → (o ≡ Ok r) × (m ≡ n)
taking-ok (Ok x) m n r h =
    let e : ◌≡◌ {A = Rec × ℕ} (x, m) (r, n) = cc in
    (ap (λ (p : Rec × ℕ). Ok p.0) e, ap (λ (p : Rec × ℕ). p.1) e)
taking-ok (Err e) m n r h = (cc, cc)

-- where a record was decoded
pub record Found (xs : List ℕ) (r : Rec) (n : ℕ) : Type 0 where
  pub some : 0 < counted xs
  pub room : 2 + counted xs ≤ length xs
  pub says : inside (take (counted xs) (drop 2 xs)) ≡ Ok r
  pub size : n ≡ 2 + counted xs

pub found : (xs : List ℕ) (r : Rec) (n : ℕ) → decode xs ≡ Ok (r, n) → Found xs r n
found xs r n h =
    let p = first_of (ltb (length xs) 2) 11 _ _ h in
    let q = first_of (cond (eqb (counted xs) 0) true (ltb (length (drop 2 xs)) (counted xs))) 11 _ _ p.1 in
    let o = taking-ok (inside (take (counted xs) (drop 2 xs))) (2 + counted xs) n r q.1 in
    let l : 2 ≤ length xs = ltb-false (length xs) 2 p.0 in
    let t : cond (eqb (counted xs) 0) true (ltb (length (drop 2 xs)) (counted xs)) ≡ false = q.0 in
    let k : counted xs ≤ length (drop 2 xs) = grind (arith, nat_tests) in
    let k₀ : 0 < counted xs = grind (arith, nat_tests) in
    record { some = k₀; room = omega (arith, length-drop 2 xs); says = o.0; size = sym o.1 }

-- the bytes that a record was decoded from are kind and fields of it
pub body_is : (xs : List ℕ) (r : Rec) (n : ℕ) → Bytes xs → Found xs r n → (inner r ≡ take (counted xs) (drop 2 xs)) × (flaw_of r ≡ None) × (length (take (counted xs) (drop 2 xs)) ≡ counted xs)
body_is xs r n b f =
    let c : ℕ = counted xs in
    let ys : List ℕ = take c (drop 2 xs) in
    let l : length ys ≡ c = simp (length-take, length-drop) (omega (arith, f.room)) in
    let i = inside_back ys r (omega (arith, f.some)) (All-take (λ x. x < 256) c (drop 2 xs) (All-drop (λ x. x < 256) 2 xs b)) f.says in
    let e : inner r ≡ ys = i.0 in
    (e, subst (λ (t : List ℕ). flaw (get_or t 0 0) (length t) (drop 2 t) ≡ None) (sym e) i.1, l)

pub encode-decode : (xs : List ℕ) (r : Rec) (n : ℕ) → Bytes xs → decode xs ≡ Ok (r, n) → encode r ++ drop n xs ≡ xs
encode-decode xs r n b h =
    let f = found xs r n h in
    let c : ℕ = counted xs in
    let ys : List ℕ = take c (drop 2 xs) in
    let p = body_is xs r n b f in
    let i : inner r ≡ ys = p.0 in
    let l : length ys ≡ c = p.2 in
    let b₀ : get_or xs 0 0 < 256 = All-get_or (λ x. x < 256) xs 0 0 (omega (arith, f.room)) b in
    let b₁ : get_or xs 1 0 < 256 = All-get_or (λ x. x < 256) xs 1 0 (omega (arith, f.room)) b in
    let hi : length ys / 256 ≡ get_or xs 0 0 = omega arith in
    let lo : length ys % 256 ≡ get_or xs 1 0 = omega arith in
    let e₀ : xs ≡ get_or xs 0 0 ∷ drop 1 xs = drop_more xs 0 0 (omega (arith, f.room)) in
    let e₁ : drop 1 xs ≡ get_or xs 1 0 ∷ drop 2 xs = drop_more xs 1 0 (omega (arith, f.room)) in
    let e₂ : ys ++ drop n xs ≡ drop 2 xs = ap (λ m. ys ++ drop m xs) f.size ∙ ap (λ u. ys ++ u) (sym (drop-drop c 2 xs)) ∙ take-append-drop c (drop 2 xs) in
    ap (λ u. framed u ++ drop n xs) i ∙ ap (λ u. u ∷ (length ys % 256) ∷ (ys ++ drop n xs)) hi ∙ ap (λ u. get_or xs 0 0 ∷ u ∷ (ys ++ drop n xs)) lo ∙ ap (λ u. get_or xs 0 0 ∷ get_or xs 1 0 ∷ u) e₂ ∙ sym (e₀ ∙ ap (λ u. get_or xs 0 0 ∷ u) e₁)

part_held : (n i : ℕ) (fs : List ℕ) → Bytes fs → value (take n (drop i fs)) < 256 ^ n
part_held n i fs b = value-part n (drop i fs) (All-drop (λ x. x < 256) i fs b)

parsed-held : (k : ℕ) (fs : List ℕ) → Bytes fs → Held (parsed k fs)
parsed-held k fs b =
    cond_both (eqb k 1) _ _ Held (λ _. part_held word_width 3 fs b) (λ _.
    cond_both (eqb k 2) _ _ Held (λ _. tt) (λ _.
    cond_both (eqb k 3) _ _ Held (λ _. part_held mask_width 1 fs b) (λ _.
    cond_both (eqb k 4) _ _ Held (λ _. part_held mask_width 1 fs b) (λ _.
    cond_both (eqb k 5) _ _ Held (λ _. part_held mask_width 1 fs b) (λ _.
    cond_both (eqb k 6) _ _ Held (λ _. part_held mask_width 0 fs b) (λ _.
    cond_both (eqb k 7) _ _ Held (λ _. part_held mask_width 0 fs b) (λ _.
    cond_both (eqb k 8) _ _ Held (λ _. tt) (λ _.
    cond_both (eqb k 9) _ _ Held (λ _. tt) (λ _.
    cond_both (eqb k 10) _ _ Held (λ _. tt) (λ _. tt))))))))))

-- what was decoded is a record that the writer takes
pub decode-fair : (xs : List ℕ) (r : Rec) (n : ℕ) → Bytes xs → decode xs ≡ Ok (r, n) → Held r × (flaw_of r ≡ None)
decode-fair xs r n b h =
    let f = found xs r n h in
    let ys : List ℕ = take (counted xs) (drop 2 xs) in
    let bs : Bytes ys = All-take (λ x. x < 256) (counted xs) (drop 2 xs) (All-drop (λ x. x < 256) 2 xs b) in
    let o = ruled-ok (flaw (get_or ys 0 0) (length ys) (drop 2 ys)) (parsed (get_or ys 0 0) (drop 1 ys)) r f.says in
    (subst Held o.1 (parsed-held (get_or ys 0 0) (drop 1 ys) (All-drop (λ x. x < 256) 1 ys bs)), (body_is xs r n b f).1)
