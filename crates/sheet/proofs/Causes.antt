-- Each refusal of the reader has its cause.
use Rattle.std.proofs.Common.{◌≡◌, ℕ, suc, ◌+◌, ◌-◌, ◌*◌, ◌<◌, ◌≤◌, Bool, true, false, cond, eqb, ltb, leb, ◌⊎◌, List, [], ◌∷◌, length, get_or, take, drop, Some, None, Ok, Err, MatchBool, Option, Result, sym, refl, ap, ◌∙◌, subst, inl, inr, arith, length-append, length-drop, length-take}
use Rattle.std.proofs.lemmas.List.{get_or-take, get_or-drop}
use Rattle.std.proofs.lemmas.List.Folds.{list_all_at}
use Rattle.std.proofs.lemmas.Bool.{cases_eq, cases_lt, cases_Bool, eq-eqb, ne_eqb, eqb-true, le-leb, lt-leb, lt-ltb, le-ltb, cond-true, cond-false, cond_both, both_ways}
use Rattle.std.proofs.lemmas.Bool.Decides.{nat_tests}
use Rattle.sheet.specs.Layout.{Rec, head, name, limit, claim, bar, range, roots, within, apart, count, row, word_width, mask_width, digits, inner, encode, flaw_of, longest, known, least, greatest, sized, plain_byte, plain, flaw, ruled, parsed, inside, counted, taking, decode, headed}
use Rattle.sheet.specs.Steps.{opens, ordered, turn, wrote, placed}
use Rattle.sheet.specs.Refusals.{length_at, kind_at, Stands, Known, Sized, InText, Sound, Misplaced, Unopened, Cut, Unknown, Missized, Unprintable, Disordered, Given, Refusals, Writes}
use Rattle.sheet.proofs.Records.{decode-by}
use Rattle.sheet.proofs.Numbers.{length_digits}
use Rattle.sheet.proofs.Outputs.{no_room, room}
use Rattle.sheet.proofs.Whole.{turn_end, turn_more, turn-none}

-- The text of a name.

abbrev Odd : ℕ → Type 0
Odd b = (b < 0x20) ⊎ (0x7E < b)

odd_byte : (b : ℕ) → plain_byte b ≡ false → Odd b
odd_byte b h = elim (cases_lt b 0x20) [ inl l ↦ inl l | inr l ↦ inr (grind (arith, nat_tests)) ]

byte-odd : (b : ℕ) → Odd b → plain_byte b ≡ false
byte-odd b (inl h) = grind (arith, nat_tests)
byte-odd b (inr h) = grind (arith, nat_tests)

plain-odd : (t : List ℕ) (i : ℕ) → i < length t → Odd (get_or t i 0) → plain t ≡ false
plain-odd t i h o = list_all_at plain_byte t i 0 h (byte-odd (get_or t i 0) o)

odd-plain : (t : List ℕ) → plain t ≡ false → (i : ℕ) × (i < length t) × Odd (get_or t i 0)
odd-plain [] h = cc
odd-plain (b ∷ bs) h = elim (cases_Bool (plain_byte b)) [
  | inl e ↦ (let o = odd-plain bs (rw e at h) in (suc o.0, omega (arith, o.1), o.2))
  | inr e ↦ (0, omega arith, odd_byte b e)
]

-- Whether a record is a head.

abbrev Other : Rec → Type 0
Other r = headed r ≡ false

headed-parsed : (k : ℕ) (fs : List ℕ) → headed (parsed k fs) ≡ eqb k 1
headed-parsed k fs = cond_both (eqb k 1) _ _ (λ r. headed r ≡ eqb k 1) sym (λ e.
    cond_both (eqb k 2) _ _ Other (λ _. refl) (λ _.
    cond_both (eqb k 3) _ _ Other (λ _. refl) (λ _.
    cond_both (eqb k 4) _ _ Other (λ _. refl) (λ _.
    cond_both (eqb k 5) _ _ Other (λ _. refl) (λ _.
    cond_both (eqb k 6) _ _ Other (λ _. refl) (λ _.
    cond_both (eqb k 7) _ _ Other (λ _. refl) (λ _.
    cond_both (eqb k 8) _ _ Other (λ _. refl) (λ _.
    cond_both (eqb k 9) _ _ Other (λ _. refl) (λ _.
    cond_both (eqb k 10) _ _ Other (λ _. refl) (λ _. refl))))))))) ∙ sym e)

-- What a flaw is.

known-true : (k : ℕ) → Known k → known k ≡ true
known-true k h = cond-true (leb 1 k) _ _ (le-leb 1 k h.0) ∙ le-leb k 11 h.1

known-false : (k : ℕ) → (k ≡ 0) ⊎ (11 < k) → known k ≡ false
known-false k (inl h) = grind (arith, nat_tests)
known-false k (inr h) = grind (arith, nat_tests)

sized-true : (k n : ℕ) → Sized k n → sized k n ≡ true
sized-true k n h = cond-true (leb (least k) n) _ _ (le-leb (least k) n h.0) ∙ le-leb n (greatest k) h.1

sized-false : (k n : ℕ) → (n < least k) ⊎ (greatest k < n) → sized k n ≡ false
sized-false k n (inl h) = cond-false (leb (least k) n) _ _ (lt-leb (least k) n h)
sized-false k n (inr h) = cond_both (leb (least k) n) _ _ (λ x. x ≡ false) (λ _. lt-leb n (greatest k) h) (λ _. refl)

text-true : (k : ℕ) (t : List ℕ) → (k ≡ 2 → plain t ≡ true) → cond (eqb k 2) (plain t) true ≡ true
text-true k t h = cond_both (eqb k 2) _ _ (λ x. x ≡ true) (λ e. h (eqb-true k 2 e)) (λ _. refl)

flaw-kind : (k n : ℕ) (t : List ℕ) → known k ≡ false → flaw k n t ≡ Some 12
flaw-kind k n t a = cond-false (known k) _ _ a

flaw-size : (k n : ℕ) (t : List ℕ) → known k ≡ true → sized k n ≡ false → flaw k n t ≡ Some 13
flaw-size k n t a b = cond-true (known k) _ _ a ∙ cond-false (sized k n) _ _ b

flaw-text : (k n : ℕ) (t : List ℕ) → k ≡ 2 → sized 2 n ≡ true → plain t ≡ false → flaw k n t ≡ Some 14
flaw-text k n t e b d = ap (λ j. flaw j n t) e ∙ cond-true (sized 2 n) _ _ b ∙ cond-false (plain t) _ _ d

flaw-none : (k n : ℕ) (t : List ℕ) → known k ≡ true → sized k n ≡ true → cond (eqb k 2) (plain t) true ≡ true → flaw k n t ≡ None
flaw-none k n t a b d = cond-true (known k) _ _ a ∙ cond-true (sized k n) _ _ b ∙ cond-true (cond (eqb k 2) (plain t) true) _ _ d

ordered-err : (begun : Bool) (e : ℕ) → ordered begun (Err e) ≡ Err e
ordered-err true e = refl
ordered-err false e = refl

decode-short : (xs : List ℕ) → length xs < 2 → decode xs ≡ Err 11
decode-short xs h = cond-true (ltb (length xs) 2) _ _ (lt-ltb (length xs) 2 h)

decode-cut : (xs : List ℕ) → 2 ≤ length xs → cond (eqb (counted xs) 0) true (ltb (length (drop 2 xs)) (counted xs)) ≡ true → decode xs ≡ Err 11
decode-cut xs l h = cond-false (ltb (length xs) 2) _ _ (le-ltb (length xs) 2 l) ∙ cond-true (cond (eqb (counted xs) 0) true (ltb (length (drop 2 xs)) (counted xs))) _ _ h

misplaced : (begun : Bool) (r : Rec) (n k : ℕ) → headed r ≡ eqb k 1 → Misplaced begun k → ordered begun (Ok (r, n)) ≡ Err 15
misplaced true r n k e (inl m) = cond-true (headed r) _ _ (e ∙ eq-eqb k 1 m.1)
misplaced false r n k e (inr m) = cond-false (headed r) _ _ (e ∙ ne_eqb k 1 m.1)
misplaced true r n k e (inr m) = absurd (both_ways _ m.0 refl)
misplaced false r n k e (inl m) = absurd (both_ways _ refl m.0)

rightly : (begun : Bool) (r : Rec) (n k : ℕ) → headed r ≡ eqb k 1 → (Misplaced begun k → ⊥) → ordered begun (Ok (r, n)) ≡ Ok (Some (r, n))
rightly true r n k e m = cond-false (headed r) _ _ (e ∙ ne_eqb k 1 (λ q. m (inl (refl, q))))
rightly false r n k e m = elim (cases_eq k 1) [ inl q ↦ cond-true (headed r) _ _ (e ∙ eq-eqb k 1 q) | inr q ↦ absurd (m (inr (refl, q))) ]

cases-misplaced : (begun : Bool) (k : ℕ) → Misplaced begun k ⊎ (Misplaced begun k → ⊥)
cases-misplaced true k = elim (cases_eq k 1) [
  | inl q ↦ inl (inl (refl, q))
  | inr q ↦ inr (λ m. elim m [ inl x ↦ q x.1 | inr x ↦ both_ways _ x.0 refl ])
]
cases-misplaced false k = elim (cases_eq k 1) [
  | inl q ↦ inr (λ m. elim m [ inl x ↦ both_ways _ refl x.0 | inr x ↦ x.1 q ])
  | inr q ↦ inl (inr (refl, q))
]

-- The record at a place.

module _ (file : List ℕ) (p : ℕ) where
  abbrev body_at : List ℕ
  body_at = take (length_at file p) (drop 2 (drop p file))

  abbrev flaw_at : Option ℕ
  flaw_at = flaw (kind_at file p) (length_at file p) (drop 2 body_at)

  abbrev rec_at : Rec
  rec_at = parsed (kind_at file p) (drop 1 body_at)

  at_drop : (i : ℕ) → get_or (drop p file) i 0 ≡ get_or file (p + i) 0
  at_drop i = get_or-drop p file i 0

  counted-at : counted (drop p file) ≡ length_at file p
  counted-at =
      let z : p + 0 ≡ p = omega arith in
      ap (λ x. x * 256 + get_or (drop p file) 1 0) (at_drop 0 ∙ ap (λ i. get_or file i 0) z) ∙ ap (λ x. get_or file p 0 * 256 + x) (at_drop 1)

  pub body-length : Stands file p → length body_at ≡ length_at file p
  body-length s = simp (length-take, length-drop) (omega (arith, s.2))

  pub body-at : (i : ℕ) → i < length_at file p → get_or body_at i 0 ≡ get_or file (p + 2 + i) 0
  body-at i h =
      let e : p + (2 + i) ≡ p + 2 + i = omega arith in
      get_or-take (length_at file p) (drop 2 (drop p file)) i 0 h ∙ get_or-drop 2 (drop p file) i 0 ∙ at_drop (2 + i) ∙ ap (λ j. get_or file j 0) e

  inside-at : Stands file p → inside body_at ≡ ruled flaw_at (Ok rec_at)
  inside-at s =
      let z : p + 2 + 0 ≡ p + 2 = omega arith in
      let k : get_or body_at 0 0 ≡ kind_at file p = body-at 0 s.1 ∙ ap (λ j. get_or file j 0) z in
      ap (λ x. ruled (flaw x (length body_at) (drop 2 body_at)) (Ok (parsed x (drop 1 body_at)))) k ∙ ap (λ n. ruled (flaw (kind_at file p) n (drop 2 body_at)) (Ok rec_at)) (body-length s)

  pub turn_at : (begun : Bool) → Stands file p → turn begun (drop p file) ≡ ordered begun (taking (2 + length_at file p) (ruled flaw_at (Ok rec_at)))
  turn_at begun s =
      let l : length (drop p file) ≡ length file - p = length-drop p file in
      let l₂ : length (drop 2 (drop p file)) ≡ length (drop p file) - 2 = length-drop 2 (drop p file) in
      turn_more begun (drop p file) (omega (arith, l, s.0)) ∙ ap (ordered begun)
      (sym (decode-by (drop p file) body_at (length_at file p) (ruled flaw_at (Ok rec_at)) (omega (arith, l, s.0)) (sym counted-at) (omega (arith, s.1)) (omega (arith, l, l₂, s.2)) refl (sym (inside-at s))))

  cut-test : (c : ℕ) → c ≡ length_at file p → (length_at file p ≡ 0) ⊎ (length file < p + 2 + length_at file p) → p + 2 ≤ length file →
      cond (eqb c 0) true (ltb (length (drop 2 (drop p file))) c) ≡ true
  cut-test c e (inl h) l = cond-true (eqb c 0) _ _ (eq-eqb c 0 (omega (arith, e, h)))
  cut-test c e (inr h) l = cond_both (eqb c 0) _ _ (λ x. x ≡ true) (λ _. refl) (λ _. lt-ltb (length (drop 2 (drop p file))) c (omega (arith, e, h, l, length-drop p file, length-drop 2 (drop p file))))

  -- a length that is no length
  pub turn-cut : (begun : Bool) → Cut file p → turn begun (drop p file) ≡ Err 11
  turn-cut begun (inl h) =
      turn_more begun (drop p file) (omega (arith, h, length-drop p file)) ∙ ap (ordered begun) (decode-short (drop p file) (omega (arith, h, length-drop p file))) ∙ ordered-err begun 11
  turn-cut begun (inr h) =
      turn_more begun (drop p file) (omega (arith, h.0, length-drop p file))
      ∙ ap (ordered begun) (decode-cut (drop p file) (omega (arith, h.0, length-drop p file)) (cut-test (counted (drop p file)) counted-at h.1 h.0)) ∙ ordered-err begun 11

  turn-flaw : (begun : Bool) (e : ℕ) → Stands file p → flaw_at ≡ Some e → turn begun (drop p file) ≡ Err e
  turn-flaw begun e s f = turn_at begun s ∙ ap (λ o. ordered begun (taking (2 + length_at file p) (ruled o (Ok rec_at)))) f ∙ ordered-err begun e

  turn-sound : (begun : Bool) → Stands file p → flaw_at ≡ None → turn begun (drop p file) ≡ ordered begun (Ok (rec_at, 2 + length_at file p))
  turn-sound begun s f = turn_at begun s ∙ ap (λ o. ordered begun (taking (2 + length_at file p) (ruled o (Ok rec_at)))) f

  pub turn-unknown : (begun : Bool) → Unknown file p → turn begun (drop p file) ≡ Err 12
  turn-unknown begun w = turn-flaw begun 12 w.0 (flaw-kind (kind_at file p) (length_at file p) (drop 2 body_at) (known-false (kind_at file p) w.1))

  pub turn-missized : (begun : Bool) → Missized file p → turn begun (drop p file) ≡ Err 13
  turn-missized begun w = turn-flaw begun 13 w.0 (flaw-size (kind_at file p) (length_at file p) (drop 2 body_at) (known-true (kind_at file p) w.1) (sized-false (kind_at file p) (length_at file p) w.2))

  -- the text, place by place
  text-length : Stands file p → length (drop 2 body_at) ≡ length_at file p - 2
  text-length s = length-drop 2 body_at ∙ ap (λ n. n - 2) (body-length s)

  text_at : (i : ℕ) → InText file p i → get_or (drop 2 body_at) (i - (p + 4)) 0 ≡ get_or file i 0
  text_at i h =
      let e : p + 2 + (2 + (i - (p + 4))) ≡ i = omega (arith, h.0) in
      get_or-drop 2 body_at (i - (p + 4)) 0 ∙ body-at (2 + (i - (p + 4))) (omega (arith, h.0, h.1)) ∙ ap (λ j. get_or file j 0) e

  in-text : Stands file p → (j : ℕ) → j < length (drop 2 body_at) → InText file p (p + 4 + j)
  in-text s j h = (omega arith, omega (arith, h, text-length s))

  text-at-from : (j : ℕ) → InText file p (p + 4 + j) → get_or (drop 2 body_at) j 0 ≡ get_or file (p + 4 + j) 0
  text-at-from j h =
      let e : p + 4 + j - (p + 4) ≡ j = omega arith in
      ap (λ i. get_or (drop 2 body_at) i 0) (sym e) ∙ text_at (p + 4 + j) h

  plain-false : Stands file p → (i : ℕ) → InText file p i → Odd (get_or file i 0) → plain (drop 2 body_at) ≡ false
  plain-false s i h o = plain-odd (drop 2 body_at) (i - (p + 4)) (omega (arith, h.0, h.1, text-length s)) (subst Odd (sym (text_at i h)) o)

  plain-true : Stands file p → ((i : ℕ) → InText file p i → (0x20 ≤ get_or file i 0) × (get_or file i 0 ≤ 0x7E)) → plain (drop 2 body_at) ≡ true
  plain-true s h = elim (cases_Bool (plain (drop 2 body_at))) [
    | inl e ↦ e
    | inr e ↦ (
        let o = odd-plain (drop 2 body_at) e in
        let t = in-text s o.0 o.1 in
        let c = h (p + 4 + o.0) t in
        let q = text-at-from o.0 t in
        absurd (elim o.2 [ inl l ↦ omega (arith, l, q, c.0) | inr l ↦ omega (arith, l, q, c.1) ]))
  ]

  clean-from : Stands file p → plain (drop 2 body_at) ≡ true → (i : ℕ) → InText file p i → (0x20 ≤ get_or file i 0) × (get_or file i 0 ≤ 0x7E)
  clean-from s e i h = elim (cases_lt (get_or file i 0) 0x20) [
    | inl l ↦ absurd (both_ways _ (plain-false s i h (inl l)) e)
    | inr l ↦ elim (cases_lt 0x7E (get_or file i 0)) [
      | inl m ↦ absurd (both_ways _ (plain-false s i h (inr m)) e)
      | inr m ↦ (l, m)
    ]
  ]

  pub turn-unprintable : (begun : Bool) → Unprintable file p → turn begun (drop p file) ≡ Err 14
  turn-unprintable begun w =
      turn-flaw begun 14 w.0 (flaw-text (kind_at file p) (length_at file p) (drop 2 body_at) w.1 (sized-true 2 (length_at file p) w.2) (plain-false w.0 w.3.0 w.3.1 w.3.2))

  sound-flaw : Sound file p → flaw_at ≡ None
  sound-flaw w = flaw-none (kind_at file p) (length_at file p) (drop 2 body_at) (known-true (kind_at file p) w.1) (sized-true (kind_at file p) (length_at file p) w.2) (text-true (kind_at file p) (drop 2 body_at) (λ e. plain-true w.0 (w.3 e)))

  pub turn-disordered : (begun : Bool) → Disordered file begun p → turn begun (drop p file) ≡ Err 15
  turn-disordered begun (inl w) = turn_end begun (drop p file) (omega (arith, w.0, length-drop p file)) ∙ cond-false begun _ _ w.1
  turn-disordered begun (inr w) = turn-sound begun w.0.0 (sound-flaw w.0) ∙ misplaced begun rec_at (2 + length_at file p) (kind_at file p) (headed-parsed (kind_at file p) (drop 1 body_at)) w.1

  pub turn_last : (begun : Bool) → length file ≤ p → begun ≡ true → turn begun (drop p file) ≡ Ok None
  turn_last begun l b = turn_end begun (drop p file) (omega (arith, l, length-drop p file)) ∙ cond-true begun _ _ b

  pub turn-given : (begun : Bool) → Sound file p → (Misplaced begun (kind_at file p) → ⊥) → turn begun (drop p file) ≡ Ok (Some (rec_at, 2 + length_at file p))
  turn-given begun w m = turn-sound begun w.0 (sound-flaw w) ∙ rightly begun rec_at (2 + length_at file p) (kind_at file p) (headed-parsed (kind_at file p) (drop 1 body_at)) m

  pub gives : (begun : Bool) → Sound file p → (Misplaced begun (kind_at file p) → ⊥) → Given file begun p
  gives begun w m = (rec_at, turn-given begun w m, λ h. eqb-true (kind_at file p) 1 (sym (headed-parsed (kind_at file p) (drop 1 body_at)) ∙ h))

  -- Every step has one of these causes.

  data Why (begun : Bool) : Result (Option (Rec × ℕ)) ℕ → Type 0 where
    cut : Cut file p → Why begun (Err 11)
    unknown : Unknown file p → Why begun (Err 12)
    missized : Missized file p → Why begun (Err 13)
    unprintable : Unprintable file p → Why begun (Err 14)
    disordered : Disordered file begun p → Why begun (Err 15)
    ended : length file ≤ p → begun ≡ true → Why begun (Ok None)
    given : (r : Rec × ℕ) → Why begun (Ok (Some r))

  why-sound : (begun : Bool) → Sound file p → Why begun (turn begun (drop p file))
  why-sound begun w = elim (cases-misplaced begun (kind_at file p)) [
    | inl m ↦ subst (Why begun) (sym (turn-disordered begun (inr (w, m)))) (disordered (inr (w, m)))
    | inr m ↦ subst (Why begun) (sym (turn-given begun w m)) (given (rec_at, 2 + length_at file p))
  ]

  why-text : (begun : Bool) → Stands file p → Known (kind_at file p) → Sized (kind_at file p) (length_at file p) → Why begun (turn begun (drop p file))
  why-text begun s k z = elim (cases_eq (kind_at file p) 2) [
    | inl e ↦ elim (cases_Bool (plain (drop 2 body_at))) [
      | inl t ↦ why-sound begun (s, k, z, λ _. clean-from s t)
      | inr t ↦ (
          let o = odd-plain (drop 2 body_at) t in
          let i = in-text s o.0 o.1 in
          let w : Unprintable file p = (s, e, subst (λ j. Sized j (length_at file p)) e z, (p + 4 + o.0, i, subst Odd (text-at-from o.0 i) o.2)) in
          subst (Why begun) (sym (turn-unprintable begun w)) (unprintable w))
    ]
    | inr n ↦ why-sound begun (s, k, z, λ e. absurd (n e))
  ]

  why-size : (begun : Bool) → Stands file p → Known (kind_at file p) → Why begun (turn begun (drop p file))
  why-size begun s k = elim (cases_lt (length_at file p) (least (kind_at file p))) [
    | inl l ↦ subst (Why begun) (sym (turn-missized begun (s, k, inl l))) (missized (s, k, inl l))
    | inr l ↦ elim (cases_lt (greatest (kind_at file p)) (length_at file p)) [
      | inl m ↦ subst (Why begun) (sym (turn-missized begun (s, k, inr m))) (missized (s, k, inr m))
      | inr m ↦ why-text begun s k (l, m)
    ]
  ]

  why-kind : (begun : Bool) → Stands file p → Why begun (turn begun (drop p file))
  why-kind begun s = elim (cases_lt 0 (kind_at file p)) [
    | inl l ↦ elim (cases_lt 11 (kind_at file p)) [
      | inl m ↦ subst (Why begun) (sym (turn-unknown begun (s, inr m))) (unknown (s, inr m))
      | inr m ↦ why-size begun s (l, m)
    ]
    | inr l ↦ (
        let z : kind_at file p ≡ 0 = omega arith in
        subst (Why begun) (sym (turn-unknown begun (s, inl z))) (unknown (s, inl z)))
  ]

  why-cut : (begun : Bool) → Cut file p → Why begun (turn begun (drop p file))
  why-cut begun w = subst (Why begun) (sym (turn-cut begun w)) (cut w)

  why-length : (begun : Bool) → p + 2 ≤ length file → Why begun (turn begun (drop p file))
  why-length begun l = elim (cases_eq (length_at file p) 0) [
    | inl e ↦ why-cut begun (inr (l, inl e))
    | inr n ↦ elim (cases_lt (length file) (p + 2 + length_at file p)) [
      | inl m ↦ why-cut begun (inr (l, inr m))
      | inr m ↦ why-kind begun (l, omega (arith, n), m)
    ]
  ]

  why-over : (begun : Bool) → length file ≤ p → Why begun (turn begun (drop p file))
  why-over begun l = elim (cases_Bool begun) [
    | inl b ↦ subst (Why begun) (sym (turn_last begun l b)) (ended l b)
    | inr b ↦ subst (Why begun) (sym (turn-disordered begun (inl (l, b)))) (disordered (inl (l, b)))
  ]

  why : (begun : Bool) → Why begun (turn begun (drop p file))
  why begun = elim (cases_lt p (length file)) [
    | inl l ↦ elim (cases_eq (length file) (p + 1)) [ inl e ↦ why-cut begun (inl e) | inr n ↦ why-length begun (omega (arith, l, n)) ]
    | inr l ↦ why-over begun l
  ]

  -- what each number means
  abbrev Meaning : Bool → ℕ → Type 0
  Meaning begun e = MatchBool (eqb e 11) (Cut file p) (MatchBool (eqb e 12) (Unknown file p) (MatchBool (eqb e 13) (Missized file p) (MatchBool (eqb e 14) (Unprintable file p) (MatchBool (eqb e 15) (Disordered file begun p) ⊥))))

  same-err : (d e : ℕ) → ◌≡◌ {A = Result (Option (Rec × ℕ)) ℕ} (Err d) (Err e) → d ≡ e
  same-err d e h = cc

  meaning : (begun : Bool) (e : ℕ) {t : Result (Option (Rec × ℕ)) ℕ} → Why begun t → t ≡ Err e → Meaning begun e × (11 ≤ e) × (e ≤ 15)
  meaning begun e (cut w) h = let q = same-err 11 e h in (subst (Meaning begun) q w, omega (arith, q), omega (arith, q))
  meaning begun e (unknown w) h = let q = same-err 12 e h in (subst (Meaning begun) q w, omega (arith, q), omega (arith, q))
  meaning begun e (missized w) h = let q = same-err 13 e h in (subst (Meaning begun) q w, omega (arith, q), omega (arith, q))
  meaning begun e (unprintable w) h = let q = same-err 14 e h in (subst (Meaning begun) q w, omega (arith, q), omega (arith, q))
  meaning begun e (disordered w) h = let q = same-err 15 e h in (subst (Meaning begun) q w, omega (arith, q), omega (arith, q))
  meaning begun e (ended l b) h = absurd (let z : ◌≡◌ {A = ℕ} 0 1 = cc in omega arith)
  meaning begun e (given r) h = absurd (let z : ◌≡◌ {A = ℕ} 0 1 = cc in omega arith)

  pub means : (begun : Bool) (e : ℕ) → turn begun (drop p file) ≡ Err e → Meaning begun e × (11 ≤ e) × (e ≤ 15)
  means begun e h = meaning begun e (why begun) h

-- A file that is not read.

unopened : (file : List ℕ) → opens file ≡ false → Unopened file
unopened file h = elim (cases_eq (length file) 0) [
  | inl e ↦ inl e
  | inr n ↦ elim (cases_lt longest (length file)) [
    | inl l ↦ inr (inl l)
    | inr l ↦ inr (inr (λ v. both_ways _ h (grind (arith, nat_tests))))
  ]
]

opens_not : (file : List ℕ) → Unopened file → opens file ≡ false
opens_not file (inl h) = grind (arith, nat_tests)
opens_not file (inr (inl h)) = grind (arith, nat_tests)
opens_not file (inr (inr h)) = grind (arith, nat_tests)

pub refusals : Refusals
refusals = record {
  ten = λ file. (unopened file, opens_not file);
  eleven = λ file begun p. (λ h. (means file p begun 11 h).0, turn-cut file p begun);
  twelve = λ file begun p. (λ h. (means file p begun 12 h).0, turn-unknown file p begun);
  thirteen = λ file begun p. (λ h. (means file p begun 13 h).0, turn-missized file p begun);
  fourteen = λ file begun p. (λ h. (means file p begun 14 h).0, turn-unprintable file p begun);
  fifteen = λ file begun p. (λ h. (means file p begun 15 h).0, turn-disordered file p begun);
  only = λ file begun p e h. (let m = means file p begun e h in (m.1, m.2));
  ends = λ file begun p. (λ h. (let z = turn-none begun (drop p file) h in (omega (arith, z.0, length-drop p file), z.1)), λ w. turn_last file p begun w.0 w.1);
  gives = λ file begun p. gives file p begun;
}

-- What the writer refuses.

exact : (k n : ℕ) (t : List ℕ) → known k ≡ true → eqb k 2 ≡ false → least k ≤ n → n ≤ greatest k → flaw k n t ≡ None
exact k n t a b lo hi = flaw-none k n t a (sized-true k n (lo, hi)) (cond-false (eqb k 2) (plain t) true b)

free : (r : Rec) → (flaw_of r ≡ None) ⊎ ((s : ℕ) × (t : List ℕ) × (r ≡ name s t))
free (head n m k w) = let l = length_digits word_width w in inl (exact 1 (length (inner (head n m k w))) [] refl refl (omega (arith, l)) (omega (arith, l)))
free (name s t) = inr (s, t, refl)
free (limit s x) = let l = length_digits mask_width x in inl (exact 3 (length (inner (limit s x))) [] refl refl (omega (arith, l)) (omega (arith, l)))
free (claim s x) = let l = length_digits mask_width x in inl (exact 4 (length (inner (claim s x))) [] refl refl (omega (arith, l)) (omega (arith, l)))
free (bar s x) = let l = length_digits mask_width x in inl (exact 5 (length (inner (bar s x))) [] refl refl (omega (arith, l)) (omega (arith, l)))
free (range g s t) =
    let l = length_digits mask_width g in
    let n = length-append (digits mask_width g) (s ∷ t ∷ []) in
    inl (exact 6 (length (inner (range g s t))) [] refl refl (omega (arith, l, n)) (omega (arith, l, n)))
free (roots g s t) =
    let l = length_digits mask_width g in
    let n = length-append (digits mask_width g) (s ∷ t ∷ []) in
    inl (exact 7 (length (inner (roots g s t))) [] refl refl (omega (arith, l, n)) (omega (arith, l, n)))
free (within a b) = inl refl
free (apart a b) = inl refl
free (count a p q) = inl refl
free (row a) = inl refl

module _ (s : ℕ) (t : List ℕ) where
  missized-name : (length t ≡ 0) ⊎ (32 < length t) → flaw_of (name s t) ≡ Some 13
  missized-name (inl h) = flaw-size 2 (length (inner (name s t))) t refl (sized-false 2 (length (inner (name s t))) (inl (omega (arith, h))))
  missized-name (inr h) = flaw-size 2 (length (inner (name s t))) t refl (sized-false 2 (length (inner (name s t))) (inr (omega (arith, h))))

  name-text : 1 ≤ length t → length t ≤ 32 → flaw_of (name s t) ≡ cond (plain t) None (Some 14)
  name-text lo hi = cond-true (sized 2 (length (inner (name s t)))) _ _ (sized-true 2 (length (inner (name s t))) (omega (arith, lo), omega (arith, hi)))

  size_of : (b : Bool) (P : Type 0) → ◌≡◌ {A = Option ℕ} (cond b None (Some 14)) (Some 13) → P
  size_of true P h = absurd (let z : ◌≡◌ {A = ℕ} 0 1 = cc in omega arith)
  size_of false P h = absurd (let z : ◌≡◌ {A = ℕ} 14 13 = cc in omega arith)

  text_of : (b : Bool) → ◌≡◌ {A = Option ℕ} (cond b None (Some 14)) (Some 14) → b ≡ false
  text_of true h = cc
  text_of false h = refl

  name-size : flaw_of (name s t) ≡ Some 13 → (length t ≡ 0) ⊎ (32 < length t)
  name-size h = elim (cases_eq (length t) 0) [
    | inl e ↦ inl e
    | inr n ↦ elim (cases_lt 32 (length t)) [ inl l ↦ inr l | inr l ↦ size_of (plain t) _ (sym (name-text (omega (arith, n)) l) ∙ h) ]
  ]

  clash : flaw_of (name s t) ≡ Some 13 → flaw_of (name s t) ≡ Some 14 → ⊥
  clash p q = let z : ◌≡◌ {A = ℕ} 13 14 = cc in omega arith

  name-odd : flaw_of (name s t) ≡ Some 14 → (1 ≤ length t) × (length t ≤ 32) × ((i : ℕ) × (i < length t) × Odd (get_or t i 0))
  name-odd h = elim (cases_lt 0 (length t)) [
    | inl lo ↦ elim (cases_lt 32 (length t)) [
      | inl l ↦ absurd (clash (missized-name (inr l)) h)
      | inr hi ↦ (lo, hi, odd-plain t (text_of (plain t) (sym (name-text lo hi) ∙ h)))
    ]
    | inr l ↦ absurd (clash (missized-name (inl (omega arith))) h)
  ]

  odd-name : (1 ≤ length t) × (length t ≤ 32) × ((i : ℕ) × (i < length t) × Odd (get_or t i 0)) → flaw_of (name s t) ≡ Some 14
  odd-name w = name-text w.0 w.1 ∙ cond-false (plain t) _ _ (plain-odd t w.2.0 w.2.1 w.2.2)

wrote_by : (r : Rec) (at : ℕ) (out : List ℕ) (o : Option ℕ) → flaw_of r ≡ o → wrote r at out ≡ ruled o (placed (encode r) at out)
wrote_by r at out o f = ap (λ u. ruled u (placed (encode r) at out)) f

pub writes : Writes
writes = record {
  free = free;
  thirteen = λ s t. (name-size s t, missized-name s t);
  fourteen = λ s t. (name-odd s t, odd-name s t);
  flawed = λ r at out e f. wrote_by r at out (Some e) f;
  nine = λ r at out f h. wrote_by r at out None f ∙ no_room (encode r) out at h;
  taken = λ r at out f h. wrote_by r at out None f ∙ room (encode r) out at (at + length (encode r)) refl h;
}
