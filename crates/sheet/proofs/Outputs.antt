-- Pieces laid over an output.
use Rattle.std.proofs.Common.{◌≡◌, ℕ, ◌+◌, ◌-◌, ◌/◌, ◌%◌, ◌<◌, ◌≤◌, Bool, true, false, cond, leb, List, [], ◌∷◌, ◌++◌, length, get_or, take, drop, Some, None, Ok, Err, Option, Result, sym, refl, ap, ◌∙◌, append_assoc, arith, length-append, length-take}
use borrow.Rule.Slice.PartMut.{put_mid}
use Rattle.std.proofs.lemmas.List.{drop-drop, take_at, drop_at}
use Rattle.std.proofs.lemmas.Bool.{leb-true, le-leb, lt-leb, cond-true, cond-false}
use Rattle.sheet.specs.declared.format.Cause.{Cause}
use Rattle.sheet.specs.declared.writer.Writer.{Writer}
use Rattle.sheet.specs.Layout.{flaw, ruled, framed}
use Rattle.sheet.specs.Steps.{laid, placed, putting, refused, refusal, place_now, laid_over}
use Rattle.sheet.specs.Files.{bytes_of, grown, Puts}

pub laid_part : (out piece new : List ℕ) (at : ℕ) → new ≡ piece → put_mid at (at + length piece - at) out new ≡ laid out at piece
laid_part out piece new at e =
    let n : at + length piece - at ≡ length piece = omega arith in
    ap (λ m. take at out ++ (new ++ drop m (drop at out))) n ∙ ap (λ u. take at out ++ (new ++ u)) (drop-drop (length piece) at out) ∙ ap (λ u. take at out ++ (u ++ drop (at + length piece) out)) e

-- one piece after the other is both at once
pub laid-laid : (out p q : List ℕ) (at : ℕ) → at + length p ≤ length out → laid (laid out at p) (at + length p) q ≡ laid out at (p ++ q)
laid-laid out p q at h =
    let a : List ℕ = take at out in
    let n : ℕ = at + length p in
    let d : List ℕ = drop n out in
    let l : length a ≡ at = simp length-take (omega arith) in
    let lp : length (a ++ p) ≡ n = simp length-append (omega (arith, l)) in
    let e : laid out at p ≡ (a ++ p) ++ d = sym (append_assoc a p d) in
    let t : take n (laid out at p) ≡ a ++ p = ap (take n) e ∙ take_at (a ++ p) d n lp in
    let r : drop n (laid out at p) ≡ d = ap (drop n) e ∙ drop_at (a ++ p) d n lp in
    let u : drop (n + length q) (laid out at p) ≡ drop (n + length q) out = sym (drop-drop (length q) n (laid out at p)) ∙ ap (drop (length q)) r ∙ drop-drop (length q) n out in
    let m : n + length q ≡ at + length (p ++ q) = simp length-append (omega arith) in
    ap (λ x. x ++ (q ++ drop (n + length q) (laid out at p))) t ∙ ap (λ x. (a ++ p) ++ (q ++ x)) u ∙ ap (λ k. (a ++ p) ++ (q ++ drop k out)) m
    ∙ append_assoc a p (q ++ drop (at + length (p ++ q)) out) ∙ ap (λ x. a ++ x) (sym (append_assoc p q (drop (at + length (p ++ q)) out)))

-- three pieces that are a record's bytes
pub laid-record : (out front back : List ℕ) (at hi lo k : ℕ) (o₁ o₂ o₃ : List ℕ) → at + 3 + length front + length back ≤ length out →
    hi ≡ length (k ∷ (front ++ back)) / 256 → lo ≡ length (k ∷ (front ++ back)) % 256 →
    o₁ ≡ laid out at (hi ∷ lo ∷ k ∷ []) → o₂ ≡ laid o₁ (at + 3) front → o₃ ≡ laid o₂ (at + 3 + length front) back → o₃ ≡ laid out at (framed (k ∷ (front ++ back)))
laid-record out front back at hi lo k o₁ o₂ o₃ h p q e₁ e₂ e₃ =
    let t : List ℕ = hi ∷ lo ∷ k ∷ [] in
    let n : at + 3 + length front ≡ at + length (t ++ front) = simp length-append (omega arith) in
    let s₂ : o₂ ≡ laid out at (t ++ front) = e₂ ∙ ap (λ o. laid o (at + 3) front) e₁ ∙ laid-laid out t front at (omega arith) in
    let s₃ : o₃ ≡ laid out at ((t ++ front) ++ back) = e₃ ∙ ap (λ o. laid o (at + 3 + length front) back) s₂ ∙ ap (λ m. laid (laid out at (t ++ front)) m back) n ∙ laid-laid out (t ++ front) back at (omega (arith, n)) in
    s₃ ∙ ap (laid out at) (append_assoc t front back) ∙ ap (λ x. laid out at (x ∷ lo ∷ k ∷ (front ++ back))) p ∙ ap (λ x. laid out at ((length (k ∷ (front ++ back)) / 256) ∷ x ∷ k ∷ (front ++ back))) q

pub no_room : (piece out : List ℕ) (at : ℕ) → length out < at + length piece → placed piece at out ≡ Err 9
no_room piece out at h = cond-false _ _ _ (lt-leb _ _ h)

pub room : (piece out : List ℕ) (at n : ℕ) → n ≡ at + length piece → n ≤ length out → placed piece at out ≡ Ok n
room piece out at n e h = cond-true _ _ _ (le-leb (at + length piece) (length out) (omega arith)) ∙ ap Ok (sym e)

-- the steps of the code, with its own sum for the length
pub putting-by : (k : ℕ) (front back : List ℕ) (n : ℕ) (o : Option ℕ) (at : ℕ) (out : List ℕ) → n ≡ 1 + length front + length back → o ≡ flaw k n back →
    ruled o (placed (framed (k ∷ (front ++ back))) at out) ≡ putting (k ∷ (front ++ back)) back at out
putting-by k front back n o at out e h =
    let l : n ≡ length (k ∷ (front ++ back)) = omega (arith, e, length-append front back) in
    ap (λ u. ruled u (placed (framed (k ∷ (front ++ back))) at out)) (h ∙ ap (λ m. flaw k m back) l)

-- What was written grows by the record.

placed-in : (b : Bool) (m n : ℕ) → ◌≡◌ {A = Result ℕ ℕ} (Ok n) (cond b (Ok m) (Err 9)) → (b ≡ true) × (n ≡ m)
placed-in true m n h = (refl, cc)
placed-in false m n h = (cc, cc)

placed-ok : (o : Option ℕ) (piece : List ℕ) (at n : ℕ) (out : List ℕ) → Ok n ≡ ruled o (placed piece at out) → (n ≡ at + length piece) × (n ≤ length out)
placed-ok None piece at n out h =
    let q = placed-in (leb (at + length piece) (length out)) (at + length piece) n h in
    (q.1, omega (arith, q.1, leb-true (at + length piece) (length out) q.0))
placed-ok (Some e) piece at n out h = absurd (let z : ◌≡◌ {A = ℕ} 0 1 = cc in omega arith)

grows : (o : Option ℕ) (piece : List ℕ) (at n : ℕ) (out new : List ℕ) → Ok n ≡ ruled o (placed piece at out) → new ≡ laid out at piece → take n new ≡ take at out ++ piece
grows o piece at n out new h e =
    let w = placed-ok o piece at n out h in
    let a : List ℕ = take at out in
    let l : length a ≡ at = simp length-take (omega (arith, w.0, w.1)) in
    let m : length (a ++ piece) ≡ n = simp length-append (omega (arith, l, w.0)) in
    ap (take n) (e ∙ sym (append_assoc a piece (drop (at + length piece) out))) ∙ take_at (a ++ piece) (drop (at + length piece) out) n m

-- Writing, from what was laid and answered.
pub puts : (ys text : List ℕ) (x y : Writer) (o : Result (Unit {0}) Cause) (r : Result ℕ ℕ) → r ≡ putting ys text x.place x.out.now → refused o ≡ refusal r → y.place ≡ place_now r x.place → y.out.now ≡ laid_over r x.out.now x.place (framed ys) → Puts ys text x y o
puts ys text x y o (Ok n) e a p q =
    record {
      value = a ∙ ap refusal e;
      place = p ∙ ap (λ r. place_now r x.place) e;
      out = q ∙ ap (λ r. laid_over r x.out.now x.place (framed ys)) e;
      whole = ap (λ i. take i y.out.now) p ∙ grows (flaw (get_or ys 0 0) (length ys) text) (framed ys) x.place n x.out.now y.out.now e q ∙ ap (λ u. grown u (bytes_of x) (framed ys)) (sym a);
    }
puts ys text x y o (Err n) e a p q =
    record {
      value = a ∙ ap refusal e;
      place = p ∙ ap (λ r. place_now r x.place) e;
      out = q ∙ ap (λ r. laid_over r x.out.now x.place (framed ys)) e;
      whole = ap (λ i. take i y.out.now) p ∙ ap (take x.place) q ∙ ap (λ u. grown u (bytes_of x) (framed ys)) (sym a);
    }
