-- Texts put one after the other. Assumes nothing.
use Rattle.std.proofs.Common.{◌≡◌, ℕ, ◌+◌, ◌^◌, ◌<◌, ◌≤◌, true, false, cond, List, [], ◌∷◌, ◌++◌, length, get_or, take, drop, decimal, sym, refl, ap, ◌∙◌, append_assoc, append-nil, add-one, arith, length-append, take-append-drop, length-take}
use Rattle.std.proofs.lemmas.List.{drop-drop, take_at, drop_at}
use Rattle.masks.specs.Masks.{has}
use Rattle.text.specs.declared.pen.Pen.{Pen}
use Rattle.text.specs.Lines.{Put, members, sensor_line, sensor_lines, set_line, set_lines}
use Rattle.text.specs.Pens.{Puts}

put-none : (at : ℕ) (out : List ℕ) → Put [] at at out out
put-none at out = record { after = omega arith; bytes = λ _. sym (take-append-drop at out) }

-- a text, and then another
put-join : {s t : List ℕ} {at r₁ r₂ : ℕ} {o o₁ o₂ : List ℕ} → length o₁ ≡ length o → Put s at r₁ o o₁ → Put t r₁ r₂ o₁ o₂ → Put (s ++ t) at r₂ o o₂
put-join {s} {t} {at} {r₁} {r₂} {o} {o₁} {o₂} same p q = record {
  after = omega (arith, length-append s t);
  bytes = λ h.
      let h₁ : r₁ ≤ length o = omega arith in
      let h₂ : r₂ ≤ length o₁ = omega arith in
      let e₁ : o₁ ≡ (take at o ++ s) ++ drop r₁ o = p.bytes h₁ ∙ sym (append_assoc (take at o) s (drop r₁ o)) in
      let n : length (take at o ++ s) ≡ r₁ = simp (length-append, length-take) (omega arith) in
      let f : take r₁ o₁ ≡ take at o ++ s = ap (take r₁) e₁ ∙ take_at (take at o ++ s) (drop r₁ o) r₁ n in
      let g : drop r₁ o₁ ≡ drop r₁ o = ap (drop r₁) e₁ ∙ drop_at (take at o ++ s) (drop r₁ o) r₁ n in
      let d : drop r₂ o₁ ≡ drop r₂ o = rw q.after (sym (drop-drop (length t) r₁ o₁) ∙ ap (drop (length t)) g ∙ drop-drop (length t) r₁ o) in
      q.bytes h₂ ∙ ap (λ x. x ++ (t ++ drop r₂ o₁)) f ∙ ap (λ x. (take at o ++ s) ++ (t ++ x)) d ∙ simp append_assoc;
}

pub puts_none : (p : Pen) → Puts [] p p
puts_none p = record { same = refl; long = refl; put = λ _. put-none p.at p.out.now }

pub puts_join : {s t : List ℕ} {p q r : Pen} → Puts s p q → Puts t q r → Puts (s ++ t) p r
puts_join {s} {t} {p} {q} {r} a b = record {
  same = b.same ∙ a.same;
  long = b.long ∙ a.long;
  put = λ h.
      let n : length (s ++ t) ≡ length s + length t = length-append s t in
      let x : Put s p.at q.at p.out.now q.out.now = a.put (omega arith) in
      put-join a.long x (b.put (omega arith));
}

-- what a new pen has put when its output is let go
pub put_in_front : {text : List ℕ} {p q : Pen} {o o' : List ℕ} → p.at ≡ 0 → p.out.now ≡ o → length text < 2 ^ 64 → Puts text p q → o' ≡ q.out.now → Put text 0 q.at o o'
put_in_front {text} {p} {q} {o} {o'} place output short puts last =
    let t : Put text p.at q.at p.out.now q.out.now = puts.put (omega arith) in
    rw (last, ← output, ← place) t

pub members_none : (m : ℕ) (p : Pen) → Puts (members m 0) p p
unfolding members
members_none m p = puts_none p

members_more : (m i : ℕ) → members m (i + 1) ≡ members m i ++ cond (has m i) (32 ∷ decimal i) []
unfolding members
members_more m i = rw add-one

pub members_with : (m i : ℕ) {p q r : Pen} → has m i ≡ true → Puts (members m i) p q → Puts (32 ∷ decimal i) q r → Puts (members m (i + 1)) p r
members_with m i h a b = rw (members_more m i, h) (puts_join a b)

pub members_skip : (m i : ℕ) {p q : Pen} → has m i ≡ false → Puts (members m i) p q → Puts (members m (i + 1)) p q
members_skip m i h a = rw (members_more m i, h, append-nil) a

pub sensors_none : (c : List ℕ) (p : Pen) → Puts (sensor_lines c 0) p p
unfolding sensor_lines
sensors_none c p = puts_none p

pub sensors_more : (c : List ℕ) (i : ℕ) {p q r : Pen} → Puts (sensor_lines c i) p q → Puts (sensor_line i (get_or c i 0)) q r → Puts (sensor_lines c (i + 1)) p r
unfolding sensor_lines
sensors_more c i a b = rw add-one (puts_join a b)

pub sets_none : (lo hi : List ℕ) (p : Pen) → Puts (set_lines lo hi 0) p p
unfolding set_lines
sets_none lo hi p = puts_none p

pub sets_more : (lo hi : List ℕ) (j : ℕ) {p q r : Pen} → Puts (set_lines lo hi j) p q → Puts (set_line j (get_or lo j 0) (get_or hi j 0)) q r → Puts (set_lines lo hi (j + 1)) p r
unfolding set_lines
sets_more lo hi j a b = rw add-one (puts_join a b)
