-- Rows turned, two at a time. Assumes nothing.
use Rattle.std.proofs.Common.{◌≡◌, ℕ, ◌+◌, ◌^◌, ◌<◌, Bool, true, false, cond, not, ◌&&◌, ◌||◌, ltb, List, length, get_or, sym, refl, ap, ◌∙◌, inl, inr, arith}
use lib.Bits.{bit_and, bit_or}
use Rattle.std.proofs.lemmas.Bool.{cases_eq, cases_lt, lt-ltb, le-ltb}
use Rattle.masks.specs.Masks.{has, without}
use Rattle.masks.proofs.Masks.{has-and, has-or, has-without, has-zero}
use Rattle.masks.proofs.Subsets.{single-has, single-other}

-- ---- two rows

-- some numbers taken in
taken : (b : Bool) (m who v : ℕ) → has (cond b (bit_or m who) m) v ≡ (has m v || (b && has who v))
taken true m who v = has-or m who v
taken false m who v = go (has m v)
  where
    go : (x : Bool) → x ≡ (x || false)
    go true = refl
    go false = refl

-- at a slot of both, of a alone and of b alone
both : (x a b w o : Bool) → (((x || ((a && b) && (w || o))) || ((a && not b) && w)) || ((b && not a) && o)) ≡ ((x || (a && w)) || (b && o))
both true true true w o = refl
both true true false w o = refl
both true false true w o = refl
both true false false w o = refl
both false true true true o = refl
both false true true false true = refl
both false true true false false = refl
both false true false w o = refl
both false false true w o = refl
both false false false w o = refl

pub two-taken : (old x y new a one b other u v : ℕ) → x ≡ cond (has (bit_and a b) u) (bit_or old (bit_or one other)) old → y ≡ cond (has (without a b) u) (bit_or x one) x
    → new ≡ cond (has (without b a) u) (bit_or y other) y → has new v ≡ ((has old v || (has a u && has one v)) || (has b u && has other v))
two-taken old x y new a one b other u v p q r =
    let e1 : has x v ≡ (has old v || ((has a u && has b u) && (has one v || has other v))) =
    ap (λ (m : ℕ). has m v) p ∙ taken (has (bit_and a b) u) old (bit_or one other) v ∙ ap (λ (t : Bool). has old v || (t && has (bit_or one other) v)) (has-and a b u)
    ∙ ap (λ (t : Bool). has old v || ((has a u && has b u) && t)) (has-or one other v) in
    let e2 : has y v ≡ (has x v || ((has a u && not (has b u)) && has one v)) =
    ap (λ (m : ℕ). has m v) q ∙ taken (has (without a b) u) x one v ∙ ap (λ (t : Bool). has x v || (t && has one v)) (has-without a b u) in
    ap (λ (m : ℕ). has m v) r ∙ taken (has (without b a) u) y other v ∙ ap (λ (t : Bool). has y v || (t && has other v)) (has-without b a u)
    ∙ ap (λ (t : Bool). t || ((has b u && not (has a u)) && has other v)) (e2 ∙ ap (λ (t : Bool). t || ((has a u && not (has b u)) && has one v)) e1)
    ∙ both (has old v) (has a u) (has b u) (has one v) (has other v)

-- ---- row by row

-- the rows below n are turned
pub record Turning (rows : List ℕ) (n : ℕ) (turned : List ℕ) : Type 0 where
  pub each : (u v : ℕ) → u < 64 → has (get_or turned u 0) v ≡ (ltb v n && has (get_or rows v 0) u)
  pub long : length turned ≡ 64

pub turning-start : (rows turned : List ℕ) → length turned ≡ 64 → ((u : ℕ) → u < 64 → get_or turned u 0 ≡ 0) → Turning rows 0 turned
turning-start rows turned long zeros = record {
  each = λ u v l. ap (λ (m : ℕ). has m v) (zeros u l) ∙ has-zero v ∙ sym (ap (λ (t : Bool). t && has (get_or rows v 0) u) (le-ltb v 0 (omega arith)));
  long = long;
}

-- a number that is no new one stays as it was
still : (x a b r : Bool) → x ≡ r → ((x || (a && false)) || (b && false)) ≡ r
still true true true r e = e
still true true false r e = e
still true false true r e = e
still true false false r e = e
still false true true r e = e
still false true false r e = e
still false false true r e = e
still false false false r e = e

first : (a b : Bool) → ((false || (a && true)) || (b && false)) ≡ a
first true b = refl
first false true = refl
first false false = refl

second : (a b : Bool) → ((false || (a && false)) || (b && true)) ≡ b
second true true = refl
second true false = refl
second false true = refl
second false false = refl

pub turning-more : {rows turned new : List ℕ} {i : ℕ} → length new ≡ 64
    → ((u v : ℕ) → u < 64 → has (get_or new u 0) v ≡ ((has (get_or turned u 0) v || (has (get_or rows i 0) u && has (2 ^ i) v)) || (has (get_or rows (i + 1) 0) u && has (2 ^ (i + 1)) v)))
    → Turning rows i turned → Turning rows (i + 2) new
turning-more {rows} {turned} {new} {i} long came h = record {
  each = λ u v l. came u v l ∙ go u v l;
  long = long;
}
  where
    shape : (x a p b q x' p' q' : Bool) → x ≡ x' → p ≡ p' → q ≡ q' → ((x || (a && p)) || (b && q)) ≡ ((x' || (a && p')) || (b && q'))
    shape x a p b q x' p' q' e f g = cc

    go : (u v : ℕ) → u < 64 → ((has (get_or turned u 0) v || (has (get_or rows i 0) u && has (2 ^ i) v)) || (has (get_or rows (i + 1) 0) u && has (2 ^ (i + 1)) v))
        ≡ (ltb v (i + 2) && has (get_or rows v 0) u)
    go u v l = elim (cases_eq v i) [
      | inl z ↦
          let x : has (get_or turned u 0) v ≡ false = h.each u v l ∙ ap (λ (t : Bool). t && has (get_or rows v 0) u) (le-ltb v i (omega arith)) in
          let p : has (2 ^ i) v ≡ true = ap (λ (k : ℕ). has (2 ^ i) k) z ∙ single-has i in
          let q : has (2 ^ (i + 1)) v ≡ false = single-other (i + 1) v (λ e. omega arith) in
          shape _ _ _ _ _ _ _ _ x p q ∙ first (has (get_or rows i 0) u) (has (get_or rows (i + 1) 0) u) ∙ ap (λ (k : ℕ). has (get_or rows k 0) u) (sym z)
          ∙ sym (ap (λ (t : Bool). t && has (get_or rows v 0) u) (lt-ltb v (i + 2) (omega arith)))
      | inr ne ↦ elim (cases_eq v (i + 1)) [
        | inl z ↦
            let x : has (get_or turned u 0) v ≡ false = h.each u v l ∙ ap (λ (t : Bool). t && has (get_or rows v 0) u) (le-ltb v i (omega arith)) in
            let p : has (2 ^ i) v ≡ false = single-other i v (λ e. ne (sym e)) in
            let q : has (2 ^ (i + 1)) v ≡ true = ap (λ (k : ℕ). has (2 ^ (i + 1)) k) z ∙ single-has (i + 1) in
            shape _ _ _ _ _ _ _ _ x p q ∙ second (has (get_or rows i 0) u) (has (get_or rows (i + 1) 0) u) ∙ ap (λ (k : ℕ). has (get_or rows k 0) u) (sym z)
            ∙ sym (ap (λ (t : Bool). t && has (get_or rows v 0) u) (lt-ltb v (i + 2) (omega arith)))
        | inr nf ↦
            let p : has (2 ^ i) v ≡ false = single-other i v (λ e. ne (sym e)) in
            let q : has (2 ^ (i + 1)) v ≡ false = single-other (i + 1) v (λ e. nf (sym e)) in
            let x : has (get_or turned u 0) v ≡ has (get_or turned u 0) v = refl in
            shape _ _ _ _ _ _ _ _ x p q ∙ still (has (get_or turned u 0) v) (has (get_or rows i 0) u) (has (get_or rows (i + 1) 0) u) (ltb v i && has (get_or rows v 0) u) (h.each u v l)
            ∙ ap (λ (t : Bool). t && has (get_or rows v 0) u) (side v ne nf)
      ]
    ]
      where
        side : (v : ℕ) → (v ≡ i → ⊥) → (v ≡ i + 1 → ⊥) → ltb v i ≡ ltb v (i + 2)
        side v ne nf = elim (cases_lt v i) [
          | inl t ↦ lt-ltb v i t ∙ sym (lt-ltb v (i + 2) (omega arith))
          | inr t ↦ le-ltb v i t ∙ sym (le-ltb v (i + 2) (omega (arith, ne, nf)))
        ]
