-- The takers of each slot, gathered sensor by sensor. Assumes nothing.
use Rattle.std.proofs.Common.{◌≡◌, ℕ, ◌^◌, ◌<◌, Bool, true, false, cond, not, ◌&&◌, ◌||◌, List, length, get_or, set, sym, refl, ap, ◌∙◌, subst, inl, inr, arith, length-set, get_or-set_other, get_or-set_same}
use lib.Bits.{bit_and, bit_or}
use Rattle.std.proofs.lemmas.Bool.{cases_eq, cases_Bool, both_ways, and_left, cond-true, cond-false}
use Rattle.masks.specs.Masks.{has, without, Parted}
use Rattle.masks.proofs.Masks.{has-or, has-and, has-zero}
use Rattle.masks.proofs.Subsets.{single-other}
use Rattle.covering.specs.Matching.{Turned, Tells}
use Rattle.covering.specs.Covering.{candidate}
use Rattle.covering.proofs.Singles.{or-here, drop-gone, drop-other, drop-only, less-has, less-only, less-not}

-- some sensors taken in at the slots that are no more left
pub record Added (slots left who : ℕ) (old takers : List ℕ) : Type 0 where
  pub each : (v : ℕ) → v < 64 → get_or takers v 0 ≡ cond (has (without slots left) v) (bit_or (get_or old v 0) who) (get_or old v 0)
  pub inside : (v : ℕ) → has left v ≡ true → has slots v ≡ true
  pub long : length takers ≡ 64

pub added-start : (slots who : ℕ) (old : List ℕ) → length old ≡ 64 → Added slots slots who old old
added-start slots who old long = record {
  each = λ v l. sym (cond-false _ (bit_or (get_or old v 0) who) (get_or old v 0) (none v));
  inside = λ v e. e;
  long = long;
}
  where
    none : (v : ℕ) → has (without slots slots) v ≡ false
    none v = elim (cases_Bool (has (without slots slots) v)) [
      | inl t ↦ (let p = less-only slots slots v t in absurd (both_ways _ p.1 p.0))
      | inr f ↦ f
    ]

pub added_more : {slots left who v rest : ℕ} {old takers : List ℕ} → Parted left v rest → Added slots left who old takers
    → Added slots rest who old (set takers v (bit_or (get_or takers v 0) who))
added_more {slots} {left} {who} {v} {rest} {old} {takers} p h = subst (λ (x : ℕ). Added slots x who old (set takers v (bit_or (get_or takers v 0) who))) (sym p.others) (record {
  each = λ x lx. elim (cases_eq x v) [
    | inl z ↦ subst (λ (y : ℕ). get_or (set takers v (bit_or (get_or takers v 0) who)) y 0 ≡ cond (has (without slots (without left (2 ^ v))) y) (bit_or (get_or old y 0) who) (get_or old y 0)) (sym z) here
    | inr ne ↦ get_or-set_other takers v x _ 0 ne ∙ h.each x lx ∙ ap (λ (b : Bool). cond b (bit_or (get_or old x 0) who) (get_or old x 0)) (sym (same x ne))
  ];
  inside = λ x q. h.inside x (drop-only left v x q);
  long = length-set takers v _ ∙ h.long;
})
  where
    lv : v < 64
    lv = p.low

    e : has left v ≡ true
    e = p.member

    was : get_or takers v 0 ≡ get_or old v 0
    was = h.each v lv ∙ cond-false _ (bit_or (get_or old v 0) who) (get_or old v 0) (less-not slots left v e)

    here : get_or (set takers v (bit_or (get_or takers v 0) who)) v 0 ≡ cond (has (without slots (without left (2 ^ v))) v) (bit_or (get_or old v 0) who) (get_or old v 0)
    here =
        get_or-set_same takers v _ 0 (let a = h.long in omega arith) ∙ ap (λ (x : ℕ). bit_or x who) was
        ∙ sym (cond-true _ (bit_or (get_or old v 0) who) (get_or old v 0) (less-has slots (without left (2 ^ v)) v (h.inside v e) (drop-gone left v)))

    same : (x : ℕ) → (x ≡ v → ⊥) → has (without slots (without left (2 ^ v))) x ≡ has (without slots left) x
    same x ne = Rattle.masks.proofs.Masks.has-without slots (without left (2 ^ v)) x ∙ ap (λ (b : Bool). has slots x && not b) (drop-other left v x ne) ∙ sym (Rattle.masks.proofs.Masks.has-without slots left x)

pub added-all : {slots left who : ℕ} {old takers : List ℕ} → left ≡ 0 → Added slots left who old takers
    → (v : ℕ) → v < 64 → get_or takers v 0 ≡ cond (has slots v) (bit_or (get_or old v 0) who) (get_or old v 0)
added-all {slots} {left} {who} {old} z h v l =
    h.each v l ∙ ap (λ (b : Bool). cond b (bit_or (get_or old v 0) who) (get_or old v 0)) (ap (λ (x : ℕ). has (without slots x) v) z ∙ rest)
  where
    rest : has (without slots 0) v ≡ has slots v
    rest = Rattle.masks.proofs.Masks.has-without slots 0 v ∙ go (has slots v) (has 0 v) (has-zero v)
      where
        go : (a b : Bool) → b ≡ false → (a && not b) ≡ a
        go true b e = ap not e
        go false b e = refl

-- ---- sensor by sensor

pub turned-start : (cands : List ℕ) (sensors claimed : ℕ) (takers : List ℕ) → length takers ≡ 64 → ((v : ℕ) → v < 64 → get_or takers v 0 ≡ 0)
    → Turned cands sensors claimed sensors takers
turned-start cands sensors claimed takers long zeros = record {
  each = λ v i l. ap (λ (x : ℕ). has x i) (zeros v l) ∙ has-zero i ∙ sym (and_left _ _ (none i));
  inside = λ i e. e;
  long = long;
}
  where
    none : (v : ℕ) → has (without sensors sensors) v ≡ false
    none v = elim (cases_Bool (has (without sensors sensors) v)) [
      | inl t ↦ (let p = less-only sensors sensors v t in absurd (both_ways _ p.1 p.0))
      | inr f ↦ f
    ]

pub turned_more : {cands : List ℕ} {sensors claimed left i rest : ℕ} {old takers : List ℕ} → Parted left i rest → length takers ≡ 64
    → ((v : ℕ) → v < 64 → get_or takers v 0 ≡ cond (has (bit_and (get_or cands i 0) claimed) v) (bit_or (get_or old v 0) (2 ^ i)) (get_or old v 0))
    → Turned cands sensors claimed left old → Turned cands sensors claimed rest takers
turned_more {cands} {sensors} {claimed} {left} {i} {rest} {old} {takers} p long f h = subst (λ (x : ℕ). Turned cands sensors claimed x takers) (sym p.others) (record {
  each = λ v k l. ap (λ (x : ℕ). has x k) (f v l) ∙ elim (cases_eq k i) [
    | inl z ↦ subst (λ (x : ℕ). has (cond (has (bit_and (get_or cands i 0) claimed) v) (bit_or (get_or old v 0) (2 ^ i)) (get_or old v 0)) x
        ≡ (has (without sensors (without left (2 ^ i))) x && has (bit_and (get_or cands x 0) claimed) v)) (sym z) (here v l)
    | inr ne ↦ there v k ne (has (bit_and (get_or cands i 0) claimed) v) ∙ h.each v k l ∙ ap (λ (b : Bool). b && has (bit_and (get_or cands k 0) claimed) v) (sym (same k ne))
  ];
  inside = λ x q. h.inside x (drop-only left i x q);
  long = long;
})
  where
    e : has left i ≡ true
    e = p.member

    same : (x : ℕ) → (x ≡ i → ⊥) → has (without sensors (without left (2 ^ i))) x ≡ has (without sensors left) x
    same x ne = Rattle.masks.proofs.Masks.has-without sensors (without left (2 ^ i)) x ∙ ap (λ (b : Bool). has sensors x && not b) (drop-other left i x ne) ∙ sym (Rattle.masks.proofs.Masks.has-without sensors left x)

    there : (v k : ℕ) → (k ≡ i → ⊥) → (b : Bool) → has (cond b (bit_or (get_or old v 0) (2 ^ i)) (get_or old v 0)) k ≡ has (get_or old v 0) k
    there v k ne true = has-or (get_or old v 0) (2 ^ i) k ∙ go _ _ (single-other i k (λ z. ne (sym z)))
      where
        go : (a b : Bool) → b ≡ false → (a || b) ≡ a
        go true b e = refl
        go false b e = e
    there v k ne false = refl

    here : (v : ℕ) → v < 64 → has (cond (has (bit_and (get_or cands i 0) claimed) v) (bit_or (get_or old v 0) (2 ^ i)) (get_or old v 0)) i
        ≡ (has (without sensors (without left (2 ^ i))) i && has (bit_and (get_or cands i 0) claimed) v)
    here v l = elim (cases_Bool (has (bit_and (get_or cands i 0) claimed) v)) [
      | inl t ↦ rw t (or-here (get_or old v 0) i ∙ sym (ap (λ (b : Bool). b && true) now))
      | inr t ↦ rw t (h.each v i l ∙ and_left _ _ (less-not sensors left i e) ∙ sym (ap (λ (b : Bool). b && false) now))
    ]
      where
        now : has (without sensors (without left (2 ^ i))) i ≡ true
        now = less-has sensors (without left (2 ^ i)) i (h.inside i e) (drop-gone left i)

pub turned-all : {cands : List ℕ} {sensors claimed left : ℕ} {takers : List ℕ} → left ≡ 0 → Turned cands sensors claimed left takers → Turned cands sensors claimed 0 takers
turned-all {cands} {sensors} {claimed} {left} {takers} z h = subst (λ (x : ℕ). Turned cands sensors claimed x takers) z h

pub turned-tells : {cands : List ℕ} {sensors claimed : ℕ} {takers : List ℕ} → ((v : ℕ) → has claimed v ≡ true → v < 64)
    → Turned cands sensors claimed 0 takers → Tells (candidate cands) sensors claimed takers
turned-tells {cands} {sensors} {claimed} low h i v e c =
    h.each v i (low v c) ∙ go _ _ _ _ (less-has sensors 0 i e (has-zero i)) (has-and (get_or cands i 0) claimed v) c
  where
    go : (a b x y : Bool) → a ≡ true → b ≡ (x && y) → y ≡ true → (a && b) ≡ x
    go true b true y p q r = q ∙ r
    go true b false y p q r = q
    go false b x y p q r = absurd (both_ways false refl p)
