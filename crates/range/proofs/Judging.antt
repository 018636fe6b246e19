-- What the coverings say, sensor by sensor. Assumes nothing.
use Rattle.std.proofs.Common.{◌≡◌, ℕ, ◌^◌, true, List, length, get_or, set, sym, ◌∙◌, subst, inl, inr, arith, length-set, get_or-set_other, get_or-set_same}
use lib.Bits.{bit_or}
use Rattle.std.proofs.lemmas.Bool.{both_ways, cases_eq, or_cases, or_left, or_right}
use Rattle.masks.specs.Masks.{has, Parted}
use Rattle.masks.proofs.Masks.{has-or, has-zero}
use Rattle.covering.specs.Covering.{Covering, Needed, candidate}
use Rattle.covering.proofs.Singles.{part-only, part-out, or-here, or-keeps, or-only}
use Rattle.range.specs.Judged.{Freed, Held, Judged, Loose, Tied}
use Rattle.range.specs.Survey.{common}

pub judged-start : (cands : List ℕ) (sensors claimed lower upper : ℕ) → length cands ≡ 64 → (on : ℕ → ℕ) → Covering (candidate cands) sensors claimed on
    → Judged cands sensors claimed lower upper sensors cands 0 0
judged-start cands sensors claimed lower upper l on covers = record {
  inside = λ i e. e;
  long = l;
  on = on;
  covers = covers;
  each = λ i e f. absurd (both_ways _ f e);
  bound_from = λ i e. absurd (both_ways _ (has-zero i) e);
  near_from = λ v e. absurd (both_ways _ (has-zero v) e);
}

module _ {cands : List ℕ} {sensors claimed lower upper left : ℕ} {keep : List ℕ} {bound near : ℕ} {i rest : ℕ} (p : Parted left i rest)
    (h : Judged cands sensors claimed lower upper left keep bound near) where
  here : (m : ℕ) → get_or (set keep i m) i 0 ≡ m
  here m = get_or-set_same keep i m 0 (let a = h.long in let b = p.low in omega arith)

  there : (m k : ℕ) → (k ≡ i → ⊥) → get_or (set keep i m) k 0 ≡ get_or keep k 0
  there m k ne = get_or-set_other keep i k m 0 ne

  -- the others are as they were
  freed-still : (m more k : ℕ) → (k ≡ i → ⊥) → ((v : ℕ) → has near v ≡ true → has more v ≡ true) → Freed cands sensors claimed lower upper keep near k
      → Freed cands sensors claimed lower upper (set keep i m) more k
  freed-still m more k ne w f = record {
    loose = subst (λ (u : ℕ). Loose (candidate cands) sensors claimed lower upper (get_or cands k 0) u k) (sym (there m k ne)) f.loose;
    offers = λ v q. w v (f.offers v q);
  }

  held-still : (m more k : ℕ) → (k ≡ i → ⊥) → ((j : ℕ) → has bound j ≡ true → has more j ≡ true) → Held cands sensors claimed keep bound k
      → Held cands sensors claimed (set keep i m) more k
  held-still m more k ne w f = record {
    tied = subst (λ (u : ℕ). Tied (candidate cands) sensors claimed (get_or cands k 0) u k) (sym (there m k ne)) f.tied;
    taken = w k f.taken;
  }

  pub judged-held : (m : ℕ) → Tied (candidate cands) sensors claimed (get_or cands i 0) m i
      → Judged cands sensors claimed lower upper rest (set keep i m) (bit_or bound (2 ^ i)) near
  judged-held m n =
      let mine : Held cands sensors claimed (set keep i m) (bit_or bound (2 ^ i)) i = record {
        tied = subst (λ (u : ℕ). Tied (candidate cands) sensors claimed (get_or cands i 0) u i) (sym (here m)) n;
        taken = or-here bound i;
      } in
      record {
        inside = λ k q. h.inside k (part-only p k q);
        long = length-set keep i m ∙ h.long;
        on = h.on;
        covers = h.covers;
        each = λ k s f. elim (cases_eq k i) [
          | inl z ↦ inr (subst (λ (x : ℕ). Held cands sensors claimed (set keep i m) (bit_or bound (2 ^ i)) x) (sym z) mine)
          | inr ne ↦ elim (h.each k s (part-out p k ne f)) [
            | inl q ↦ inl (freed-still m near k ne (λ v e. e) q)
            | inr q ↦ inr (held-still m (bit_or bound (2 ^ i)) k ne (or-keeps bound i) q)
          ]
        ];
        bound_from = λ k q. elim (or-only bound i k q) [
          | inl z ↦ (n.group, subst (λ (x : ℕ). Needed (candidate cands) sensors claimed x n.group) (sym z) n.needed)
          | inr y ↦ h.bound_from k y
        ];
        near_from = h.near_from;
      }

  pub judged-freed : (m : ℕ) → Loose (candidate cands) sensors claimed lower upper (get_or cands i 0) m i
      → Judged cands sensors claimed lower upper rest (set keep i m) bound (bit_or near (common cands upper i))
  judged-freed m a =
      let mine : Freed cands sensors claimed lower upper (set keep i m) (bit_or near (common cands upper i)) i = record {
        loose = subst (λ (u : ℕ). Loose (candidate cands) sensors claimed lower upper (get_or cands i 0) u i) (sym (here m)) a;
        offers = λ v t. has-or near (common cands upper i) v ∙ or_right _ _ t;
      } in
      record {
        inside = λ k q. h.inside k (part-only p k q);
        long = length-set keep i m ∙ h.long;
        on = h.on;
        covers = h.covers;
        each = λ k s f. elim (cases_eq k i) [
          | inl z ↦ inl (subst (λ (x : ℕ). Freed cands sensors claimed lower upper (set keep i m) (bit_or near (common cands upper i)) x) (sym z) mine)
          | inr ne ↦ elim (h.each k s (part-out p k ne f)) [
            | inl t ↦ inl (freed-still m (bit_or near (common cands upper i)) k ne (λ v q. has-or near (common cands upper i) v ∙ or_left _ _ q) t)
            | inr t ↦ inr (held-still m bound k ne (λ j e. e) t)
          ]
        ];
        bound_from = h.bound_from;
        near_from = λ v t. elim (or_cases _ _ (sym (has-or near (common cands upper i) v) ∙ t)) [
          | inl y ↦ h.near_from v y
          | inr y ↦ (i, h.inside i p.member, a.spared, y)
        ];
      }

pub judged-all : {cands : List ℕ} {sensors claimed lower upper left : ℕ} {keep : List ℕ} {bound near : ℕ} → left ≡ 0
    → Judged cands sensors claimed lower upper left keep bound near → Judged cands sensors claimed lower upper 0 keep bound near
judged-all {cands = cands} {sensors = sensors} {claimed = claimed} {lower = lower} {upper = upper} {keep = keep} {bound = bound} {near = near} z h =
    subst (λ (x : ℕ). Judged cands sensors claimed lower upper x keep bound near) z h
