-- The way back from a sensor to the bare slot w: each slot takes the sensor that was seen from it. Assumes nothing.
use Rattle.std.proofs.Common.{◌≡◌, ℕ, zero, suc, ◌+◌, ◌^◌, ◌<◌, ◌≤◌, Bool, true, false, ◌⊎◌, List, length, get_or, set, sym, refl, ap, ◌∙◌, subst, inl, inr, arith, length-set, get_or-set_other, get_or-set_same}
use lib.Bits.{bit_or}
use lib.Count.{ones-le}
use Rattle.std.proofs.lemmas.Bool.{cases_eq, both_ways}
use Rattle.masks.specs.Masks.{has, without}
use Rattle.masks.proofs.Masks.{has-below}
use Rattle.masks.proofs.Subsets.{within_all}
use Rattle.masks.proofs.Counts.{ones-within}
use Rattle.covering.specs.Matching.{Noted, Bare, Marked, Busy, Long, Matching}
use Rattle.covering.specs.Search.{Marks, Led}
use Rattle.covering.proofs.Singles.{or-here, or-keeps, or-only, left_out}

-- the sensors `but` apart, owners are claimed and have their notes
abbrev pub Others : (ℕ → Type 0) → ℕ → List ℕ → List ℕ → Type 0
Others but claimed notes owner =
    (j : ℕ) → j < 64 → (but j → ⊥) → get_or owner j 0 < 64 → (has claimed (get_or owner j 0) ≡ true) × (get_or notes (get_or owner j 0) 0 ≡ j)

-- the flip under way: sensor i has no slot, and sensors seen before it are as they were
pub record Flip (takers : List ℕ) (sensors claimed seen : ℕ) (when : ℕ → ℕ) (first notes owner : List ℕ) (i : ℕ) : Type 0 where
  pub last : has seen i ≡ true
  pub unused : (v : ℕ) → has claimed v ≡ true → get_or notes v 0 ≡ i → ⊥
  pub noted : Noted takers sensors claimed notes owner
  pub others : Others (λ j. j ≡ i) claimed notes owner
  pub bare : Bare claimed notes
  pub marked : Marked owner
  pub long : Long notes owner
  pub same : (j : ℕ) → has seen j ≡ true → when j < when i → get_or owner j 0 ≡ get_or first j 0

-- the same with the marks that the search left, after `steps` steps
pub record Flipping (takers : List ℕ) (sensors claimed w : ℕ) (from first notes owner : List ℕ) (i steps : ℕ) : Type 0 where
  pub seen : ℕ
  pub marks : Marks takers first sensors w from seen
  pub flip : Flip takers sensors claimed seen marks.when first notes owner i
  pub left : marks.when i + steps < 64

module _ {takers first from : List ℕ} {sensors claimed w seen : ℕ} {notes owner : List ℕ} {i : ℕ}
    (low : (j : ℕ) → has sensors j ≡ true → j < 64) (bare-w : has claimed w ≡ false)
    (m : Marks takers first sensors w from seen) (h : Flip takers sensors claimed seen m.when first notes owner i) where
  i-low : i < 64
  i-low = low i (m.edge i h.last).0

  note-here : get_or (set notes (get_or from i 0) i) (get_or from i 0) 0 ≡ i
  note-here = get_or-set_same notes (get_or from i 0) i 0 (let a = (m.edge i h.last).1 in let b = h.long.0 in omega arith)

  note-there : (v : ℕ) → (v ≡ get_or from i 0 → ⊥) → get_or (set notes (get_or from i 0) i) v 0 ≡ get_or notes v 0
  note-there v ne = get_or-set_other notes (get_or from i 0) v i 0 ne

  owner_here : get_or (set owner i (get_or from i 0)) i 0 ≡ get_or from i 0
  owner_here = get_or-set_same owner i (get_or from i 0) 0 (let a = i-low in let b = h.long.1 in omega arith)

  owner-there : (j : ℕ) → (j ≡ i → ⊥) → get_or (set owner i (get_or from i 0)) j 0 ≡ get_or owner j 0
  owner-there j ne = get_or-set_other owner i j (get_or from i 0) 0 ne

  -- one step, after which the slots of `next` are claimed
  module _ (next : ℕ) (grown : (v : ℕ) → has claimed v ≡ true → has next v ≡ true) (taken : has next (get_or from i 0) ≡ true)
      (grew : (v : ℕ) → has next v ≡ true → (v ≡ get_or from i 0) ⊎ (has claimed v ≡ true)) where
    step-noted : Noted takers sensors next (set notes (get_or from i 0) i) (set owner i (get_or from i 0))
    step-noted v e = elim (cases_eq v (get_or from i 0)) [
      | inl z ↦
          let n : get_or (set notes (get_or from i 0) i) v 0 ≡ i = ap (λ (x : ℕ). get_or (set notes (get_or from i 0) i) x 0) z ∙ note-here in
          let g = m.edge i h.last in
          subst (λ (x : ℕ). (has sensors x ≡ true) × (has (get_or takers v 0) x ≡ true) × (get_or (set owner i (get_or from i 0)) x 0 ≡ v)) (sym n)
          (g.0, subst (λ (x : ℕ). has (get_or takers x 0) i ≡ true) (sym z) g.2, owner_here ∙ sym z)
      | inr ne ↦
          let old : has claimed v ≡ true = elim (grew v e) [ inl z ↦ absurd (ne z) | inr t ↦ t ] in
          let g = h.noted v old in
          subst (λ (x : ℕ). (has sensors x ≡ true) × (has (get_or takers v 0) x ≡ true) × (get_or (set owner i (get_or from i 0)) x 0 ≡ v)) (sym (note-there v ne))
          (g.0, g.1, owner-there (get_or notes v 0) (h.unused v old) ∙ g.2)
    ]

    step-others : (but : ℕ → Type 0) → ((j : ℕ) → has claimed (get_or from i 0) ≡ true → get_or notes (get_or from i 0) 0 ≡ j → but j)
        → Others but next (set notes (get_or from i 0) i) (set owner i (get_or from i 0))
    step-others but clash j lj nb l = elim (cases_eq j i) [
      | inl z ↦
          let o : get_or (set owner i (get_or from i 0)) j 0 ≡ get_or from i 0 = ap (λ (x : ℕ). get_or (set owner i (get_or from i 0)) x 0) z ∙ owner_here in
          subst (λ (x : ℕ). (has next x ≡ true) × (get_or (set notes (get_or from i 0) i) x 0 ≡ j)) (sym o) (taken, note-here ∙ sym z)
      | inr ne ↦
          let o = owner-there j ne in
          let g = h.others j lj ne (subst (λ (x : ℕ). x < 64) o l) in
          subst (λ (x : ℕ). (has next x ≡ true) × (get_or (set notes (get_or from i 0) i) x 0 ≡ j)) (sym o)
          (grown _ g.0, note-there (get_or owner j 0) (λ z. nb (clash j (subst (λ (x : ℕ). has claimed x ≡ true) z g.0) (subst (λ (x : ℕ). get_or notes x 0 ≡ j) z g.1))) ∙ g.1)
    ]

    step-bare : Bare next (set notes (get_or from i 0) i)
    step-bare v lv e =
        note-there v (λ z. both_ways _ e (subst (λ (x : ℕ). has next x ≡ true) (sym z) taken)) ∙ h.bare v lv (unclaimed (has claimed v) refl)
      where
        unclaimed : (t : Bool) → has claimed v ≡ t → has claimed v ≡ false
        unclaimed true q = absurd (both_ways _ e (grown v q))
        unclaimed false q = q

  step-marked : Marked (set owner i (get_or from i 0))
  step-marked j lj = elim (cases_eq j i) [
    | inl z ↦ (let o : get_or (set owner i (get_or from i 0)) j 0 ≡ get_or from i 0 = ap (λ (x : ℕ). get_or (set owner i (get_or from i 0)) x 0) z ∙ owner_here in
        let a = (m.edge i h.last).1 in omega arith)
    | inr ne ↦ subst (λ (x : ℕ). x ≤ 64) (sym (owner-there j ne)) (h.marked j lj)
  ]

  step-long : Long (set notes (get_or from i 0) i) (set owner i (get_or from i 0))
  step-long = (length-set notes (get_or from i 0) i ∙ h.long.0, length-set owner i (get_or from i 0) ∙ h.long.1)

  -- the last step
  pub flip-done : get_or from i 0 ≡ w
      → Matching takers sensors (bit_or claimed (2 ^ w)) (set notes (get_or from i 0) i) (set owner i (get_or from i 0))
  flip-done e = record {
    noted = step-noted next grown taken grew;
    owned = λ j lj l. (all j lj (λ z. z) l).0;
    returned = λ j lj l. (all j lj (λ z. z) l).1;
    bare = step-bare next grown taken grew;
    marked = step-marked;
    long = step-long;
  }
    where
      next : ℕ
      next = bit_or claimed (2 ^ w)

      grown : (v : ℕ) → has claimed v ≡ true → has (bit_or claimed (2 ^ w)) v ≡ true
      grown v t = or-keeps claimed w v t

      taken : has (bit_or claimed (2 ^ w)) (get_or from i 0) ≡ true
      taken = subst (λ (x : ℕ). has (bit_or claimed (2 ^ w)) x ≡ true) (sym e) (or-here claimed w)

      grew : (v : ℕ) → has (bit_or claimed (2 ^ w)) v ≡ true → (v ≡ get_or from i 0) ⊎ (has claimed v ≡ true)
      grew v t = elim (or-only claimed w v t) [ inl z ↦ inl (z ∙ sym e) | inr q ↦ inr q ]

      all : Others (λ j. ⊥) (bit_or claimed (2 ^ w)) (set notes (get_or from i 0) i) (set owner i (get_or from i 0))
      all = step-others (bit_or claimed (2 ^ w)) grown taken grew (λ j. ⊥) (λ j t q. both_ways _ bare-w (subst (λ (x : ℕ). has claimed x ≡ true) e t))

  -- a step before the last: the sensor that had the slot comes next
  module _ (ne : get_or from i 0 ≡ w → ⊥) where
    prior : (j : ℕ) × (has seen j ≡ true) × (get_or owner j 0 ≡ get_or from i 0) × (m.when j < m.when i)
    prior = elim (m.back i h.last) [
      | inl z ↦ absurd (ne z)
      | inr q ↦ (q.0, q.1, h.same q.0 q.1 q.3 ∙ q.2, q.3)
    ]

    apart : (j : ℕ) → m.when j < m.when i → j ≡ i → ⊥
    apart j l z = let same = ap m.when z in omega arith

    had : (has claimed (get_or from i 0) ≡ true) × (get_or notes (get_or from i 0) 0 ≡ prior.0)
    had =
        let p = prior in
        let g = h.others p.0 (low p.0 (m.edge p.0 p.1).0) (apart p.0 p.3) (let a = (m.edge i h.last).1 in let b = p.2 in omega arith) in
        subst (λ (x : ℕ). (has claimed x ≡ true) × (get_or notes x 0 ≡ p.0)) p.2 g

    pub flip-less : m.when (get_or notes (get_or from i 0) 0) < m.when i
    flip-less = subst (λ (x : ℕ). m.when x < m.when i) (sym had.1) prior.3

    pub flip-on : Flip takers sensors claimed seen m.when first (set notes (get_or from i 0) i) (set owner i (get_or from i 0)) (get_or notes (get_or from i 0) 0)
    flip-on = subst (λ (x : ℕ). Flip takers sensors claimed seen m.when first (set notes (get_or from i 0) i) (set owner i (get_or from i 0)) x) (sym had.1) (record {
      last = prior.1;
      unused = unused;
      noted = step-noted claimed (λ v t. t) had.0 (λ v t. inr t);
      others = step-others claimed (λ v t. t) had.0 (λ v t. inr t) (λ j. j ≡ prior.0) (λ j t q. sym q ∙ had.1);
      bare = step-bare claimed (λ v t. t) had.0 (λ v t. inr t);
      marked = step-marked;
      long = step-long;
      same = λ j s l.
          let k : m.when j < m.when i = (let a = prior.3 in omega arith) in
          owner-there j (apart j k) ∙ h.same j s k;
    })
      where
        unused : (v : ℕ) → has claimed v ≡ true → get_or (set notes (get_or from i 0) i) v 0 ≡ prior.0 → ⊥
        unused v t q = elim (cases_eq v (get_or from i 0)) [
          | inl z ↦ apart prior.0 prior.3 (sym q ∙ ap (λ (x : ℕ). get_or (set notes (get_or from i 0) i) x 0) z ∙ note-here)
          | inr nu ↦ nu (sym (h.noted v t).2 ∙ ap (λ (x : ℕ). get_or owner x 0) (sym (note-there v nu) ∙ q) ∙ prior.2)
        ]

    -- a slot with a sensor seen later keeps it
    pub flip-keeps : (v j : ℕ) → has claimed v ≡ true → get_or notes v 0 ≡ j → m.when i < m.when j → get_or (set notes (get_or from i 0) i) v 0 ≡ j
    flip-keeps v j t q l = note-there v (λ z.
        let k : prior.0 ≡ j = sym had.1 ∙ ap (λ (x : ℕ). get_or notes x 0) (sym z) ∙ q in
        let a = prior.3 in
        let b = ap m.when k in
        omega arith) ∙ q

-- a way back gone to its end
pub record Flipped (takers : List ℕ) (sensors claimed w : ℕ) (when : ℕ → ℕ) (notes : List ℕ) (i u : ℕ) : Type 0 where
  pub new : List ℕ
  pub held : List ℕ
  pub matching : Matching takers sensors (bit_or claimed (2 ^ w)) new held
  pub keeps : (v j : ℕ) → has claimed v ≡ true → get_or notes v 0 ≡ j → when i < when j → get_or new v 0 ≡ j
  pub laid : get_or new u 0 ≡ i

pub flip-all : (n : ℕ) {takers first from : List ℕ} {sensors claimed w seen : ℕ} {notes owner : List ℕ} {i : ℕ}
    → ((j : ℕ) → has sensors j ≡ true → j < 64) → has claimed w ≡ false
    → (m : Marks takers first sensors w from seen) → Flip takers sensors claimed seen m.when first notes owner i → m.when i < n
    → Flipped takers sensors claimed w m.when notes i (get_or from i 0)
flip-all zero low b m h l = absurd (omega arith)
flip-all (suc n) {from = from} {claimed = claimed} {w = w} {notes = notes} {owner = owner} {i = i} low b m h l = elim (cases_eq (get_or from i 0) w) [
  | inl e ↦ record {
    new = set notes (get_or from i 0) i;
    held = set owner i (get_or from i 0);
    matching = flip-done low b m h e;
    keeps = λ v j t q k. get_or-set_other notes (get_or from i 0) v i 0 (λ z. both_ways _ b (subst (λ (x : ℕ). has claimed x ≡ true) (z ∙ e) t)) ∙ q;
    laid = note-here low b m h;
  }
  | inr ne ↦
      let less = flip-less low b m h ne in
      let rest = flip-all n low b m (flip-on low b m h ne) (omega arith) in
      record {
        new = rest.new;
        held = rest.held;
        matching = rest.matching;
        keeps = λ v j t q k. rest.keeps v j t (flip-keeps low b m h ne v j t q k) (omega arith);
        laid = rest.keeps (get_or from i 0) i (had low b m h ne).0 (note-here low b m h) less;
      }
]

-- the flip at its start
pub flip-start : {takers from : List ℕ} {sensors claimed w seen : ℕ} {notes owner : List ℕ} {i : ℕ}
    → ((v : ℕ) → has claimed v ≡ true → v < 64)
    → (m : Marks takers owner sensors w from seen) → Matching takers sensors claimed notes owner → has seen i ≡ true → get_or owner i 0 ≡ 64
    → Flip takers sensors claimed seen m.when owner notes owner i
flip-start {owner = owner} low m h s e = record {
  last = s;
  unused = λ v t q. omega (arith, low v t, (h.noted v t).2, ap (λ (x : ℕ). get_or owner x 0) q, e);
  noted = h.noted;
  others = λ j lj nb l. (h.owned j lj l, h.returned j lj l);
  bare = h.bare;
  marked = h.marked;
  long = h.long;
  same = λ j _ _. refl;
}

-- ---- as the code goes it

pub flipping-start : {takers from : List ℕ} {sensors claimed w : ℕ} {notes owner : List ℕ} {free : ℕ}
    → sensors < 2 ^ 64 → claimed < 2 ^ 64 → Matching takers sensors claimed notes owner → Led takers owner sensors w from free
    → Flipping takers sensors claimed w from owner notes owner free 0
flipping-start {sensors = sensors} {claimed = claimed} {free = free} fs fc h l = record {
  seen = l.seen;
  marks = l.marks;
  flip = flip-start (λ v t. has-below 64 claimed v fc t) l.marks h l.last l.idle;
  left =
      let few = ones-within l.seen sensors (within_all l.seen sensors (λ j s. (l.marks.edge j s).0)) in
      omega (arith, l.marks.old free l.last, few, ones-le 64 sensors fs);
}

module _ {takers from first : List ℕ} {sensors claimed w : ℕ} {notes owner : List ℕ} {i steps : ℕ} (fs : sensors < 2 ^ 64) (bare-w : has claimed w ≡ false)
    (h : Flipping takers sensors claimed w from first notes owner i steps) where
  low64 : (j : ℕ) → has sensors j ≡ true → j < 64
  low64 j t = has-below 64 sensors j fs t

  pub flipping-low : i < 64
  flipping-low = low64 i (h.marks.edge i h.flip.last).0

  pub flipping-from : get_or from i 0 < 64
  flipping-from = (h.marks.edge i h.flip.last).1

  pub flipping-done : get_or from i 0 ≡ w
      → Matching takers sensors (bit_or claimed (2 ^ w)) (set notes (get_or from i 0) i) (set owner i (get_or from i 0))
  flipping-done e = flip-done low64 bare-w h.marks h.flip e

  pub flipping-on : (get_or from i 0 ≡ w → ⊥)
      → Flipping takers sensors claimed w from first (set notes (get_or from i 0) i) (set owner i (get_or from i 0)) (get_or notes (get_or from i 0) 0) (steps + 1)
  flipping-on ne = record {
    seen = h.seen;
    marks = h.marks;
    flip = flip-on low64 bare-w h.marks h.flip ne;
    left = omega (arith, flip-less low64 bare-w h.marks h.flip ne, h.left);
  }

-- ---- no sensor loses its slot, and the free one gets one

pub record Placed (first owner : List ℕ) (free i : ℕ) : Type 0 where
  pub still : (j : ℕ) → get_or first j 0 < 64 → get_or owner j 0 < 64
  pub soon : (i ≡ free) ⊎ (get_or owner free 0 < 64)

pub placed-start : {first : List ℕ} {free : ℕ} → Placed first first free free
placed-start = record { still = λ j l. l; soon = inl refl }

module _ {first owner : List ℕ} {free i u : ℕ} (h : Placed first owner free i) (li : i < 64) (lu : u < 64) (long : length owner ≡ 64) where
  put_low : (j : ℕ) → (i ≡ j) ⊎ (get_or owner j 0 < 64) → get_or (set owner i u) j 0 < 64
  put_low j w = elim (cases_eq j i) [
    | inl z ↦ subst (λ (x : ℕ). get_or (set owner i u) x 0 < 64) (sym z) (subst (λ (x : ℕ). x < 64) (sym (get_or-set_same owner i u 0 (omega arith))) lu)
    | inr ne ↦ subst (λ (x : ℕ). x < 64) (sym (get_or-set_other owner i j u 0 ne)) (elim w [ inl z ↦ absurd (ne (sym z)) | inr l ↦ l ])
  ]

  pub placed-last : ((j : ℕ) → get_or first j 0 < 64 → get_or (set owner i u) j 0 < 64) × (get_or (set owner i u) free 0 < 64)
  placed-last = (λ j l. put_low j (inr (h.still j l)), put_low free h.soon)

  pub placed-next : {next : ℕ} → Placed first (set owner i u) free next
  placed-next = record { still = placed-last.0; soon = inr placed-last.1 }

pub placed-busy : (sensors idle free : ℕ) (first owner : List ℕ) → Busy sensors idle first
    → ((j : ℕ) → get_or first j 0 < 64 → get_or owner j 0 < 64) × (get_or owner free 0 < 64) → Busy sensors (without idle (2 ^ free)) owner
placed-busy sensors idle free first owner b h j s f = elim (cases_eq j free) [
  | inl z ↦ subst (λ (x : ℕ). get_or owner x 0 < 64) (sym z) h.1
  | inr ne ↦ h.0 j (b j s (left_out idle free j ne f))
]
