-- What a covering that the code holds tells of all sensors. Assumes nothing.
use Rattle.std.proofs.Common.{◌≡◌, ℕ, ◌^◌, ◌<◌, ◌≤◌, true, false, ◌⊎◌, List, get_or, sym, ap, ◌∙◌, subst, inl, inr, arith}
use lib.Bits.{bit_and, bit_or}
use Rattle.std.proofs.lemmas.Bool.{cases_eq, cases_Bool, both_ways, and_from, and_parts}
use Rattle.masks.specs.Masks.{has, without, past}
use Rattle.masks.proofs.Masks.{has-and, has-zero}
use Rattle.masks.proofs.Ends.{past_all}
use Rattle.covering.specs.Covering.{Avoidable, Needed, candidate}
use Rattle.covering.specs.Paired.{AllBusy}
use Rattle.covering.specs.Notes.{NotesOf, sensor_of}
use Rattle.covering.specs.declared.notes.Notes.{Notes}
use Rattle.covering.proofs.Coverings.{idle-avoidable, outside, unowned}
use Rattle.covering.proofs.Held.{owns, slot, sensors-low, claimed-low}
use Rattle.covering.proofs.Singles.{less-has, less-only, less-joined}
use Rattle.spares.specs.Closure.{Closing}
use Rattle.spares.specs.Free.{Offered, Idle, Freed}
use Rattle.spares.specs.Spares.{SparesOf}
use Rattle.spares.proofs.Groups.{Edges, group-needed}
use Rattle.spares.proofs.Moves.{freed-start, freed-more, freed-all}

module _ (n : Notes) (small : n.pairs.claimed < 2 ^ 64) (cands : List ℕ)
    (o : NotesOf (candidate cands) n.pairs.sensors n.pairs.claimed n) where
  unslotted : (j : ℕ) → get_or n.pairs.owner j 0 ≡ 64 → Idle n.pairs.claimed (sensor_of n) j
  unslotted j z = unowned j n.matching small z

  unused : AllBusy n.pairs → (j : ℕ) → has n.pairs.sensors j ≡ true → get_or n.pairs.owner j 0 ≡ 64 → has n.pairs.idle j ≡ true
  unused b j s z = elim (cases_Bool (has n.pairs.idle j)) [ inl t ↦ t | inr f ↦ absurd (omega (arith, b j s f)) ]

  idle-or-on : (j : ℕ) → has n.pairs.sensors j ≡ true
      → Idle n.pairs.claimed (sensor_of n) j ⊎ ((w : ℕ) × (has n.pairs.claimed w ≡ true) × (sensor_of n w ≡ j))
  idle-or-on j s = elim (owns n j (sensors-low n j s)) [ inl z ↦ inl (unslotted j z) | inr q ↦ inr q ]

  -- ---- the free slots

  pub freed-offered : {found : ℕ} → AllBusy n.pairs → Offered cands n.pairs.owner (bit_and n.pairs.sensors n.pairs.idle) n.pairs.claimed 0 found
      → Freed (candidate cands) n.pairs.sensors n.pairs.claimed (sensor_of n) (without n.pairs.claimed n.pairs.claimed) found
  freed-offered b h = freed-start o.covers
      (λ v e. let p = less-only n.pairs.claimed n.pairs.claimed v e in both_ways _ p.1 p.0)
      (λ u e. let q = h.from u e in (q.0, (and_parts _ _ (sym (has-and n.pairs.sensors n.pairs.idle q.0) ∙ q.1)).0, unslotted q.0 q.2, q.3, q.4))
      (λ j u s idle k t. elim (owns n j (sensors-low n j s)) [
        | inl z ↦ h.all j u (has-and n.pairs.sensors n.pairs.idle j ∙ and_from _ _ s (unused b j s z)) (has-zero j) z k t
        | inr q ↦ absurd (idle q.0 q.1 q.2)
      ])

  pub freed-next : (left : ℕ) {free : ℕ} (v : ℕ) → has (bit_and free left) v ≡ true
      → Freed (candidate cands) n.pairs.sensors n.pairs.claimed (sensor_of n) (without n.pairs.claimed left) free
      → Freed (candidate cands) n.pairs.sensors n.pairs.claimed (sensor_of n) (without n.pairs.claimed (without left (2 ^ v)))
      (bit_or free (bit_and (get_or cands (sensor_of n v) 0) n.pairs.claimed))
  freed-next left {free} v e h =
      let p = and_parts _ _ (sym (has-and free left v) ∙ e) in
      freed-more o.covers v p.0 (bit_and (get_or cands (sensor_of n v) 0) n.pairs.claimed)
      (λ u k t. has-and _ n.pairs.claimed u ∙ and_from _ _ t k)
      (λ u k. let q = and_parts _ _ (sym (has-and (get_or cands (sensor_of n v) 0) n.pairs.claimed u) ∙ k) in (q.1, q.0)) h
      (less-joined n.pairs.claimed left v (h.inside v p.0) p.1).only

  pub freed-last : (left : ℕ) {free : ℕ} → bit_and free left ≡ 0
      → Freed (candidate cands) n.pairs.sensors n.pairs.claimed (sensor_of n) (without n.pairs.claimed left) free
      → Freed (candidate cands) n.pairs.sensors n.pairs.claimed (sensor_of n) free free
  freed-last left {free} z h = freed-all (λ v e. less-has n.pairs.claimed left v (h.inside v e) (gone v e)) h
    where
      gone : (v : ℕ) → has free v ≡ true → has left v ≡ false
      gone v e = elim (cases_Bool (has left v)) [
        | inl t ↦ absurd (both_ways _ (ap (λ (x : ℕ). has x v) z ∙ has-zero v) (has-and free left v ∙ and_from _ _ e t))
        | inr f ↦ f
      ]

  -- ---- sensor by sensor

  module _ {free : ℕ} (h : Freed (candidate cands) n.pairs.sensors n.pairs.claimed (sensor_of n) free free) where
    beyond-free : (i : ℕ) → 64 ≤ i → Avoidable (candidate cands) n.pairs.sensors n.pairs.claimed i
    beyond-free i l = idle-avoidable i n.matching o.takers (outside i n.matching n.sized l)

    slot-free : (i : ℕ) → i < 64 → has (without n.pairs.claimed free) (get_or n.pairs.owner i 0) ≡ false
        → Avoidable (candidate cands) n.pairs.sensors n.pairs.claimed i
    slot-free i l f = elim (cases_eq (get_or n.pairs.owner i 0) 64) [
      | inl z ↦ idle-avoidable i n.matching o.takers (unslotted i z)
      | inr ne ↦
          let u = get_or n.pairs.owner i 0 in
          let lu = slot n i l ne in
          elim (cases_Bool (has free u)) [
            | inl t ↦ (let w = h.out u t in record { on = w.over; covers = w.covers; unused = λ v e z. w.unused v e (z ∙ sym (n.matching.returned i l lu)) })
            | inr k ↦ absurd (both_ways _ f (less-has n.pairs.claimed free u (n.matching.owned i l lu) k))
          ]
    ]

    slot-tied : {edges next : List ℕ} → Edges (candidate cands) (sensor_of n) (without n.pairs.claimed free) edges
        → Closing (past (without n.pairs.claimed free)) edges (without n.pairs.claimed free) 0 next → (i : ℕ) → i < 64 → has (without n.pairs.claimed free) (get_or n.pairs.owner i 0) ≡ true
        → Needed (candidate cands) n.pairs.sensors n.pairs.claimed i (get_or next (get_or n.pairs.owner i 0) 0)
    slot-tied {next = next} g k i l b =
        let u = get_or n.pairs.owner i 0 in
        let cu = (less-only n.pairs.claimed free u b).0 in
        subst (λ (x : ℕ). Needed (candidate cands) n.pairs.sensors n.pairs.claimed x (get_or next u 0)) (n.matching.returned i l (claimed-low n small u cu))
        (group-needed o.covers h (claimed-low n small) idle-or-on g (λ v e. past_all _ v (omega arith) e) k u b)

    -- where no slot is bound there is no group
    pub spares-free : (bound : ℕ) (groups : List ℕ) → bound ≡ without n.pairs.claimed free → bound ≡ 0
        → SparesOf (candidate cands) n.pairs.sensors n.pairs.claimed (record { owner = n.pairs.owner; bound = bound; groups = groups })
    spares-free bound groups z none = record {
      beyond = beyond-free;
      free = λ i l f. slot-free i l (ap (λ (x : ℕ). has x (get_or n.pairs.owner i 0)) (sym z) ∙ f);
      tied = λ i l b. absurd (both_ways _ (ap (λ (x : ℕ). has x (get_or n.pairs.owner i 0)) none ∙ has-zero (get_or n.pairs.owner i 0)) b);
    }

    pub spares_of : (bound : ℕ) {edges next : List ℕ} → bound ≡ without n.pairs.claimed free → Edges (candidate cands) (sensor_of n) bound edges → Closing (past bound) edges bound 0 next
        → SparesOf (candidate cands) n.pairs.sensors n.pairs.claimed (record { owner = n.pairs.owner; bound = bound; groups = next })
    spares_of bound {edges} {next} z g k = record {
      beyond = beyond-free;
      free = λ i l f. slot-free i l (ap (λ (x : ℕ). has x (get_or n.pairs.owner i 0)) (sym z) ∙ f);
      tied = λ i l b. slot-tied (subst (λ (x : ℕ). Edges (candidate cands) (sensor_of n) x edges) z g) (subst (λ (x : ℕ). Closing (past x) edges x 0 next) z k) i l
          (ap (λ (x : ℕ). has x (get_or n.pairs.owner i 0)) (sym z) ∙ b);
    }
