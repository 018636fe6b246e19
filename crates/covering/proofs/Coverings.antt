-- Coverings out of notes and searches. Assumes nothing.
use Rattle.std.proofs.Common.{◌≡◌, ℕ, ◌+◌, ◌^◌, ◌<◌, ◌≤◌, Bool, true, false, not, ◌&&◌, ◌⊎◌, List, length, get_or, set, sym, refl, ap, ◌∙◌, subst, inl, inr, arith, length-set, get_or-set_other, get_or-set_same}
use lib.Bits.{bit_or}
use Rattle.std.proofs.lemmas.Bool.{cases_eq, cases_Bool, both_ways}
use Rattle.masks.specs.Masks.{has, without, Parted}
use Rattle.masks.proofs.Masks.{has-zero, has-without, has-below}
use Rattle.masks.proofs.Subsets.{has-ext}
use Rattle.covering.specs.Covering.{Covering, Short, Avoidable, Allowed, Needed}
use Rattle.covering.specs.Matching.{Tells, Bare, Matching}
use Rattle.covering.specs.Search.{Owners, Marks, Led, Stuck}
use Rattle.covering.proofs.Singles.{or-joined, or-here, or-keeps, or-only, or-other, drop-gone, drop-other, drop_keeps, drop-only, drop-apart, less-has, less-only}
use Rattle.covering.proofs.Shorts.{short-needed}
use Rattle.covering.proofs.Hunts.{see-marks}
use Rattle.covering.proofs.Flips.{flip-start, flip-all}

-- the notes are a covering
pub covering-of : {can : ℕ → ℕ → Bool} {takers : List ℕ} {sensors claimed : ℕ} {notes owner : List ℕ}
    → Matching takers sensors claimed notes owner → Tells can sensors claimed takers → Covering can sensors claimed (λ v. get_or notes v 0)
covering-of {notes = notes} {owner = owner} m t = record {
  among = λ v e. (m.noted v e).0;
  fits = λ v e. sym (t (get_or notes v 0) v (m.noted v e).0 e) ∙ (m.noted v e).1;
  apart = λ v u ev eu q. sym (m.noted v ev).2 ∙ ap (λ (x : ℕ). get_or owner x 0) q ∙ (m.noted u eu).2;
}

-- a covering without i among the sensors is one with it
pub widen : {can : ℕ → ℕ → Bool} (sensors i : ℕ) {claimed : ℕ} {on : ℕ → ℕ} → Covering can (without sensors (2 ^ i)) claimed on → Covering can sensors claimed on
widen sensors i {on = on} c = record { among = λ v e. drop-only sensors i (on v) (c.among v e); fits = c.fits; apart = c.apart }

-- a search that came to its end has reached a short group
pub stuck-short : {can : ℕ → ℕ → Bool} {takers owner : List ℕ} {sensors w claimed group : ℕ} → Stuck takers owner sensors w group → Tells can sensors claimed takers
    → has claimed w ≡ true → ((i : ℕ) → has sensors i ≡ true → get_or owner i 0 < 64 → has claimed (get_or owner i 0) ≡ true)
    → Short can sensors claimed group
stuck-short {can = can} {owner = owner} {sensors = sensors} {claimed = claimed} {group = group} s t cw owned = record {
  inside = inside;
  near = without sensors s.unseen;
  all = λ i v e g c. less-has sensors s.unseen i e
      (s.hunt.shut v g (has-zero v) i e (t i v e (inside v g) ∙ c));
  fewer = omega (arith, s.hunt.count);
}
  where
    inside : (v : ℕ) → has group v ≡ true → has claimed v ≡ true
    inside v g = elim (s.hunt.came v g) [
      | inl z ↦ subst (λ (x : ℕ). has claimed x ≡ true) (sym z) cw
      | inr q ↦ subst (λ (x : ℕ). has claimed x ≡ true) q.2
          (owned q.0 (less-only sensors s.unseen q.0 q.1).0 (subst (λ (x : ℕ). x < 64) (sym q.2) (s.hunt.low v g)))
    ]

-- what a search needs, from a matching without w
pub owners_of : {takers : List ℕ} {sensors claimed w : ℕ} {notes owner : List ℕ} → Matching takers sensors claimed notes owner
    → ((i : ℕ) → has sensors i ≡ true → i < 64) → w < 64 → has claimed w ≡ false → Owners owner sensors w
owners_of {claimed = claimed} {notes = notes} {owner = owner} m low lw f = record {
  one = λ i j ei ej l e. sym (m.returned i (low i ei) l) ∙ ap (λ (x : ℕ). get_or notes x 0) e ∙ m.returned j (low j ej) (subst (λ (x : ℕ). x < 64) e l);
  other = λ i ei z. both_ways _ f (subst (λ (x : ℕ). has claimed x ≡ true) z (m.owned i (low i ei) (subst (λ (x : ℕ). x < 64) (sym z) lw)));
  low = λ i ei. m.marked i (low i ei);
}

-- ---- a sensor i with a slot u, looked at again with the slot bare and without i

module _ {takers : List ℕ} {sensors claimed : ℕ} {notes owner : List ℕ} {i : ℕ} (m : Matching takers sensors claimed notes owner)
    (lows : (j : ℕ) → has sensors j ≡ true → j < 64) (lowc : (v : ℕ) → has claimed v ≡ true → v < 64)
    (li : i < 64) (lu : get_or owner i 0 < 64) where
  u-claimed : has claimed (get_or owner i 0) ≡ true
  u-claimed = m.owned i li lu

  u-noted : get_or notes (get_or owner i 0) 0 ≡ i
  u-noted = m.returned i li lu

  i-sensor : has sensors i ≡ true
  i-sensor = subst (λ (x : ℕ). has sensors x ≡ true) u-noted (m.noted (get_or owner i 0) u-claimed).0

  alone : (j : ℕ) → j < 64 → get_or owner j 0 ≡ get_or owner i 0 → j ≡ i
  alone j lj e = sym (m.returned j lj (subst (λ (x : ℕ). x < 64) (sym e) lu)) ∙ ap (λ (x : ℕ). get_or notes x 0) e ∙ u-noted

  pub owners-without : Owners owner (without sensors (2 ^ i)) (get_or owner i 0)
  owners-without = record {
    one = λ j k ej ek l e.
        let lj = lows j (drop-only sensors i j ej) in
        let lk = lows k (drop-only sensors i k ek) in
        sym (m.returned j lj l) ∙ ap (λ (x : ℕ). get_or notes x 0) e ∙ m.returned k lk (subst (λ (x : ℕ). x < 64) e l);
    other = λ j ej e. drop-apart sensors i j ej (alone j (lows j (drop-only sensors i j ej)) e);
    low = λ j ej. m.marked j (lows j (drop-only sensors i j ej));
  }

  -- the notes with u bare, and the sensors of which only i is spared
  module _ (some : ℕ) (kept : (j : ℕ) → has sensors j ≡ true → (j ≡ i → ⊥) → has some j ≡ true) where
    note-there : (v : ℕ) → (v ≡ get_or owner i 0 → ⊥) → get_or (set notes (get_or owner i 0) 64) v 0 ≡ get_or notes v 0
    note-there v ne = get_or-set_other notes (get_or owner i 0) v 64 0 ne

    owner-there : (j : ℕ) → (j ≡ i → ⊥) → get_or (set owner i 64) j 0 ≡ get_or owner j 0
    owner-there j ne = get_or-set_other owner i j 64 0 ne

    owner_here : get_or (set owner i 64) i 0 ≡ 64
    owner_here = get_or-set_same owner i 64 0 (let a = m.long.1 in omega arith)

    -- a sensor that has a slot still is not i, and its slot is not u
    still : (j : ℕ) → j < 64 → get_or (set owner i 64) j 0 < 64
        → (has (without claimed (2 ^ get_or owner i 0)) (get_or (set owner i 64) j 0) ≡ true) × (get_or (set notes (get_or owner i 0) 64) (get_or (set owner i 64) j 0) 0 ≡ j)
    still j lj l = elim (cases_eq j i) [
      | inl z ↦ absurd (omega (arith, owner_here, ap (λ (x : ℕ). get_or (set owner i 64) x 0) z))
      | inr ne ↦
          let o = owner-there j ne in
          let lo : get_or owner j 0 < 64 = omega arith in
          let nu : get_or owner j 0 ≡ get_or owner i 0 → ⊥ = (λ e. ne (alone j lj e)) in
          subst (λ (x : ℕ). (has (without claimed (2 ^ get_or owner i 0)) x ≡ true) × (get_or (set notes (get_or owner i 0) 64) x 0 ≡ j)) (sym o)
          (drop_keeps claimed (get_or owner i 0) (get_or owner j 0) nu (m.owned j lj lo), note-there (get_or owner j 0) nu ∙ m.returned j lj lo)
    ]

    pub bared : Matching takers some (without claimed (2 ^ get_or owner i 0)) (set notes (get_or owner i 0) 64) (set owner i 64)
    bared = record {
      noted = λ v e.
          let ne = drop-apart claimed (get_or owner i 0) v e in
          let g = m.noted v (drop-only claimed (get_or owner i 0) v e) in
          let ni : get_or notes v 0 ≡ i → ⊥ = (λ z. ne (sym g.2 ∙ ap (λ (x : ℕ). get_or owner x 0) z)) in
          subst (λ (x : ℕ). (has some x ≡ true) × (has (get_or takers v 0) x ≡ true) × (get_or (set owner i 64) x 0 ≡ v)) (sym (note-there v ne))
          (kept (get_or notes v 0) g.0 ni, g.1, owner-there (get_or notes v 0) ni ∙ g.2);
      owned = λ j lj l. (still j lj l).0;
      returned = λ j lj l. (still j lj l).1;
      bare = λ v lv f. elim (cases_eq v (get_or owner i 0)) [
        | inl z ↦ subst (λ (x : ℕ). get_or (set notes (get_or owner i 0) 64) x 0 ≡ 64) (sym z)
            (get_or-set_same notes (get_or owner i 0) 64 0 (let a = m.long.0 in omega arith))
        | inr ne ↦ note-there v ne ∙ m.bare v lv (sym (drop-other claimed (get_or owner i 0) v ne) ∙ f)
      ];
      marked = λ j lj. elim (cases_eq j i) [
        | inl z ↦ omega (arith, owner_here, ap (λ (x : ℕ). get_or (set owner i 64) x 0) z)
        | inr ne ↦ subst (λ (x : ℕ). x ≤ 64) (sym (owner-there j ne)) (m.marked j lj)
      ];
      long = (length-set notes (get_or owner i 0) 64 ∙ m.long.0, length-set owner i 64 ∙ m.long.1);
    }

    again : bit_or (without claimed (2 ^ get_or owner i 0)) (2 ^ get_or owner i 0) ≡ claimed
    again = has-ext _ claimed (λ v. elim (cases_Bool (has claimed v)) [
      | inl t ↦ elim (cases_eq v (get_or owner i 0)) [
        | inl z ↦ subst (λ (x : ℕ). has (bit_or (without claimed (2 ^ get_or owner i 0)) (2 ^ get_or owner i 0)) x ≡ true) (sym z) (or-here _ (get_or owner i 0)) ∙ sym t
        | inr ne ↦ or-keeps _ (get_or owner i 0) v (drop_keeps claimed (get_or owner i 0) v ne t) ∙ sym t
      ]
      | inr f ↦ elim (cases_Bool (has (bit_or (without claimed (2 ^ get_or owner i 0)) (2 ^ get_or owner i 0)) v)) [
        | inl q ↦ elim (or-only _ (get_or owner i 0) v q) [
          | inl z ↦ absurd (both_ways _ f (subst (λ (x : ℕ). has claimed x ≡ true) (sym z) u-claimed))
          | inr p ↦ absurd (both_ways _ f (drop-only claimed (get_or owner i 0) v p))
        ]
        | inr g ↦ g ∙ sym f
      ]
    ])

    -- a way back to u, from a sensor without a slot, gives a covering with that sensor
    pub rerouted : {from : List ℕ} {seen j : ℕ} → ((k : ℕ) → has some k ≡ true → has sensors k ≡ true)
        → Marks takers (set owner i 64) some (get_or owner i 0) from seen → has seen j ≡ true → get_or (set owner i 64) j 0 ≡ 64
        → (new : List ℕ) × (held : List ℕ) × Matching takers some claimed new held × (get_or new (get_or from j 0) 0 ≡ j)
    rerouted {from} {j = j} few k s e =
        let low : (x : ℕ) → has some x ≡ true → x < 64 = (λ x t. lows x (few x t)) in
        let b = drop-gone claimed (get_or owner i 0) in
        let f = flip-start (λ v t. lowc v (drop-only claimed (get_or owner i 0) v t)) k bared s e in
        let r = flip-all (k.when j + 1) low b k f (omega arith) in
        (r.new, r.held, subst (λ (x : ℕ). Matching takers some x r.new r.held) again r.matching, r.laid)

  -- marks that do not see i, over the owners with i spared
  spared-marks : {from : List ℕ} {w seen : ℕ} → Marks takers owner (without sensors (2 ^ i)) w from seen
      → Marks takers (set owner i 64) (without sensors (2 ^ i)) w from seen
  spared-marks k = record {
    when = k.when;
    edge = k.edge;
    back = λ j s. elim (k.back j s) [
      | inl z ↦ inl z
      | inr q ↦ inr (q.0, q.1, get_or-set_other owner i q.0 64 0 (drop-apart sensors i q.0 (k.edge q.0 q.1).0) ∙ q.2, q.3)
    ];
    old = k.old;
  }

  more-sensors : {held from : List ℕ} {w seen : ℕ} → Marks takers held (without sensors (2 ^ i)) w from seen → Marks takers held sensors w from seen
  more-sensors k = record {
    when = k.when;
    edge = λ j s. let g = k.edge j s in (drop-only sensors i j g.0, g.1, g.2);
    back = k.back;
    old = k.old;
  }

  module _ {can : ℕ → ℕ → Bool} (t : Tells can sensors claimed takers) where
    t-less : Tells can (without sensors (2 ^ i)) claimed takers
    t-less j v e = t j v (drop-only sensors i j e)

    pub led-avoidable : {from : List ℕ} {free : ℕ} → Led takers owner (without sensors (2 ^ i)) (get_or owner i 0) from free → Avoidable can sensors claimed i
    led-avoidable {free = free} l =
        let fe = (l.marks.edge free l.last).0 in
        let r = rerouted (without sensors (2 ^ i)) (λ j s ne. drop_keeps sensors i j ne s) (drop-only sensors i) (spared-marks l.marks) l.last
        (get_or-set_other owner i free 64 0 (drop-apart sensors i free fe) ∙ l.idle) in
        let c = covering-of r.2 t-less in
        record {
          on = λ v. get_or r.0 v 0;
          covers = widen sensors i c;
          unused = λ v e z. drop-apart sensors i (get_or r.0 v 0) (c.among v e) z;
        }

    module _ {group : ℕ} (s : Stuck takers owner (without sensors (2 ^ i)) (get_or owner i 0) group) where
      short : Short can (without sensors (2 ^ i)) claimed group
      short = stuck-short s t-less u-claimed (λ j e l. m.owned j (lows j (drop-only sensors i j e)) l)

      may : (v : ℕ) → has group v ≡ true → can i v ≡ true → Allowed can sensors claimed i v
      may v g c =
          let k = spared-marks s.hunt.marks in
          let cv = short.inside v g in
          let tv : has (get_or takers v 0) i ≡ true = t i v i-sensor cv ∙ c in
          let gone : has (without (without sensors (2 ^ i)) s.unseen) i ≡ false = elim (cases_Bool (has (without (without sensors (2 ^ i)) s.unseen) i)) [
            | inl q ↦ absurd (both_ways _ (drop-gone sensors i) (less-only (without sensors (2 ^ i)) s.unseen i q).0)
            | inr f ↦ f
          ] in
          let way : (v ≡ get_or owner i 0) ⊎ ((j : ℕ) × (has (without (without sensors (2 ^ i)) s.unseen) j ≡ true) × (get_or (set owner i 64) j 0 ≡ v)) = elim (s.hunt.came v g) [
            | inl z ↦ inl z
            | inr q ↦ inr (q.0, q.1, get_or-set_other owner i q.0 64 0 (drop-apart sensors i q.0 (less-only (without sensors (2 ^ i)) s.unseen q.0 q.1).0) ∙ q.2)
          ] in
          let j = or-joined (without (without sensors (2 ^ i)) s.unseen) i in
          let marks = see-marks (more-sensors k) s.hunt.long li (lowc v cv) gone j i-sensor tv way in
          let r = rerouted sensors (λ j e ne. e) (λ j e. e) marks j.here (owner_here sensors (λ j e ne. e)) in
          record {
            on = λ x. get_or r.0 x 0;
            covers = covering-of r.2 t;
            claims = cv;
            here = ap (λ (x : ℕ). get_or r.0 x 0) (sym (get_or-set_same s.from i v 0 (let a = s.hunt.long in omega arith))) ∙ r.3;
          }

      pub stuck-needed : Needed can sensors claimed i group
      stuck-needed = short-needed short may

-- ---- a covering slot by slot: the slots of `left` have no sensor yet

pub record Under (takers : List ℕ) (sensors claimed left held : ℕ) (notes owner : List ℕ) : Type 0 where
  pub matching : Matching takers sensors held notes owner
  pub rest : (v : ℕ) → has left v ≡ true → (has claimed v ≡ true) × (has held v ≡ false)
  pub all : (v : ℕ) → has held v ≡ has (without claimed left) v

pub under-start : (takers : List ℕ) (sensors claimed : ℕ) (notes owner : List ℕ) → length notes ≡ 64 → length owner ≡ 64
    → ((v : ℕ) → v < 64 → get_or notes v 0 ≡ 64) → ((i : ℕ) → i < 64 → get_or owner i 0 ≡ 64) → Under takers sensors claimed claimed 0 notes owner
under-start takers sensors claimed notes owner ln lo n o = record {
  matching = record {
    noted = λ v e. absurd (both_ways _ (has-zero v) e);
    owned = λ i l k. absurd (omega (arith, o i l));
    returned = λ i l k. absurd (omega (arith, o i l));
    bare = λ v l f. n v l;
    marked = λ i l. omega (arith, o i l);
    long = (ln, lo);
  };
  rest = λ v e. (e, has-zero v);
  all = λ v. has-zero v ∙ elim (cases_Bool (has (without claimed claimed) v)) [
    | inl t ↦ (let p = less-only claimed claimed v t in absurd (both_ways _ p.1 p.0))
    | inr f ↦ sym f
  ];
}

pub under_more : {takers : List ℕ} {sensors claimed left held w others : ℕ} {notes owner : List ℕ} {given : List ℕ} {all : ℕ} {new gave : List ℕ}
    → Parted left w others → Under takers sensors claimed left held notes owner → Matching given all (bit_or held (2 ^ w)) new gave
    → Under given all claimed others (bit_or held (2 ^ w)) new gave
under_more {claimed = claimed} {left = left} {held = held} {w = w} {given = given} {all = all} {new = new} {gave = gave} p h m =
    subst (λ (x : ℕ). Under given all claimed x (bit_or held (2 ^ w)) new gave) (sym p.others) (record {
      matching = m;
      rest = λ v t.
          let q = h.rest v (drop-only left w v t) in (
            q.0,
            elim (cases_Bool (has (bit_or held (2 ^ w)) v)) [
              | inl g ↦ elim (or-only held w v g) [
                | inl z ↦ absurd (drop-apart left w v t z)
                | inr y ↦ absurd (both_ways _ q.1 y)
              ]
              | inr f ↦ f
            ],
          );
      all = λ v. elim (cases_eq v w) [
        | inl z ↦ subst (λ (x : ℕ). has (bit_or held (2 ^ w)) x ≡ has (without claimed (without left (2 ^ w))) x) (sym z)
            (or-here held w ∙ sym (less-has claimed (without left (2 ^ w)) w (h.rest w p.member).0 (drop-gone left w)))
        | inr ne ↦
            or-other held w v ne ∙ h.all v ∙ has-without claimed left v ∙ ap (λ (b : Bool). has claimed v && not b) (sym (drop-other left w v ne))
            ∙ sym (has-without claimed (without left (2 ^ w)) v)
      ];
    })

pub under_all : {takers : List ℕ} {sensors claimed left held : ℕ} {notes owner : List ℕ} → left ≡ 0
    → Under takers sensors claimed left held notes owner → held ≡ claimed
under_all {claimed = claimed} {left = left} {held = held} z h = has-ext held claimed (λ v.
    h.all v ∙ has-without claimed left v ∙ go (has claimed v) (has left v) (ap (λ (x : ℕ). has x v) z ∙ has-zero v))
  where
    go : (a b : Bool) → b ≡ false → (a && not b) ≡ a
    go true b e = ap not e
    go false b e = refl

pub under-owners : {takers : List ℕ} {sensors claimed left held : ℕ} {notes owner : List ℕ} {all w : ℕ} → Under takers sensors claimed left held notes owner
    → sensors ≡ all → all < 2 ^ 64 → has left w ≡ true → w < 64 → Owners owner all w
under-owners {owner = owner} {all = all} {w = w} h e l t lw =
    subst (λ (x : ℕ). Owners owner x w) e (owners_of h.matching (λ i s. has-below 64 all i l (subst (λ (x : ℕ). has x i ≡ true) e s)) lw (h.rest w t).1)

pub under-short : {can : ℕ → ℕ → Bool} {takers : List ℕ} {sensors claimed left held : ℕ} {notes owner : List ℕ} {all w group : ℕ}
    → Under takers sensors claimed left held notes owner → all < 2 ^ 64 → has left w ≡ true → Tells can all claimed takers → Stuck takers owner all w group
    → Short can all claimed group
under-short {claimed = claimed} {left = left} {owner = owner} {all = all} {w = w} h l t tells s = stuck-short s tells (h.rest w t).0 (λ i e lo.
    (less-only claimed left (get_or owner i 0) (sym (h.all (get_or owner i 0)) ∙ h.matching.owned i (has-below 64 all i l e) lo)).0)

pub under-covering : {can : ℕ → ℕ → Bool} {takers : List ℕ} {sensors claimed left held : ℕ} {notes owner : List ℕ} {all : ℕ}
    → Under takers sensors claimed left held notes owner → left ≡ 0 → sensors ≡ all → Tells can all claimed takers
    → Covering can all claimed (λ v. get_or notes v 0) × Bare claimed notes
under-covering {takers = takers} {sensors = sensors} {claimed = claimed} {notes = notes} {owner = owner} h z e tells =
    let m = subst (λ (x : ℕ). Matching takers x claimed notes owner) e (subst (λ (x : ℕ). Matching takers sensors x notes owner) (under_all z h) h.matching) in
    (covering-of m tells, m.bare)

-- ---- a sensor without a slot is left out

pub idle-avoidable : {can : ℕ → ℕ → Bool} {takers : List ℕ} {sensors claimed : ℕ} {notes owner : List ℕ} (i : ℕ) → Matching takers sensors claimed notes owner
    → Tells can sensors claimed takers → ((v : ℕ) → has claimed v ≡ true → get_or notes v 0 ≡ i → ⊥) → Avoidable can sensors claimed i
idle-avoidable {notes = notes} i m t none = record { on = λ v. get_or notes v 0; covers = covering-of m t; unused = none }

pub outside : {takers : List ℕ} {sensors claimed : ℕ} {notes owner : List ℕ} (i : ℕ) → Matching takers sensors claimed notes owner → sensors < 2 ^ 64 → 64 ≤ i
    → (v : ℕ) → has claimed v ≡ true → get_or notes v 0 ≡ i → ⊥
outside {sensors = sensors} {notes = notes} i m l g v e z = omega (arith, has-below 64 sensors (get_or notes v 0) l (m.noted v e).0)

pub unowned : {takers : List ℕ} {sensors claimed : ℕ} {notes owner : List ℕ} (i : ℕ) → Matching takers sensors claimed notes owner → claimed < 2 ^ 64 → get_or owner i 0 ≡ 64
    → (v : ℕ) → has claimed v ≡ true → get_or notes v 0 ≡ i → ⊥
unowned {claimed = claimed} {owner = owner} i m l g v e z =
    omega (arith, has-below 64 claimed v l e, (m.noted v e).2, ap (λ (x : ℕ). get_or owner x 0) z, g)
