-- Where no cause is there, each part is accepted. Assumes nothing.
use Rattle.std.proofs.Common.{◌≡◌, ℕ, suc, ◌^◌, ◌<◌, ◌≤◌, min, true, false, cond, ◌||◌, eqb, ltb, leb, List, [], ◌∷◌, ◌++◌, length, sym, refl, ap, ◌∙◌, ap₂, arith, length-append, pow_pos, pow_mono}
use Rattle.std.proofs.lemmas.Bool.{not-false, ltb-false, eqb-false, lt-leb, eq-eqb, ne_eqb, or_parts, not_from_true, cond-true, cond-false}
use Rattle.masks.specs.Masks.{has, numbers, without}
use Rattle.model.specs.Board.{Board, room}
use Rattle.model.specs.Calls.{Call, State, answer, does, enter, no_place, post, reopen, settle}
use Rattle.model.specs.Capacity.{most_places}
use Rattle.model.specs.Entries.{bar, claim, entry_causes}
use Rattle.model.specs.Refusals.{earlier, refusal}
use Rattle.sets.specs.Counts.{count_causes}
use Rattle.sets.specs.Fits.{differ, pair_causes}
use Rattle.roots.specs.Roots.{roots_causes}
use Rattle.range.specs.Ranges.{range_causes}
use Rattle.kinds.specs.SheetRules.{sheet_fault, sheet_run}
use Rattle.plan.specs.States.{free_places}
use Rattle.named.specs.Causes.{absent, among_causes, beyond, misfit, n_value_causes, no_range, repeated, two_groups_causes}
use Rattle.named.specs.Parts.{Accepts, among_calls, apart_rule, count_rule, disjoint_calls, is_calls, n_value_calls, others, range_calls, roots_rule, uses_calls, within_rule}
use Rattle.named.proofs.Quiet.{None, none-there, quiet}
use Rattle.kinds.specs.declared.SheetRule.{SheetRule}

-- a call that the board has nothing against
abbrev pub Sound : Board → Call SheetRule → Type 0
Sound bd (enter e) = refusal (entry_causes bd e) ≡ 0
Sound bd (post r) = sheet_fault bd r ≡ 0
Sound bd settle = Unit {0}
Sound bd reopen = Unit {0}

abbrev pub Sounds : Board → List (Call SheetRule) → Type 0
Sounds bd [] = Unit {0}
Sounds bd (c ∷ cs) = Sound bd c × Sounds bd cs

-- how many places the calls need
abbrev pub posts : List (Call SheetRule) → ℕ
posts [] = 0
posts (enter e ∷ cs) = posts cs
posts (post r ∷ cs) = suc (posts cs)
posts (settle ∷ cs) = posts cs
posts (reopen ∷ cs) = posts cs

posted : (r : SheetRule) (s : State SheetRule) (k : ℕ) → Sound s.board (post r) → suc k ≤ free_places s → answer sheet_fault sheet_run (post r) s ≡ 0
posted r s k h l =
    ap (λ (a : ℕ). earlier a (cond (no_place s) 8 0)) h
    ∙ cond-false (no_place s) 8 0 (lt-leb (min s.places most_places) (length s.rules) (omega arith))

fewer : (s t : State SheetRule) (r : SheetRule) (k : ℕ) → t.places ≡ s.places → t.rules ≡ s.rules ++ (r ∷ []) → suc k ≤ free_places s → k ≤ free_places t
fewer s t r k p e l = omega (arith, ap length e, length-append s.rules (r ∷ []), ap (λ n. min n most_places) p)

pub accepts-all : (cs : List (Call SheetRule)) (s : State SheetRule) → Sounds s.board cs → posts cs ≤ free_places s → Accepts cs s
unfolding Accepts
accepts-all [] s h l = tt
accepts-all (enter e ∷ cs) s h l = (h.0, accepts-all cs (does sheet_fault sheet_run (enter e) s) h.1 l)
accepts-all (post r ∷ cs) s h l =
    let a = posted r s (posts cs) h.0 l in
    let t = does sheet_fault sheet_run (post r) s in
    (a, accepts-all cs t h.1 (fewer s t r (posts cs) refl (cond-true _ _ _ (eq-eqb _ 0 a)) l))
accepts-all (settle ∷ cs) s h l = (refl, accepts-all cs (does sheet_fault sheet_run settle s) h.1 l)
accepts-all (reopen ∷ cs) s h l = (refl, accepts-all cs (does sheet_fault sheet_run reopen s) h.1 l)

-- ---- the parts

others-on : (r mask : ℕ) → without (numbers r) mask < 2 ^ r
others-on r mask = let h : min r 64 ≤ r = omega arith in omega (arith, pow_pos r, pow_pos (min r 64), pow_mono h)

pub is-sound : (bd : Board) (j mask : ℕ) → leb bd.sets j ≡ false → leb (2 ^ room bd j) mask ≡ false → Sounds bd (is_calls bd j mask)
is-sound bd j mask a b =
    let c = quiet (entry_causes bd (claim j mask)) (a, (b, tt)) in
    let d = quiet (entry_causes bd (bar j (others bd j mask))) (a, (lt-leb (2 ^ room bd j) (others bd j mask) (others-on (room bd j) mask), tt)) in
    (c, (d, tt))

-- a sensor set and a slot set that are there
pub record Helpers (bd : Board) (s t : ℕ) : Type 0 where
  pub s_there : leb bd.sets s ≡ false
  pub t_there : leb bd.sets t ≡ false
  pub of_sensors : has bd.kinds s ≡ false
  pub of_slots : has bd.kinds t ≡ true

pub helpers : (bd : Board) (s t : ℕ) → absent bd s t ≡ false → misfit bd s t ≡ false → Helpers bd s t
helpers bd s t a m =
    let p = or_parts _ _ a in
    let q = or_parts _ _ m in
    record { s_there = p.0; t_there = p.1; of_sensors = q.0; of_slots = not-false _ q.1 }

module _ {bd : Board} {s t : ℕ} (h : Helpers bd s t) where
  pub s-room : room bd s ≡ bd.sensors
  s-room = cond-false _ _ _ h.of_sensors

  pub t-room : room bd t ≡ bd.slots
  t-room = cond-true _ _ _ h.of_slots

  s-is : (g : ℕ) → beyond bd.sensors g ≡ false → Sounds bd (is_calls bd s g)
  s-is g b = is-sound bd s g h.s_there (ap (λ (n : ℕ). leb (2 ^ n) g) s-room ∙ b)

  pub t_is : (v : ℕ) → beyond bd.slots v ≡ false → Sounds bd (is_calls bd t v)
  t_is v b = is-sound bd t v h.t_there (ap (λ (n : ℕ). leb (2 ^ n) v) t-room ∙ b)

  pub range-sound : (g : ℕ) → beyond bd.sensors g ≡ false → Sounds bd (range_calls bd g s t)
  range-sound g b =
      let i = s-is g b in
      (i.0, (i.1.0, (quiet (range_causes bd g s t) (h.s_there, (h.t_there, (b, (h.of_sensors, (not_from_true _ h.of_slots, tt))))), tt)))

  pub roots-sound : (g : ℕ) → beyond bd.sensors g ≡ false → Sound bd (post (roots_rule g s t))
  roots-sound g b = quiet (roots_causes bd g s t) (h.s_there, (h.t_there, (b, (h.of_sensors, (not_from_true _ h.of_slots, tt)))))

pub count-sound : (bd : Board) (a p q : ℕ) → leb bd.sets a ≡ false → no_range p q ≡ false → Sound bd (post (count_rule a p q))
count-sound bd a p q l r = let w = or_parts _ _ r in quiet (count_causes bd a p q) (l, (w.0, (w.1, tt)))

pub pair-sound : (bd : Board) (a b : ℕ) → leb bd.sets a ≡ false → leb bd.sets b ≡ false → has bd.kinds a ≡ true → has bd.kinds b ≡ true → eqb a b ≡ false
    → refusal (pair_causes bd a b) ≡ 0
pair-sound bd a b l m x y o = quiet (pair_causes bd a b) (l, (m, (ap₂ differ x y, (o, tt))))

sounds-join : (bd : Board) (xs ys : List (Call SheetRule)) → Sounds bd xs → Sounds bd ys → Sounds bd (xs ++ ys)
sounds-join bd [] ys h k = k
sounds-join bd (x ∷ xs) ys h k = (h.0, sounds-join bd xs ys h.1 k)

-- ---- the constraints

module _ (z : State SheetRule) (g s t : ℕ) where
  pub n-value-each : (p q : ℕ) → refusal (n_value_causes z.board (free_places z) g p q s t) ≡ 0 → Accepts (n_value_calls z.board g p q s t) z
  n-value-each p q e =
      let w = none-there (absent z.board s t) (beyond z.board.sensors g) (misfit z.board s t) (eqb s t) (no_range p q) (ltb (free_places z) 2) e in
      let h = helpers z.board s t w.there w.kinds_fit in
      accepts-all (n_value_calls z.board g p q s t) z
      (sounds-join z.board (range_calls z.board g s t) (post (count_rule t p q) ∷ []) (range-sound h g w.masks_on) (count-sound z.board t p q h.t_there w.a_range, tt))
      (ltb-false (free_places z) 2 w.places)

  pub among-each : (v p q : ℕ) → refusal (among_causes z.board (free_places z) g v p q s t) ≡ 0 → Accepts (among_calls z.board g v p q s t) z
  among-each v p q e =
      let w = none-there (absent z.board s t) (beyond z.board.sensors g || beyond z.board.slots v) (misfit z.board s t) (eqb s t) (no_range p q) (ltb (free_places z) 2) e in
      let h = helpers z.board s t w.there w.kinds_fit in
      let m = or_parts _ _ w.masks_on in
      accepts-all (among_calls z.board g v p q s t) z
      (sounds-join z.board (is_calls z.board t v) (post (roots_rule g s t) ∷ post (count_rule s p q) ∷ []) (t_is h v m.1)
      (roots-sound h g m.0, (count-sound z.board s p q h.s_there w.a_range, tt)))
      (ltb-false (free_places z) 2 w.places)

-- what the causes of two groups leave
pub record Groups (bd : Board) (g h s t u w : ℕ) : Type 0 where
  pub first : Helpers bd s t
  pub second : Helpers bd u w
  pub g_on : beyond bd.sensors g ≡ false
  pub h_on : beyond bd.sensors h ≡ false
  pub s_apart : eqb s u ≡ false
  pub t_apart : eqb t w ≡ false

module _ (z : State SheetRule) (g h s t u w : ℕ) where
  parts : refusal (two_groups_causes z.board (free_places z) g h s t u w) ≡ 0 → None (absent z.board s t || absent z.board u w) (beyond z.board.sensors g || beyond z.board.sensors h) (misfit z.board s t || misfit z.board u w) (repeated s t u w) false (ltb (free_places z) 3)
  parts e = none-there (absent z.board s t || absent z.board u w) (beyond z.board.sensors g || beyond z.board.sensors h) (misfit z.board s t || misfit z.board u w) (repeated s t u w) false (ltb (free_places z) 3) e

  pub groups : refusal (two_groups_causes z.board (free_places z) g h s t u w) ≡ 0 → Groups z.board g h s t u w
  groups e =
      let n = parts e in
      let a = or_parts _ _ n.there in
      let k = or_parts _ _ n.kinds_fit in
      let m = or_parts _ _ n.masks_on in
      let o = or_parts _ _ (or_parts _ _ (or_parts _ _ n.apart).1).0 in
      record {
        first = helpers z.board s t a.0 k.0;
        second = helpers z.board u w a.1 k.1;
        g_on = m.0;
        h_on = m.1;
        s_apart = o.0;
        t_apart = o.1;
      }

  both : (r : SheetRule) → refusal (two_groups_causes z.board (free_places z) g h s t u w) ≡ 0 → Sound z.board (post r)
      → Accepts (range_calls z.board g s t ++ (range_calls z.board h u w ++ (post r ∷ []))) z
  both r e k =
      let b = groups e in
      accepts-all (range_calls z.board g s t ++ (range_calls z.board h u w ++ (post r ∷ []))) z
      (sounds-join z.board (range_calls z.board g s t) (range_calls z.board h u w ++ (post r ∷ [])) (range-sound b.first g b.g_on)
      (sounds-join z.board (range_calls z.board h u w) (post r ∷ []) (range-sound b.second h b.h_on) (k, tt)))
      (ltb-false (free_places z) 3 (parts e).places)

  pub disjoint-each : refusal (two_groups_causes z.board (free_places z) g h s t u w) ≡ 0 → Accepts (disjoint_calls z.board g h s t u w) z
  disjoint-each e =
      let b = groups e in
      both (apart_rule t w) e (pair-sound z.board t w b.first.t_there b.second.t_there b.first.of_slots b.second.of_slots b.t_apart)

  pub uses-each : refusal (two_groups_causes z.board (free_places z) g h s t u w) ≡ 0 → Accepts (uses_calls z.board g h s t u w) z
  uses-each e =
      let b = groups e in
      both (within_rule w t) e (pair-sound z.board w t b.second.t_there b.first.t_there b.second.of_slots b.first.of_slots
      (ne_eqb w t (λ q. eqb-false t w b.t_apart (sym q))))
