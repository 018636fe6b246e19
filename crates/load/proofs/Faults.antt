-- The first fault of a walk: one step, and what is known where there is none.
use Rattle.std.proofs.Common.{◌≡◌, ℕ, zero, suc, ◌+◌, Bool, true, false, cond, eqb, List, [], ◌∷◌, ◌++◌, length, drop, Some, None, Ok, Err, Option, Result, sym, refl, ap, ◌∙◌, subst, arith}
use Rattle.std.proofs.lemmas.Bool.{eq-eqb, ne_eqb, eqb-true, cond-true, cond-false}
use Rattle.model.specs.Board.{board_of}
use Rattle.model.specs.Box.{full}
use Rattle.model.specs.Refusals.{refusal}
use Rattle.model.specs.Calls.{State, Call, draft, after, new_causes}
use Rattle.kinds.specs.declared.SheetRule.{SheetRule}
use Rattle.kinds.specs.SheetRules.{sheet_fault, sheet_run}
use Rattle.sheet.specs.declared.reader.Reader.{Reader}
use Rattle.sheet.specs.Layout.{Rec, head, name, limit, claim, bar, range, roots, within, apart, count, row, headed}
use Rattle.sheet.specs.Steps.{turn, opens, told, turned, Moved}
use Rattle.sheet.specs.Files.{before, read_on, read_all}
use Rattle.sheet.proofs.Whole.{turn-some, turn-none}
use Rattle.load.specs.Acts.{act_of_lem, verdict, taken, calls, calls_of, Unrefused}
use Rattle.load.specs.Walks.{Walk, end, stop, step, goes, walk_from, walk_on, walks_on, records_of}
use Rattle.load.specs.Loads.{first_fault, closing, blank, load_fault, load_plan, Loaded}
use Rattle.load.proofs.Walking.{steps, read_walk, walked}

-- One step.

pub fault-end : (s : State SheetRule) → first_fault s end ≡ None
unfolding first_fault
fault-end s = refl

pub fault-stop : (s : State SheetRule) (e at : ℕ) → first_fault s (stop e at) ≡ Some (e, at)
unfolding first_fault
fault-stop s e at = refl

pub fault-on : (s : State SheetRule) (at : ℕ) (r : Rec) (w : Walk) → verdict (act_of_lem r) s ≡ 0 → first_fault s (step at r w) ≡ first_fault (taken (act_of_lem r) s) w
unfolding first_fault
fault-on s at r w z = cond-true (eqb (verdict (act_of_lem r) s) 0) _ _ (eq-eqb (verdict (act_of_lem r) s) 0 z)

pub fault-here : (s : State SheetRule) (at : ℕ) (r : Rec) (w : Walk) → (verdict (act_of_lem r) s ≡ 0 → ⊥) → first_fault s (step at r w) ≡ Some (verdict (act_of_lem r) s, at)
unfolding first_fault
fault-here s at r w n = cond-false (eqb (verdict (act_of_lem r) s) 0) _ _ (ne_eqb (verdict (act_of_lem r) s) 0 n)

none_of : (b : Bool) (x : Option (ℕ × ℕ)) (y : ℕ × ℕ) → cond b x (Some y) ≡ None → (b ≡ true) × (x ≡ None)
none_of true x y h = (refl, h)
none_of false x y h = (cc, cc)

-- where a walk has no fault, its first record has none
pub none-on : (s : State SheetRule) (at : ℕ) (r : Rec) (w : Walk) → first_fault s (step at r w) ≡ None → (verdict (act_of_lem r) s ≡ 0) × (first_fault (taken (act_of_lem r) s) w ≡ None)
unfolding first_fault
none-on s at r w h =
    let n = none_of (eqb (verdict (act_of_lem r) s) 0) (first_fault (taken (act_of_lem r) s) w) (verdict (act_of_lem r) s, at) h in
    (eqb-true (verdict (act_of_lem r) s) 0 n.0, n.1)

none-stop : (s : State SheetRule) (e at : ℕ) → first_fault s (stop e at) ≡ None → ⊥
none-stop s e at h =
    let k = sym (fault-stop s e at) ∙ h in
    let z : ◌≡◌ {A = ℕ} 0 1 = cc in omega arith

pub closing-on : (s : State SheetRule) (at : ℕ) (r : Rec) (w : Walk) → closing s (step at r w) ≡ closing (taken (act_of_lem r) s) w
unfolding closing
closing-on s at r w = refl

closing_end : (s : State SheetRule) → closing s end ≡ s
unfolding closing
closing_end s = refl

closing-stop : (s : State SheetRule) (e at : ℕ) → closing s (stop e at) ≡ s
unfolding closing
closing-stop s e at = refl

-- The head.

never : {X : Type 0} → false ≡ true → X
never e = absurd (let z : ◌≡◌ {A = ℕ} 0 1 = cc in omega arith)

is-head : (r : Rec) → headed r ≡ true → (n : ℕ) × (m : ℕ) × (k : ℕ) × (w : ℕ) × (r ≡ head n m k w)
is-head (head n m k w) h = (n, m, k, w, refl)
is-head (name s t) h = never h
is-head (limit s x) h = never h
is-head (claim s x) h = never h
is-head (bar s x) h = never h
is-head (range g s t) h = never h
is-head (roots g s t) h = never h
is-head (within a b) h = never h
is-head (apart a b) h = never h
is-head (count a p q) h = never h
is-head (row a) h = never h

-- the plan before a head shows by its places only
head-same : (s t : State SheetRule) → s.places ≡ t.places → (n m k w at : ℕ) (v : Walk) → first_fault s (step at (head n m k w) v) ≡ first_fault t (step at (head n m k w) v)
unfolding first_fault verdict taken
head-same s t e n m k w at v =
    let bd = board_of n m k w in
    let a = refusal (new_causes n m k w) in
    ap (λ (p : ℕ). cond (eqb a 0) (first_fault (draft bd p (full bd)) v) (Some (a, at))) e

goes_same : (s t : State SheetRule) → s.places ≡ t.places → (u : Result (Option (Rec × ℕ)) ℕ) (at : ℕ) (rest : ℕ → Walk) → ((p : Rec × ℕ) → u ≡ Ok (Some p) → headed p.0 ≡ true) → first_fault s (goes u at rest) ≡ first_fault t (goes u at rest)
goes_same s t e (Ok None) at rest h = fault-end s ∙ sym (fault-end t)
goes_same s t e (Ok (Some p)) at rest h =
    let i = is-head p.0 (h p refl) in
    subst (λ (r : Rec). first_fault s (step at r (rest (at + p.1))) ≡ first_fault t (step at r (rest (at + p.1)))) (sym i.4) (head-same s t e i.0 i.1 i.2 i.3 at (rest (at + p.1)))
goes_same s t e (Err x) at rest h = fault-stop s x at ∙ sym (fault-stop t x at)

pub start-same : (s t : State SheetRule) → s.places ≡ t.places → (file : List ℕ) → first_fault s (walk_on file 1 false) ≡ first_fault t (walk_on file 1 false)
start-same s t e file =
    ap (first_fault s) (steps file 1 false)
    ∙ goes_same s t e (turn false (drop 1 file)) 1 (λ next. walk_on file next true) (λ p h. (turn-some false (drop 1 file) p h).1)
    ∙ sym (ap (first_fault t) (steps file 1 false))

-- A walk without a fault is a history.

call-on : (r : Rec) → headed r ≡ false → (s : State SheetRule) (cs : List (Call SheetRule)) → after sheet_fault sheet_run cs (taken (act_of_lem r) s) ≡ after sheet_fault sheet_run (calls (act_of_lem r) ++ cs) s
unfolding taken calls
call-on (head n m k w) h s cs = never (sym h)
call-on (name i t) h s cs = refl
call-on (limit i x) h s cs = refl
call-on (claim j x) h s cs = refl
call-on (bar j x) h s cs = refl
call-on (range g i t) h s cs = refl
call-on (roots g i t) h s cs = refl
call-on (within a b) h s cs = refl
call-on (apart a b) h s cs = refl
call-on (count a p q) h s cs = refl
call-on (row a) h s cs = refl

good-on : (r : Rec) → headed r ≡ false → (s : State SheetRule) (cs : List (Call SheetRule)) → verdict (act_of_lem r) s ≡ 0 → Unrefused cs (taken (act_of_lem r) s) → Unrefused (calls (act_of_lem r) ++ cs) s
unfolding verdict taken calls
good-on (head n m k w) h s cs z g = never (sym h)
good-on (name i t) h s cs z g = g
good-on (limit i x) h s cs z g = (z, g)
good-on (claim j x) h s cs z g = (z, g)
good-on (bar j x) h s cs z g = (z, g)
good-on (range g i t) h s cs z u = (z, u)
good-on (roots g i t) h s cs z u = (z, u)
good-on (within a b) h s cs z g = (z, g)
good-on (apart a b) h s cs z g = (z, g)
good-on (count a p q) h s cs z g = (z, g)
good-on (row a) h s cs z g = (z, g)

-- after the head: records, and the plan that their calls leave
record History (s : State SheetRule) (w : Walk) : Type 0 where
  pub rest : List Rec
  pub read : records_of w ≡ Ok rest
  pub good : Unrefused (calls_of rest) s
  pub plan : closing s w ≡ after sheet_fault sheet_run (calls_of rest) s

history-goes : (s : State SheetRule) (u : Result (Option (Rec × ℕ)) ℕ) (at : ℕ) (rest : ℕ → Walk) → ((p : Rec × ℕ) → u ≡ Ok (Some p) → headed p.0 ≡ false) → ((t : State SheetRule) (i : ℕ) → first_fault t (rest i) ≡ None → History t (rest i)) → first_fault s (goes u at rest) ≡ None → History s (goes u at rest)
unfolding closing
history-goes s (Ok None) at rest h ih z = record { rest = []; read = refl; good = tt; plan = refl }
history-goes s (Ok (Some p)) at rest h ih z =
    let t = taken (act_of_lem p.0) s in
    let n = none-on s at p.0 (rest (at + p.1)) z in
    let y = ih t (at + p.1) n.1 in
    record {
      rest = p.0 ∷ y.rest;
      read = ap (before p.0) y.read;
      good = good-on p.0 (h p refl) s (calls_of y.rest) n.0 y.good;
      plan = y.plan ∙ call-on p.0 (h p refl) s (calls_of y.rest);
    }
history-goes s (Err x) at rest h ih z = absurd (none-stop s x at z)

history-from : (n : ℕ) (file : List ℕ) (at : ℕ) (s : State SheetRule) → first_fault s (walk_from n file at true) ≡ None → History s (walk_from n file at true)
unfolding walk_from
history-from zero file at s z = absurd (none-stop s 0 at z)
history-from (suc n) file at s z =
    history-goes s (turn true (drop at file)) at (λ next. walk_from n file next true) (λ p h. (turn-some true (drop at file) p h).1) (λ t i. history-from n file i t) z

history : (file : List ℕ) (at : ℕ) (s : State SheetRule) → first_fault s (walk_on file at true) ≡ None → History s (walk_on file at true)
unfolding walk_on
history file at s z = history-from (suc (length (drop at file))) file at s z

-- with the head
record Begun (places : ℕ) (w : Walk) (z : State SheetRule) : Type 0 where
  pub n : ℕ
  pub m : ℕ
  pub k : ℕ
  pub kinds : ℕ
  pub rest : List Rec
  pub read : records_of w ≡ Ok (head n m k kinds ∷ rest)
  pub begins : refusal (new_causes n m k kinds) ≡ 0
  pub unrefused : Unrefused (calls_of rest) (draft (board_of n m k kinds) places (full (board_of n m k kinds)))
  pub plan : z ≡ after sheet_fault sheet_run (calls_of rest) (draft (board_of n m k kinds) places (full (board_of n m k kinds)))

begun-head : (s : State SheetRule) (n m k w at : ℕ) (v : Walk) → ((t : State SheetRule) → first_fault t v ≡ None → History t v) → first_fault s (step at (head n m k w) v) ≡ None → Begun s.places (step at (head n m k w) v) (closing s (step at (head n m k w) v))
unfolding verdict taken closing
begun-head s n m k w at v ih z =
    let q = none-on s at (head n m k w) v z in
    let y = ih (taken (act_of_lem (head n m k w)) s) q.1 in
    record { n = n; m = m; k = k; kinds = w; rest = y.rest; read = ap (before (head n m k w)) y.read; begins = q.0; unrefused = y.good; plan = y.plan }

begun-goes : (s : State SheetRule) (u : Result (Option (Rec × ℕ)) ℕ) (at : ℕ) (rest : ℕ → Walk) → (u ≡ Ok None → ⊥) → ((p : Rec × ℕ) → u ≡ Ok (Some p) → headed p.0 ≡ true) → ((t : State SheetRule) (i : ℕ) → first_fault t (rest i) ≡ None → History t (rest i)) → first_fault s (goes u at rest) ≡ None → Begun s.places (goes u at rest) (closing s (goes u at rest))
begun-goes s (Ok None) at rest n h ih z = absurd (n refl)
begun-goes s (Ok (Some p)) at rest n h ih z =
    let v = rest (at + p.1) in
    let i = is-head p.0 (h p refl) in
    let e = i.4 in
    let y = begun-head s i.0 i.1 i.2 i.3 at v (λ t. ih t (at + p.1)) (subst (λ (r : Rec). first_fault s (step at r v) ≡ None) e z) in
    subst (λ (r : Rec). Begun s.places (step at r v) (closing s (step at r v))) (sym e) y
begun-goes s (Err x) at rest n h ih z = absurd (none-stop s x at z)

-- an accepted file
pub loaded : (file : List ℕ) (s : State SheetRule) → opens file ≡ true → first_fault s (walk_on file 1 false) ≡ None → Loaded file s.places (closing s (walk_on file 1 false))
loaded file s o z =
    let e = steps file 1 false in
    let y = begun-goes s (turn false (drop 1 file)) 1 (λ next. walk_on file next true)
    (λ h. never (turn-none false (drop 1 file) h).1) (λ p h. (turn-some false (drop 1 file) p h).1) (λ t i. history file i t) (subst (λ (w : Walk). first_fault s w ≡ None) e z) in
    record {
      n = y.n;
      m = y.m;
      k = y.k;
      kinds = y.kinds;
      rest = y.rest;
      read = cond-true (opens file) (read_on file 1 false) (Err (10, 0)) o ∙ read_walk file 1 false ∙ ap records_of e ∙ y.read;
      begins = y.begins;
      unrefused = y.unrefused;
      plan = ap (closing s) e ∙ y.plan;
    }

-- an accepted file has one plan
same-records : {n m k w n' m' k' w' : ℕ} {rs rs' : List Rec} (o : Result (List Rec) (ℕ × ℕ)) → o ≡ Ok (head n m k w ∷ rs) → o ≡ Ok (head n' m' k' w' ∷ rs') → (places : ℕ) →
    after sheet_fault sheet_run (calls_of rs) (draft (board_of n m k w) places (full (board_of n m k w))) ≡ after sheet_fault sheet_run (calls_of rs') (draft (board_of n' m' k' w') places (full (board_of n' m' k' w')))
same-records o e f places = cc

pub one-plan : (file : List ℕ) (places : ℕ) (s : State SheetRule) → load_fault file places ≡ None → Loaded file places s → s ≡ load_plan file places
unfolding load_fault load_plan
one-plan file places s z l =
    let o = none_of (opens file) (first_fault (blank places) (walk_on file 1 false)) (10, 0) z in
    let k = loaded file (blank places) o.0 o.1 in
    l.plan ∙ same-records (read_all file) l.read k.read places ∙ sym k.plan

-- what was entered after a check is an accepted file
pub loads : (file : List ℕ) (s t : State SheetRule) (x : Reader) → opens file ≡ true → walks_on x ≡ walk_on file 1 false → load_fault file s.places ≡ None
    → (first_fault s (walks_on x) ≡ None → t ≡ closing s (walks_on x)) → Loaded file s.places t
unfolding load_fault
loads file s t x o e z f =
    let w = walk_on file 1 false in
    let y : first_fault (blank s.places) w ≡ None = sym (cond-true (opens file) (first_fault (blank s.places) w) (Some (10, 0)) o) ∙ z in
    let n : first_fault s w ≡ None = start-same s (blank s.places) refl file ∙ y in
    subst (Loaded file s.places) (sym (f (ap (first_fault s) e ∙ n) ∙ ap (closing s) e)) (loaded file s o n)

-- a file that does not open is not accepted
pub not_opened : (file : List ℕ) (places : ℕ) → opens file ≡ false → load_fault file places ≡ None → ⊥
unfolding load_fault
not_opened file places o z =
    let h = sym (cond-false (opens file) (first_fault (blank places) (walk_on file 1 false)) (Some (10, 0)) o) ∙ z in
    let q : ◌≡◌ {A = ℕ} 0 1 = cc in omega arith

-- One answer of the reader.

module _ (s : State SheetRule) (x y : Reader) (m : Moved x y) where
  pub here_end : Ok None ≡ told x.at (turned x) → first_fault s (walks_on x) ≡ None
  here_end v = ap (first_fault s) (walked x y (Ok None) v m) ∙ fault-end s

  pub here-stop : (f : ℕ × ℕ) → Err f ≡ told x.at (turned x) → first_fault s (walks_on x) ≡ Some (f.0, f.1)
  here-stop f v = ap (first_fault s) (walked x y (Err f) v m) ∙ fault-stop s f.0 f.1

  pub here_on : (r : Rec) → Ok (Some r) ≡ told x.at (turned x) → verdict (act_of_lem r) s ≡ 0 → first_fault s (walks_on x) ≡ first_fault (taken (act_of_lem r) s) (walks_on y)
  here_on r v z = ap (first_fault s) (walked x y (Ok (Some r)) v m) ∙ fault-on s x.at r (walks_on y) z

  pub here-fault : (r : Rec) → Ok (Some r) ≡ told x.at (turned x) → (verdict (act_of_lem r) s ≡ 0 → ⊥) → first_fault s (walks_on x) ≡ Some (verdict (act_of_lem r) s, x.at)
  here-fault r v n = ap (first_fault s) (walked x y (Ok (Some r)) v m) ∙ fault-here s x.at r (walks_on y) n

  -- entered without a fault, a record leaves the plan that the rest goes on from
  pub enters : (r : Rec) (t : State SheetRule) → Ok (Some r) ≡ told x.at (turned x) → first_fault s (walks_on x) ≡ None → (verdict (act_of_lem r) s ≡ 0 → t ≡ taken (act_of_lem r) s) → (first_fault t (walks_on y) ≡ None) × (closing s (walks_on x) ≡ closing t (walks_on y))
  enters r t v z f =
      let w = walked x y (Ok (Some r)) v m in
      let n = none-on s x.at r (walks_on y) (sym (ap (first_fault s) w) ∙ z) in
      let e = f n.0 in
      (ap (λ (u : State SheetRule). first_fault u (walks_on y)) e ∙ n.1, ap (closing s) w ∙ closing-on s x.at r (walks_on y) ∙ ap (λ (u : State SheetRule). closing u (walks_on y)) (sym e))

  -- at the end the plan is closed
  pub closes-end : Ok None ≡ told x.at (turned x) → closing s (walks_on x) ≡ s
  closes-end v = ap (closing s) (walked x y (Ok None) v m) ∙ closing_end s

  pub closes-stop : (f : ℕ × ℕ) → Err f ≡ told x.at (turned x) → closing s (walks_on x) ≡ s
  closes-stop f v = ap (closing s) (walked x y (Err f) v m) ∙ closing-stop s f.0 f.1

-- an accepted file, loaded
pub accepted : (file : List ℕ) (places : ℕ) → load_fault file places ≡ None → Loaded file places (load_plan file places)
unfolding load_fault load_plan
accepted file places z =
    let o = none_of (opens file) (first_fault (blank places) (walk_on file 1 false)) (10, 0) z in
    loaded file (blank places) o.0 o.1
