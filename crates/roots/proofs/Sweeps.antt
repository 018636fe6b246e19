-- Each implication of a Roots rule once, in place. Assumes nothing.
use Rattle.std.proofs.Common.{◌≡◌, ℕ, ◌+◌, ◌^◌, ◌<◌, Bool, true, false, cond, not, ◌&&◌, ◌||◌, eqb, List, [], ◌∷◌, sym, refl, ap, ◌∙◌, subst, add-one}
use mathlib.Core.Bool.{false≢true}
use lib.Bits.{bit_and}
use Rattle.masks.specs.Masks.{has, without}
use Rattle.model.specs.Box.{cand, lo, hi}
use Rattle.model.specs.Entries.{Entry, bar, claim, narrow, narrowed}
use Rattle.model.specs.Laws.{Lawful}
use Rattle.model.specs.Settled.{Progress, settled}
use Rattle.model.proofs.Asked.{tight-lawful}
use Rattle.model.proofs.Narrowing.{progress-none}
use Rattle.board.specs.Model.{board, model}
use Rattle.board.proofs.Shapes.{some}
use Rattle.board.specs.declared.domains.Domains.{Domains}
use Rattle.rule.proofs.Answers.{asked-ok}
use Rattle.settle.proofs.Rounds.{Sofar, alone, joined, none_yet, rests, resumed, start}
use Rattle.roots.specs.Implications.{implication_fault, implication_run, implied, entries, confined, unsure}
use Rattle.roots.specs.Roots.{asking, implications, own, parts, roots_fault, roots_run}
use Rattle.roots.specs.declared.roots.Roots.{Roots}
use Rattle.roots.specs.declared.implication.Implication.{Implication}
use Rattle.roots.specs.declared.implication.Implication.TheVariants.{Excluded, Implies, ImpliedBy}
use Rattle.roots.specs.Fitting.{excludes_from, links_from}
use Rattle.roots.specs.Parts.{parts_run, rooted, rooted_links}
use Rattle.roots.proofs.Runs.{implication_runs}

-- these implications each once, from a to b
abbrev pub Once : List Implication → Domains → Domains → Bool → Type 0
Once = Sofar implication_fault implication_run

inferred : (q : Implication) (a b : Domains) (moved : Bool) → implication_fault (board a) q ≡ 0 → board b ≡ board a
    → model b ≡ narrowed (narrow (board a)) (entries q (model a)) (model a) → Progress (board a) moved (model a) (model b) → Once (q ∷ []) a b moved
inferred q a b moved fit same m p =
    let x = model a in
    alone q a b moved same (m ∙ implication_runs a q fit ∙ sym (asked-ok implication_fault implication_run (board a) q x (sym fit))) p

hushed : {X : Type 0} (p q u v : Bool) (a b c d : List X) → (not p && q && not u && not v) ≡ true → (cond p a (cond u b []) ≡ []) × (cond q (cond v c []) d ≡ [])
hushed false true false false a b c d e = (refl, refl)
hushed true q u v a b c d e = absurd (false≢true e)
hushed false false u v a b c d e = absurd (false≢true e)
hushed false true true v a b c d e = absurd (false≢true e)
hushed false true false true a b c d e = absurd (false≢true e)

-- ---- those of sensor i

module _ (r : Roots) (i : ℕ) (a : Domains) (fit : roots_fault (board a) r ≡ 0) (low : i < (board a).sensors) where
  abbrev goes : Domains → Implication → Domains → Bool → Type 0
  goes x q y moved = (board y ≡ board x) × (model y ≡ narrowed (narrow (board x)) (entries q (model x)) (model x)) × Progress (board x) moved (model x) (model y)

  -- one outside G
  pub outside : (b : Domains) (moved : Bool) → has r.g i ≡ false → goes a (Excluded i r.s) b moved → Once (own r i) a b moved
  outside b moved e w =
      let o = rooted (board a) r fit in
      subst (λ z. Once (cond z (Implies i r.s r.t ∷ ImpliedBy i r.s r.t ∷ []) (Excluded i r.s ∷ [])) a b moved) (sym e)
      (inferred (Excluded i r.s) a b moved (excludes_from (board a) i r.s (record { sensor = low; first = o.first; sensors = o.sensors })) w.0 w.1 w.2)

  -- one of G
  pub inside : (b c : Domains) (forth back : Bool) → has r.g i ≡ true → goes a (Implies i r.s r.t) b forth → goes b (ImpliedBy i r.s r.t) c back → Once (own r i) a c (forth || back)
  inside b c forth back e w v =
      let f = links_from (board a) i r.s r.t (rooted_links (board a) r (rooted (board a) r fit) i low) in
      subst (λ z. Once (cond z (Implies i r.s r.t ∷ ImpliedBy i r.s r.t ∷ []) (Excluded i r.s ∷ [])) a c (forth || back)) (sym e)
      (joined (Implies i r.s r.t ∷ []) (ImpliedBy i r.s r.t ∷ []) a b c forth back
      (inferred (Implies i r.s r.t) a b forth f w.0 w.1 w.2)
      (inferred (ImpliedBy i r.s r.t) b c back (ap (λ o. implication_fault o (ImpliedBy i r.s r.t)) w.0 ∙ f) v.0 v.1 v.2))

  -- one of G of which nothing is sure
  pub quiet : has r.g i ≡ true → unsure i r.s r.t (model a) ≡ true → Once (own r i) a a false
  quiet e u =
      let x = model a in
      let h = hushed (has (lo x r.s) i) (has (hi x r.s) i) (eqb (bit_and (cand x i) (hi x r.t)) 0) (eqb (without (cand x i) (lo x r.t)) 0)
      (confined (claim r.t) i (bit_and (cand x i) (hi x r.t))) (bar r.s (2 ^ i) ∷ []) (claim r.s (2 ^ i) ∷ []) (confined (bar r.t) i (without (cand x i) (lo x r.t))) u in
      let none = progress-none (board a) (some a) x in
      let still : (es : List Entry) → es ≡ [] → x ≡ narrowed (narrow (board a)) es x = λ es z. ap (λ z. narrowed (narrow (board a)) z x) (sym z) in
      inside a a false false e (refl, still _ h.0, none) (refl, still _ h.1, none)

-- ---- those of one sensor more

pub none-swept : (r : Roots) (a : Domains) → Once (implications r 0) a a false
unfolding implications
none-swept r a = none_yet [] a

pub more-swept : (r : Roots) (i : ℕ) (a b c : Domains) (before moved : Bool) → Once (implications r i) a b before → Once (own r i) b c moved
    → Once (implications r (i + 1)) a c (before || moved)
unfolding implications
more-swept r i a b c before moved w v =
    subst (λ z. Once (implications r z) a c (before || moved)) (sym (add-one i)) (joined (implications r i) (own r i) a b c before moved w v)

-- ---- a sweep, and what is left to do after it

module _ (r : Roots) (a : Domains) (fit : roots_fault (board a) r ≡ 0) where
  abbrev list : List Implication
  list = parts (board a) r

  lawful : Lawful implication_fault implied implication_run
  lawful = tight-lawful implication_fault implied

  -- a sweep that changes nothing
  pub at-rest : (b : Domains) (moved : Bool) → Once list a b moved → moved ≡ false → model b ≡ roots_run (board a) r (model a)
  at-rest b moved w e = rests lawful list a a b false moved (start lawful list a) w e ∙ parts_run (board a) r fit (model a)

  -- one that changes something, and settling after it
  pub brought : (b c : Domains) (moved : Bool) → Once list a b moved → moved ≡ true
      → model c ≡ settled (board b) (asking (board b) (parts (board b) r)) (model b) → model c ≡ roots_run (board a) r (model a)
  brought b c moved w e m =
      resumed lawful list a a b false moved (start lawful list a) w e (model c)
      (m ∙ ap (λ o. settled (board b) (asking (board b) (parts o r)) (model b)) w.board_same)
      ∙ parts_run (board a) r fit (model a)
