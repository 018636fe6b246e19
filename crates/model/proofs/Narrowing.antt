-- How to show that a run made of entries is the tight box of a rule. Assumes nothing.
use Rattle.std.proofs.Common.{◌≡◌, ◌<◌, Bool, true, false, ◌||◌, List, [], ◌∷◌, sym, refl, ap, ◌∙◌, subst, inl, inr, true≢false, arith}
use mathlib.Core.Bool.{false≢true}
use Rattle.std.specs.List.{AllByRecursion}
use Rattle.std.proofs.lemmas.Bool.{both_ways, cases_Bool}
use Rattle.model.specs.Board.{Board}
use Rattle.model.specs.Box.{Box, Choice, In, Inside, Kept, Live, choice, dead, live, offers, size}
use Rattle.model.specs.Entries.{Entry, cut, keeps, narrow, narrowed, placed, stored}
use Rattle.model.specs.Laws.{Narrows}
use Rattle.model.specs.Layout.{Layout, On}
use Rattle.model.specs.Settled.{Progress}
use Rattle.model.specs.Tight.{Supported, tight}
use Rattle.model.proofs.Boxes.{choice-live, dead-choice, lay-mem, live-choice, live-dead, live-true, mem-lay, space}
use Rattle.model.proofs.Entries.{entry-keeps, entry-narrows, narrow-yes, stored-live, stored-not}
use Rattle.model.proofs.Order.{fewer-one, inside-fewer, ordered}
use Rattle.model.proofs.Tight.{dead-stays, from, ordering, tightness}

module _ (bd : Board) (some : 0 < bd.sensors) where
  -- a box whose choices are the supported ones is the tight box
  pub tight-is : (holds : Layout → Bool) (b r : Box) → Kept bd b → Kept bd r → ((c : Choice) → choice bd r c ≡ true → Supported bd holds b c) → ((c : Choice) → Supported bd holds b c → choice bd r c ≡ true) → r ≡ tight bd holds b
  tight-is holds b r kb kr f g =
      let t = tightness bd some holds in
      fewer-one bd some r _ kr (t.laws.kept b kb) (λ c e. t.uses_all b kb c (f c e)) (λ c e. g c (t.used b kb c e))

  -- a layout in a box is in every box around it
  pub in-wider : (r b : Box) → Kept bd r → Kept bd b → Inside bd r b → (x : Layout) → On bd x → In bd x r → In bd x b
  in-wider r b kr kb i x o n = (lay-mem bd some b x ((space bd some).lay-all b kb x o (λ c u. inside-fewer bd some r b kr kb i c ((space bd some).lay-in r kr x (mem-lay bd some r x o n) c u)))).1

  pub narrowed-kept : (es : List Entry) (b : Box) → Kept bd b → Kept bd (narrowed (narrow bd) es b)
  narrowed-kept [] b k = k
  narrowed-kept (e ∷ es) b k = narrowed-kept es (narrow bd e b) ((entry-narrows bd some e).kept b k)

  pub narrowed-inside : (es : List Entry) (b : Box) → Kept bd b → Inside bd (narrowed (narrow bd) es b) b
  narrowed-inside [] b k = (ordering bd some).itself b k
  narrowed-inside (e ∷ es) b k =
      let kn = (entry-narrows bd some e).kept b k in
      (ordering bd some).chain _ (narrow bd e b) b (narrowed-kept es (narrow bd e b) kn) kn k (narrowed-inside es (narrow bd e b) kn) ((entry-narrows bd some e).shrinks b k)

  narrowed-in : (es : List Entry) (b : Box) (x : Layout) → Kept bd b → On bd x → In bd x b → AllByRecursion (λ e. keeps e x ≡ true) es → In bd x (narrowed (narrow bd) es b)
  narrowed-in [] b x k o n h = n
  narrowed-in (e ∷ es) b x k o n h = narrowed-in es (narrow bd e b) x ((entry-narrows bd some e).kept b k) o (entry-keeps bd some e b x k o n (λ _. h.0)) h.1

  module _ (holds : Layout → Bool) (es : List Entry) (b : Box) (k : Kept bd b) where
    abbrev r : Box
    r = narrowed (narrow bd) es b

    -- sound: every support keeps each entry; complete: each choice that is left has a support
    pub entries-tight : ((x : Layout) → On bd x → In bd x b → holds x ≡ true → AllByRecursion (λ e. keeps e x ≡ true) es)
        → (Live bd r → (c : Choice) → offers bd r c ≡ true → Supported bd holds r c)
        → r ≡ tight bd holds b
    entries-tight sound complete =
        let kr = narrowed-kept es b k in
        let ir = narrowed-inside es b k in
        let wide : (c : Choice) → Supported bd holds r c → Supported bd holds b c = λ c s. (s.0, s.1, in-wider r b kr k ir s.0 s.1 s.2, s.3, s.4) in
        tight-is holds b r k kr
        (λ c e. elim kr [
          | inl d ↦ absurd (both_ways _ (dead-choice bd some r d c) e)
          | inr l ↦ wide c (complete l c (sym (choice-live bd some r (live-true bd some r l) c) ∙ e))
        ])
        (λ c s. (space bd some).lay-in r kr s.0 (mem-lay bd some r s.0 s.1 (narrowed-in es b s.0 k s.1 s.2 (sound s.0 s.1 s.2 s.3))) c s.4)

  -- ---- what an entry leaves, where the box is live after it

  pub live-kept : (b : Box) → Kept bd b → live bd b ≡ true → Live bd b
  live-kept b (inl d) e = absurd (both_ways _ (ap (live bd) d ∙ live-dead bd some) e)
  live-kept b (inr l) e = l

  -- it was live before, and the entry did what its words say
  pub narrow_cut : (e : Entry) (b : Box) → placed bd e ≡ true → Kept bd b → Live bd (narrow bd e b) → Live bd b × (narrow bd e b ≡ cut e b)
  narrow_cut e b p k l =
      let gone : (n : Box) → n ≡ dead bd → narrow bd e b ≡ n → ⊥ = λ n d q. both_ways _ (dead-choice bd some _ (q ∙ d) _) (live-choice bd some _ l) in (
        elim k [
          | inl d ↦ absurd (gone _ (dead-stays bd some (narrow bd e) (entry-narrows bd some e)) (ap (narrow bd e) d))
          | inr v ↦ v
        ],
        elim (cases_Bool (live bd (cut e b))) [
          | inl v ↦ narrow-yes bd some e b p ∙ stored-live bd some (cut e b) v
          | inr v ↦ absurd (gone _ (stored-not bd some (cut e b) v) (narrow-yes bd some e b p))
        ],
      )

  -- ---- what a write that stands for an entry shows

  -- nothing to write
  pub narrow-same : (e : Entry) (b : Box) → placed bd e ≡ true → Kept bd b → cut e b ≡ b → narrow bd e b ≡ b
  narrow-same e b p (inl d) q = ap (narrow bd e) d ∙ dead-stays bd some (narrow bd e) (entry-narrows bd some e) ∙ sym d
  narrow-same e b p (inr l) q = narrow-yes bd some e b p ∙ ap (stored bd) q ∙ stored-live bd some b (live-true bd some b l)

  -- a run that changes the box lessens its size
  pub run-falls : (r : Box → Box) → Narrows bd r → (b : Box) → Kept bd b → (r b ≡ b → ⊥) → size bd (r b) < size bd b
  run-falls r n b k ne = elim ((ordered bd some).smaller (r b) b (n.kept b k) k (from bd some (r b) b (n.kept b k) k (n.shrinks b k))) [ inl l ↦ l | inr e ↦ absurd (ne e) ]

  pub progress-none : (b : Box) → Progress bd false b b
  progress-none b = record { still = λ _. refl; falls = λ e. absurd (false≢true e) }

  pub progress-entry : (e : Entry) (b b' : Box) → Kept bd b → b' ≡ narrow bd e b → (b' ≡ b → ⊥) → Progress bd true b b'
  progress-entry e b b' k q ne = record {
    still = λ e. absurd (true≢false e);
    falls = λ _. subst (λ x. size bd x < size bd b) (sym q) (run-falls (narrow bd e) (entry-narrows bd some e) b k (λ z. ne (q ∙ z)));
  }

  -- one step after another
  pub progress-join : (s t : Bool) (a b c : Box) → Progress bd s a b → Progress bd t b c → Progress bd (s || t) a c
  progress-join true true a b c p q = record { still = λ e. absurd (true≢false e); falls = λ _. omega (arith, p.falls refl, q.falls refl) }
  progress-join true false a b c p q = record { still = λ e. absurd (true≢false e); falls = λ _. subst (λ x. size bd x < size bd a) (sym (q.still refl)) (p.falls refl) }
  progress-join false true a b c p q = record { still = λ e. absurd (true≢false e); falls = λ _. subst (λ x. size bd c < size bd x) (p.still refl) (q.falls refl) }
  progress-join false false a b c p q = record { still = λ _. q.still refl ∙ p.still refl; falls = λ e. absurd (false≢true e) }

  pub no-live : (b : Box) → Kept bd b → live bd b ≡ false → b ≡ dead bd
  no-live b (inl d) e = d
  no-live b (inr l) e = absurd (both_ways _ e (live-true bd some b l))

  -- several entries that leave the box live did what their words say
  pub narrowed-cut : (es : List Entry) (b : Box) → AllByRecursion (λ e. placed bd e ≡ true) es → Kept bd b → Live bd (narrowed (narrow bd) es b) → Live bd b × (narrowed (narrow bd) es b ≡ narrowed cut es b)
  narrowed-cut [] b p k l = (l, refl)
  narrowed-cut (e ∷ es) b p k l =
      let rest = narrowed-cut es (narrow bd e b) p.1 ((entry-narrows bd some e).kept b k) l in
      let here = narrow_cut e b p.0 k rest.0 in
      (here.0, rest.1 ∙ ap (narrowed cut es) here.1)
