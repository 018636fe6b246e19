-- The loop that plays a list of steps. Assumes nothing.
use Rattle.std.proofs.Common.{◌≡◌, ℕ, zero, suc, ◌+◌, ◌<◌, Bool, List, [], ◌∷◌, ◌++◌, length, get_or, take, set, sym, refl, ap, ◌∙◌, ap₂, inl, inr, append_assoc, append-nil, arith, length-set, take_all, get_or-set_other, get_or-set_same}
use Rattle.std.proofs.lemmas.Bool.{cases_eq}
use Rattle.std.proofs.lemmas.List.{take_more}
use Rattle.model.specs.Board.{Board}
use Rattle.model.specs.Box.{Box}
use Rattle.model.specs.Calls.{Call, State, after, does}
use Rattle.model.specs.Layout.{Layout}
use Rattle.model.proofs.Mixes.{after-board}
use Rattle.mix.specs.Played.{Answered, answer_of, answers_all, calls_all, calls_of}
use Rattle.plan.specs.Trust.{Leads, begun}
use Rattle.plan.proofs.Trusting.{after-places}
use Rattle.mix.specs.declared.Step.{Step}

pub after-append : {R : Type 0} (fault : Board → R → ℕ) (run : Board → R → Box → Box) (g h : List (Call R)) (s : State R) → after fault run (g ++ h) s ≡ after fault run h (after fault run g s)
after-append fault run [] h s = refl
after-append fault run (c ∷ g) h s = after-append fault run g h (does fault run c s)

calls-push : {R : Type 0} (xs : List (Step R)) (x : Step R) → calls_all (xs ++ (x ∷ [])) ≡ calls_all xs ++ calls_of x
unfolding calls_all
calls-push [] x = append-nil (calls_of x)
calls-push (y ∷ xs) x = ap (λ t. calls_of y ++ t) (calls-push xs x) ∙ sym (append_assoc (calls_of y) (calls_all xs) (calls_of x))

module _ {R : Type 0} (fault : Board → R → ℕ) (run : Board → R → Box → Box) where
  -- the answer at place i is given in the plan that the steps before it leave
  answer_at : (xs : List (Step R)) (s : State R) (i : ℕ) (x : Step R) → i < length xs → x ≡ get_or xs i x
      → get_or (answers_all fault run xs s) i 0 ≡ answer_of fault run x (after fault run (calls_all (take i xs)) s)
  unfolding answers_all calls_all
  answer_at [] s i x h e = absurd (omega arith)
  answer_at (y ∷ xs) s zero x h e = ap (λ z. answer_of fault run z s) (sym e)
  answer_at (y ∷ xs) s (suc i) x h e = answer_at xs (after fault run (calls_of y) s) i x (omega arith) e
      ∙ ap (answer_of fault run x) (sym (after-append fault run (calls_of y) (calls_all (take i xs)) s))

  pub record SoFar (xs : List (Step R)) (s : State R) (i : ℕ) (t : State R) (given : List ℕ) : Type 0 where
    pub plan : t ≡ after fault run (calls_all (take i xs)) s
    pub answered : (k : ℕ) → k < i → k < length given → get_or given k 0 ≡ get_or (answers_all fault run xs s) k 0

  pub none_yet : (xs : List (Step R)) (s : State R) (given : List ℕ) → SoFar xs s 0 s given
  unfolding calls_all
  none_yet xs s given = record { plan = refl; answered = λ k h l. absurd (omega arith) }

  module _ (xs : List (Step R)) (s : State R) (i : ℕ) (t t' : State R) (given : List ℕ) (x : Step R) (h : i < length xs) (e : x ≡ get_or xs i x) (w : SoFar xs s i t given)
      (p : t' ≡ after fault run (calls_of x) t) where
    plan-more : t' ≡ after fault run (calls_all (take (i + 1) xs)) s
    plan-more =
        p ∙ ap (after fault run (calls_of x)) w.plan ∙ sym (after-append fault run (calls_all (take i xs)) (calls_of x) s)
        ∙ ap (λ c. after fault run c s) (sym (calls-push (take i xs) x) ∙ ap calls_all (ap (λ y. take i xs ++ (y ∷ [])) e ∙ sym (take_more xs i x h)))

    pub one_more : (a : ℕ) → a ≡ answer_of fault run x t → SoFar xs s (i + 1) t' (set given i a)
    one_more a q = record {
      plan = plan-more;
      answered = λ k r m. elim (cases_eq k i) [
        | inl z ↦ ap (λ n. get_or (set given i a) n 0) z ∙ get_or-set_same given i a 0 (omega (arith, length-set given i a)) ∙ q ∙ ap (answer_of fault run x) w.plan ∙ sym (answer_at xs s i x h e) ∙ ap (λ n. get_or (answers_all fault run xs s) n 0) (sym z)
        | inr z ↦ get_or-set_other given i k a 0 z ∙ w.answered k (omega arith) (omega (arith, length-set given i a))
      ];
    }

  pub all-played : (xs : List (Step R)) (s : State R) (i : ℕ) (t : State R) (given : List ℕ) → i ≡ length xs → SoFar xs s i t given
      → (t ≡ after fault run (calls_all xs) s) × Answered fault run xs s given
  all-played xs s i t given e w = (
    w.plan ∙ ap (λ z. after fault run (calls_all z) s) (take_all i xs (omega arith)),
    λ k h l. w.answered k (omega arith) l,
  )

  -- a mix that led to the plan before leads with these calls to the plan after
  pub leads-on : (holds : Board → R → Layout → Bool) (h g : List (Call R)) (s t : State R) → t ≡ after fault run g s → Leads fault holds run h s → Leads fault holds run (h ++ g) t
  leads-on holds h g s t p l =
      let b : t.board ≡ s.board = ap (λ z. z.board) p ∙ after-board fault run g s in
      let n : t.places ≡ s.places = ap (λ z. z.places) p ∙ after-places fault run g s in
      ap₂ (λ o k. after fault run (h ++ g) (begun fault holds run o k)) b n
      ∙ after-append fault run h g (begun fault holds run s.board s.places) ∙ ap (after fault run g) l ∙ sym p
