-- What may be trusted of a sheet follows from loading's promise and that of settling. Assumes nothing.
use Rattle.std.proofs.Common.{◌≡◌, ℕ, ◌<◌, Bool, true, false, cond, eqb, ltb, List, None, sym, refl, ap, ◌∙◌, subst, ap₂, subst₂, inl, inr, arith}
use Rattle.std.proofs.lemmas.Bool.{eq-eqb, cases_eq, cond-true}
use Rattle.model.specs.Capacity.{most_sensors}
use Rattle.model.specs.Board.{Board, board_of}
use Rattle.model.specs.Box.{Kept, full}
use Rattle.model.specs.Calls.{Alike, Call, State, after, does, entered, new_causes, posted, settle}
use Rattle.model.proofs.Full.{full-kept}
use Rattle.model.proofs.Mixes.{after-board, mix-settled-kept, mixes}
use Rattle.text.specs.Lines.{listing}
use Rattle.kinds.specs.SheetRules.{sheet_fault, sheet_run}
use Rattle.kinds.specs.SheetLaws.{sheet_lawful}
use Rattle.plan.proofs.Trusting.{after-places, trusted}
use Rattle.model.specs.Refusals.{refusal}
use Rattle.load.specs.Acts.{calls_of}
use Rattle.load.specs.Loads.{Loaded, load_fault, load_plan}
use Rattle.load.proofs.Faults.{accepted}
use Rattle.load.proofs.Texts.{text-listing}
use Rattle.planner.specs.Sheets.{SheetTrusted, loaded, new, settled_box}
use Rattle.planner.proofs.Supporting.{supporting}
use Rattle.kinds.specs.declared.SheetRule.{SheetRule}

-- a board that `new` takes has a sensor and a slot
sensed : (n m k w : ℕ) → refusal (new_causes n m k w) ≡ 0 → (0 < n) × (0 < m)
sensed n m k w z = (
  elim (cases_eq n 0) [ inl e ↦ absurd (omega (arith, sym (cond-true (eqb n 0) 1 _ (eq-eqb n 0 e)) ∙ z)) | inr e ↦ omega arith ],
  elim (cases_eq m 0) [ inl e ↦ absurd (slots (eqb n 0) (ltb most_sensors n) (eqb m 0) _ (eq-eqb m 0 e) z) | inr e ↦ omega arith ],
)
  where
    slots : (p q t : Bool) (l : ℕ) → t ≡ true → cond p 1 (cond q 1 (cond t 1 l)) ≡ 0 → ⊥
    slots true q t l e z = omega arith
    slots false true t l e z = omega arith
    slots false false t l e z = omega (arith, sym (cond-true t 1 l e) ∙ z)

-- two plans of one board whose accepted entries and rules are the same print the same
module _ (bd : Board) (some : 0 < bd.sensors) (slots : 0 < bd.slots) (places places' : ℕ) (h g : List (Call SheetRule))
    (ae : Alike (entered sheet_fault sheet_run h (new bd places)) (entered sheet_fault sheet_run g (new bd places')))
    (ar : Alike (posted sheet_fault sheet_run h (new bd places)) (posted sheet_fault sheet_run g (new bd places'))) where
  texts-alike : (s t : State SheetRule) → s ≡ after sheet_fault sheet_run h (new bd places) → t ≡ after sheet_fault sheet_run g (new bd places')
      → listing s.board (does sheet_fault sheet_run settle s).box ≡ listing t.board (does sheet_fault sheet_run settle t).box
  texts-alike s t es et =
      let bs : s.board ≡ bd = ap (λ z. z.board) es ∙ after-board sheet_fault sheet_run h (new bd places) in
      let bt : t.board ≡ bd = ap (λ z. z.board) et ∙ after-board sheet_fault sheet_run g (new bd places') in
      let o = (mixes sheet_lawful bd some (full bd) (full-kept bd slots)).order places places' h g ae ar in
      ap₂ listing (bs ∙ sym bt) (ap (λ z. (does sheet_fault sheet_run settle z).box) es ∙ o ∙ sym (ap (λ z. (does sheet_fault sheet_run settle z).box) et))

module _ (file : List ℕ) (places : ℕ) (z : load_fault file places ≡ None) where
  w : Loaded file places (load_plan file places)
  w = accepted file places z

  abbrev bd : Board
  bd = board_of w.n w.m w.k w.kinds

  abbrev s : State SheetRule
  s = loaded bd places w.rest

  on-board : s.board ≡ bd
  on-board = after-board sheet_fault sheet_run (calls_of w.rest) (new bd places)

  abbrev ok : (0 < w.n) × (0 < w.m)
  ok = sensed w.n w.m w.k w.kinds w.begins

  box-is : settled_box file places ≡ (does sheet_fault sheet_run settle s).box
  box-is = ap (λ x. (does sheet_fault sheet_run settle x).box) w.plan

  pub sheeted : SheetTrusted file places (settled_box file places)
  sheeted =
      let some : 0 < s.board.sensors = subst (λ b. 0 < b.sensors) (sym on-board) ok.0 in
      let slots : 0 < s.board.slots = subst (λ b. 0 < b.slots) (sym on-board) ok.1 in
      let k = mix-settled-kept sheet_lawful bd ok.0 (full bd) (full-kept bd ok.1) places (calls_of w.rest) in
      record {
        n = w.n;
        m = w.m;
        k = w.k;
        kinds = w.kinds;
        rest = w.rest;
        read = w.read;
        leads = ap₂ (λ b p. after sheet_fault sheet_run (calls_of w.rest) (new b p)) on-board (after-places sheet_fault sheet_run (calls_of w.rest) (new bd places));
        trusted = trusted sheet_lawful s some slots (settled_box file places) box-is;
        supports = supporting s some slots (settled_box file places) box-is (subst₂ Kept (sym on-board) (sym box-is) k);
        alike = λ other places' t y v e ae ar.
            sym (text-listing file places places (load_plan file places) _ refl (sym z) w refl)
            ∙ texts-alike bd ok.0 ok.1 places places' (calls_of w.rest) (calls_of v.rest) ae ar (load_plan file places) t w.plan (v.plan ∙ ap (λ b. loaded b places' v.rest) e)
            ∙ text-listing other places' places' t _ refl (sym y) v refl;
      }
