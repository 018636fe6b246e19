-- What is printed of a file.
use Rattle.std.proofs.Common.{◌≡◌, ℕ, List, Some, None, sym, refl, ap, ◌∙◌, ap₂}
use Rattle.model.specs.Calls.{State, settle, does}
use Rattle.text.specs.Lines.{listing, refused_line}
use Rattle.kinds.specs.declared.SheetRule.{SheetRule}
use Rattle.kinds.specs.SheetRules.{sheet_fault, sheet_run}
use Rattle.load.specs.Loads.{load_fault, load_plan, text_of, sheet_text, Loaded}
use Rattle.load.proofs.Faults.{one-plan}

text-none : (s : State SheetRule) → text_of s None ≡ listing s.board s.box
unfolding text_of
text-none s = refl

text-some : (s : State SheetRule) (f : ℕ × ℕ) → text_of s (Some f) ≡ refused_line f.0 f.1
unfolding text_of
text-some s f = refl

-- after a load that is accepted, and a settle
pub text-listing : (file : List ℕ) (places n : ℕ) (s t : State SheetRule) → places ≡ n → None ≡ load_fault file places → Loaded file places s → t ≡ does sheet_fault sheet_run settle s → listing t.board t.box ≡ sheet_text file n
text-listing file places n s t e z l d =
    let p : t ≡ does sheet_fault sheet_run settle (load_plan file places) = d ∙ ap (does sheet_fault sheet_run settle) (one-plan file places s (sym z) l) in
    sym (text-none t) ∙ ap₂ text_of p z ∙ ap (sheet_text file) e

-- after one that is refused
pub text-refused : (file : List ℕ) (places n : ℕ) (f : ℕ × ℕ) → places ≡ n → Some f ≡ load_fault file places → refused_line f.0 f.1 ≡ sheet_text file n
text-refused file places n f e z =
    let s = does sheet_fault sheet_run settle (load_plan file places) in
    sym (text-some s f) ∙ ap (text_of s) z ∙ ap (sheet_text file) e
