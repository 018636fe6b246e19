-- What the exported calls answer. Assumes nothing.
use Rattle.std.specs.Prelude.{◌≡◌, ℕ, ◌%◌, ◌<◌, ◌≤◌, Bool, true, false, cond, List, length, Some, None, Option, ◌==◌}
use Rattle.model.specs.Capacity.{most_places}
use Rattle.model.specs.Box.{Box, cand}
use Rattle.text.specs.Lines.{Written}
use Rattle.load.specs.Loads.{load_fault, sheet_text}
use Rattle.planner.specs.Sheets.{settled_box}

-- what is printed of a file, over the most places that a table uses
abbrev pub text_of : List ℕ → List ℕ
text_of file = sheet_text file most_places

-- r is the length of the text, which stands at the front of the output; or 0 where the output is too short, and only there, and then it is unchanged
pub record Exported (text : List ℕ) (r : ℕ) (out out' : List ℕ) : Type 0 where
  pub fits : length text ≤ length out → Written text out out' r
  pub short : length out < length text → (r ≡ 0) × (out' ≡ out)
  pub only : r ≡ 0 → length out < length text

-- the candidates of sensor 0 in a box, or none where there was a fault
unfoldable pub first_in : Box → Option (ℕ × ℕ) → ℕ
first_in b None = cand b 0
first_in b (Some f) = 0

-- the candidates that a file leaves to sensor 0, or none where it is refused
abbrev pub first_of : List ℕ → ℕ
first_of file = first_in (settled_box file most_places) (load_fault file most_places)

-- whether a file can be loaded, and so many loads that can
abbrev pub accepted : List ℕ → Bool
accepted file = elim (load_fault file most_places) [ None ↦ true | Some f ↦ false ]

abbrev pub accepted_of : List ℕ → ℕ → ℕ
accepted_of file times = cond (accepted file) times 0

-- a mask joined with itself by exclusive or, so many times: itself where they are odd, and none where they are even
abbrev pub joined : ℕ → ℕ → ℕ
joined times x = cond (times % 2 == 0) 0 x
