-- What each refusal of the reader means, over the file's bytes and a position.
use Rattle.std.specs.Prelude.{◌≡◌, ℕ, ◌+◌, ◌*◌, ◌<◌, ◌≤◌, Bool, true, false, ◌⊎◌, List, length, drop, Some, None, Ok, Err, ◌≢◌, slice_index}
use Rattle.sheet.specs.Layout.{Rec, name, version, longest, least, greatest, flaw_of, encode, headed}
use Rattle.sheet.specs.Steps.{opens, turn, wrote}

abbrev pub Exactly : Type 0 → Type 0 → Type 0
Exactly X Y = (X → Y) × (Y → X)

-- the length and the kind of the record whose length field stands at p
abbrev pub length_at : List ℕ → ℕ → ℕ
length_at file p = slice_index file p * 256 + slice_index file (p + 1)

abbrev pub kind_at : List ℕ → ℕ → ℕ
kind_at file p = slice_index file (p + 2)

-- a record stands at p: its length is not zero, and it does not pass the file's end
abbrev pub Stands : List ℕ → ℕ → Type 0
Stands file p = (p + 2 ≤ length file) × (0 < length_at file p) × (p + 2 + length_at file p ≤ length file)

abbrev pub Known : ℕ → Type 0
Known k = (1 ≤ k) × (k ≤ 11)

abbrev pub Sized : ℕ → ℕ → Type 0
Sized k n = (least k ≤ n) × (n ≤ greatest k)

-- the place i is one of the text of the name at p
abbrev pub InText : List ℕ → ℕ → ℕ → Type 0
InText file p i = (p + 4 ≤ i) × (i < p + 2 + length_at file p)

-- a name has no other bytes than those that can be printed
abbrev pub Clean : List ℕ → ℕ → Type 0
Clean file p = kind_at file p ≡ 2 → (i : ℕ) → InText file p i → (0x20 ≤ slice_index file i) × (slice_index file i ≤ 0x7E)

-- the record at p has none of the faults 11 to 14
abbrev pub Sound : List ℕ → ℕ → Type 0
Sound file p = Stands file p × Known (kind_at file p) × Sized (kind_at file p) (length_at file p) × Clean file p

-- a head that is not the first record, or a first record that is not a head
abbrev pub Misplaced : Bool → ℕ → Type 0
Misplaced begun k = ((begun ≡ true) × (k ≡ 1)) ⊎ ((begun ≡ false) × (k ≢ 1))

-- the refusals; 10 is of the whole file, and 11 to 15 are of a reader that stands at p and has or has not seen the head
abbrev pub Unopened : List ℕ → Type 0
Unopened file = (length file ≡ 0) ⊎ ((longest < length file) ⊎ (slice_index file 0 ≢ version))

abbrev pub Cut : List ℕ → ℕ → Type 0
Cut file p = (length file ≡ p + 1) ⊎ ((p + 2 ≤ length file) × ((length_at file p ≡ 0) ⊎ (length file < p + 2 + length_at file p)))

abbrev pub Unknown : List ℕ → ℕ → Type 0
Unknown file p = Stands file p × ((kind_at file p ≡ 0) ⊎ (11 < kind_at file p))

abbrev pub Missized : List ℕ → ℕ → Type 0
Missized file p = Stands file p × Known (kind_at file p) × ((length_at file p < least (kind_at file p)) ⊎ (greatest (kind_at file p) < length_at file p))

abbrev pub Unprintable : List ℕ → ℕ → Type 0
Unprintable file p = Stands file p × (kind_at file p ≡ 2) × Sized 2 (length_at file p) × ((i : ℕ) × InText file p i × ((slice_index file i < 0x20) ⊎ (0x7E < slice_index file i)))

abbrev pub Disordered : List ℕ → Bool → ℕ → Type 0
Disordered file begun p = ((length file ≤ p) × (begun ≡ false)) ⊎ (Sound file p × Misplaced begun (kind_at file p))

-- a record is given: which, is said by `decode`
abbrev pub Given : List ℕ → Bool → ℕ → Type 0
Given file begun p = (r : Rec) × (turn begun (drop p file) ≡ Ok (Some (r, 2 + length_at file p))) × (headed r ≡ true → kind_at file p ≡ 1)

pub record Refusals : Type 0 where
  pub ten : (file : List ℕ) → Exactly (opens file ≡ false) (Unopened file)
  pub eleven : (file : List ℕ) (begun : Bool) (p : ℕ) → Exactly (turn begun (drop p file) ≡ Err 11) (Cut file p)
  pub twelve : (file : List ℕ) (begun : Bool) (p : ℕ) → Exactly (turn begun (drop p file) ≡ Err 12) (Unknown file p)
  pub thirteen : (file : List ℕ) (begun : Bool) (p : ℕ) → Exactly (turn begun (drop p file) ≡ Err 13) (Missized file p)
  pub fourteen : (file : List ℕ) (begun : Bool) (p : ℕ) → Exactly (turn begun (drop p file) ≡ Err 14) (Unprintable file p)
  pub fifteen : (file : List ℕ) (begun : Bool) (p : ℕ) → Exactly (turn begun (drop p file) ≡ Err 15) (Disordered file begun p)
  -- there is no other refusal
  pub only : (file : List ℕ) (begun : Bool) (p e : ℕ) → turn begun (drop p file) ≡ Err e → (11 ≤ e) × (e ≤ 15)
  -- the end is reached, or a record is given
  pub ends : (file : List ℕ) (begun : Bool) (p : ℕ) → Exactly (turn begun (drop p file) ≡ Ok None) ((length file ≤ p) × (begun ≡ true))
  pub gives : (file : List ℕ) (begun : Bool) (p : ℕ) → Sound file p → (Misplaced begun (kind_at file p) → ⊥) → Given file begun p

-- what the writer refuses: a flaw of the record first, and then the want of room
pub record Writes : Type 0 where
  -- a record with no name in it has no flaw
  pub free : (r : Rec) → (flaw_of r ≡ None) ⊎ ((s : ℕ) × (t : List ℕ) × (r ≡ name s t))
  pub thirteen : (s : ℕ) (t : List ℕ) → Exactly (flaw_of (name s t) ≡ Some 13) ((length t ≡ 0) ⊎ (32 < length t))
  pub fourteen : (s : ℕ) (t : List ℕ) → Exactly (flaw_of (name s t) ≡ Some 14) ((1 ≤ length t) × (length t ≤ 32) × ((i : ℕ) × (i < length t) × ((slice_index t i < 0x20) ⊎ (0x7E < slice_index t i))))
  pub flawed : (r : Rec) (at : ℕ) (out : List ℕ) (e : ℕ) → flaw_of r ≡ Some e → wrote r at out ≡ Err e
  pub nine : (r : Rec) (at : ℕ) (out : List ℕ) → flaw_of r ≡ None → length out < at + length (encode r) → wrote r at out ≡ Err 9
  pub taken : (r : Rec) (at : ℕ) (out : List ℕ) → flaw_of r ≡ None → at + length (encode r) ≤ length out → wrote r at out ≡ Ok (at + length (encode r))
