-- The steps of the reader and the writer, and what a whole file reads as.
use Rattle.std.specs.Prelude.{◌≡◌, ℕ, ◌+◌, Bool, true, false, cond, List, ◌++◌, length, take, drop, Some, None, Ok, Err, Option, Result, ◌==◌, nat_le, nat_lt, slice_index}
use Rattle.sheet.specs.declared.format.Cause.{Cause}
use Rattle.sheet.specs.declared.format.Cause.TheVariants.{Room, File, Length, Kind, Size, Text, Order}
use Rattle.sheet.specs.declared.fault.Fault.{Fault}
use Rattle.sheet.specs.declared.format.Record.{Record}
use Rattle.sheet.specs.declared.format.Record.TheVariants.{Head, Name, Limit, Claim, Bar, Range, Roots, Within, Apart, Count, Row}
use Rattle.sheet.specs.declared.reader.Reader.{Reader}
use Rattle.sheet.specs.Layout.{Rec, head, name, limit, claim, bar, range, roots, within, apart, count, row, version, longest, flaw, ruled, inner, framed, decode, headed}

-- the number of each refusal
abbrev pub number : Cause → ℕ
number Room = 9
number File = 10
number Length = 11
number Kind = 12
number Size = 13
number Text = 14
number Order = 15

-- a record of the code, as numbers and lists of bytes
abbrev pub meant : Record → Rec
meant (Head n m k w) = head n m k w
meant (Name s t) = name s t.now
meant (Limit s x) = limit s x
meant (Claim s x) = claim s x
meant (Bar s x) = bar s x
meant (Range g s t) = range g s t
meant (Roots g s t) = roots g s t
meant (Within a b) = within a b
meant (Apart a b) = apart a b
meant (Count a p q) = count a p q
meant (Row a) = row a

-- results of the code, with numbers for causes
abbrev pub refused : {X : Type 0} → Result X Cause → Option ℕ
refused (Ok x) = None
refused (Err e) = Some (number e)

abbrev pub inside_of : Result Record Cause → Result Rec ℕ
inside_of (Ok r) = Ok (meant r)
inside_of (Err e) = Err (number e)

abbrev pub decode_of : Result (Record × ℕ) Cause → Result (Rec × ℕ) ℕ
decode_of (Ok p) = Ok (meant p.0, p.1)
decode_of (Err e) = Err (number e)

abbrev pub meant_if : Option Record → Option Rec
meant_if None = None
meant_if (Some r) = Some (meant r)

abbrev pub step_of : Result (Option Record) Cause → Result (Option Rec) ℕ
step_of (Ok o) = Ok (meant_if o)
step_of (Err e) = Err (number e)

abbrev pub answer : Result (Option Record) Fault → Result (Option Rec) (ℕ × ℕ)
answer (Ok o) = Ok (meant_if o)
answer (Err f) = Err (number f.cause, f.position)

-- the file may be read: it is not empty, not too long, and of the right version
abbrev pub opens : List ℕ → Bool
opens file = cond (length file == 0) false (cond (slice_index file 0 == version) (nat_le (length file) longest) false)

-- a head comes first, and no other head after it
abbrev pub ordered : Bool → Result (Rec × ℕ) ℕ → Result (Option (Rec × ℕ)) ℕ
ordered true (Ok p) = cond (headed p.0) (Err 15) (Ok (Some p))
ordered false (Ok p) = cond (headed p.0) (Ok (Some p)) (Err 15)
ordered true (Err e) = Err e
ordered false (Err e) = Err e

-- one step over the bytes that are left: a record and its size, the end, or a refusal
abbrev pub turn : Bool → List ℕ → Result (Option (Rec × ℕ)) ℕ
turn begun xs = cond (length xs == 0) (cond begun (Ok None) (Err 15)) (ordered begun (decode xs))

-- what a step says: without the size, and with the position
abbrev pub bare : Result (Option (Rec × ℕ)) ℕ → Result (Option Rec) ℕ
bare (Ok None) = Ok None
bare (Ok (Some p)) = Ok (Some p.0)
bare (Err e) = Err e

abbrev pub told : ℕ → Result (Option (Rec × ℕ)) ℕ → Result (Option Rec) (ℕ × ℕ)
told at (Ok None) = Ok None
told at (Ok (Some p)) = Ok (Some p.0)
told at (Err e) = Err (e, at)

-- the place after a step, and whether the head was seen by then
abbrev pub onward : ℕ → Result (Option (Rec × ℕ)) ℕ → ℕ
onward at (Ok None) = at
onward at (Ok (Some p)) = at + p.1
onward at (Err e) = at

abbrev pub started : Bool → Result (Option (Rec × ℕ)) ℕ → Bool
started begun (Ok None) = begun
started begun (Ok (Some p)) = true
started begun (Err e) = begun

-- whether a reader has seen the head: before it there is only the version byte
abbrev pub begun_at : ℕ → Bool
begun_at at = nat_lt 1 at

-- the step that a reader takes next
abbrev pub turned : Reader → Result (Option (Rec × ℕ)) ℕ
turned x = turn (begun_at x.at) (drop x.at x.file.now)

pub record Moved (x y : Reader) : Type 0 where
  pub file : y.file.now ≡ x.file.now
  pub at : y.at ≡ onward x.at (turned x)
  pub begun : begun_at y.at ≡ started (begun_at x.at) (turned x)

-- a piece laid over what an output holds, from a place on
abbrev pub laid : List ℕ → ℕ → List ℕ → List ℕ
laid out at piece = take at out ++ (piece ++ drop (at + length piece) out)

abbrev pub placed : List ℕ → ℕ → List ℕ → Result ℕ ℕ
placed piece at out = cond (nat_le (at + length piece) (length out)) (Ok (at + length piece)) (Err 9)

-- the place after writing a record's kind and fields, or the refusal: 13, 14 or 9, in that order
abbrev pub putting : List ℕ → List ℕ → ℕ → List ℕ → Result ℕ ℕ
putting ys text at out = ruled (flaw (slice_index ys 0) (length ys) text) (placed (framed ys) at out)

abbrev pub wrote : Rec → ℕ → List ℕ → Result ℕ ℕ
wrote r at out = putting (inner r) (drop 2 (inner r)) at out

-- what the output holds then, and the place
abbrev pub laid_over : Result ℕ ℕ → List ℕ → ℕ → List ℕ → List ℕ
laid_over (Ok n) out at piece = laid out at piece
laid_over (Err e) out at piece = out

abbrev pub place_now : Result ℕ ℕ → ℕ → ℕ
place_now (Ok n) at = n
place_now (Err e) at = at

abbrev pub refusal : Result ℕ ℕ → Option ℕ
refusal (Ok n) = None
refusal (Err e) = Some e
