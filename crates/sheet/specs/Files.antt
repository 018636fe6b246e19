-- Whole files: what a file reads as, what a list of records is written as, and that the two undo each other.
use Rattle.std.specs.Prelude.{◌≡◌, ℕ, zero, suc, ◌+◌, ◌<◌, ◌≤◌, Bool, true, false, cond, List, [], ◌∷◌, ◌++◌, length, take, drop, Some, None, Ok, Err, Option, Result}
use Rattle.std.specs.List.{flat_map, AllByRecursion}
use Rattle.sheet.specs.declared.format.Cause.{Cause}
use Rattle.sheet.specs.declared.reader.Reader.{Reader}
use Rattle.sheet.specs.declared.writer.Writer.{Writer}
use Rattle.sheet.specs.Layout.{Rec, version, longest, Bytes, Held, flaw_of, headed, framed, encode, decode}
use Rattle.sheet.specs.Steps.{opens, turn, begun_at, refused, refusal, putting, place_now, laid_over}

abbrev pub before : Rec → Result (List Rec) (ℕ × ℕ) → Result (List Rec) (ℕ × ℕ)
before r (Ok rs) = Ok (r ∷ rs)
before r (Err f) = Err f

-- one step, and then the rest from the next place on
abbrev pub follow : Result (Option (Rec × ℕ)) ℕ → ℕ → (ℕ → Result (List Rec) (ℕ × ℕ)) → Result (List Rec) (ℕ × ℕ)
follow (Ok None) at rest = Ok []
follow (Ok (Some p)) at rest = before p.0 (rest (at + p.1))
follow (Err e) at rest = Err (e, at)

-- the records from a place on, in fewer steps than n
unfoldable pub read_from : ℕ → List ℕ → ℕ → Bool → Result (List Rec) (ℕ × ℕ)
read_from zero file at begun = Err (0, at)
read_from (suc n) file at begun = follow (turn begun (drop at file)) at (λ next. read_from n file next true)

-- the same with steps enough, since each takes a byte at least
unfoldable pub read_on : List ℕ → ℕ → Bool → Result (List Rec) (ℕ × ℕ)
read_on file at begun = read_from (suc (length (drop at file))) file at begun

-- the records of a file, or the refusal
abbrev pub read_all : List ℕ → Result (List Rec) (ℕ × ℕ)
read_all file = cond (opens file) (read_on file 1 false) (Err (10, 0))

-- what a reader has still to read, as bytes and as records
abbrev pub unread : Reader → List ℕ
unread x = drop x.at x.file.now

abbrev pub reads_on : Reader → Result (List Rec) (ℕ × ℕ)
reads_on x = read_on x.file.now x.at (begun_at x.at)

-- an answer of the reader, and then the rest
abbrev pub then : Result (Option Rec) (ℕ × ℕ) → Result (List Rec) (ℕ × ℕ) → Result (List Rec) (ℕ × ℕ)
then (Ok None) rest = Ok []
then (Ok (Some r)) rest = before r rest
then (Err f) rest = Err f

-- each record takes bytes
abbrev pub Lessens : Result (Option Rec) (ℕ × ℕ) → List ℕ → List ℕ → Type 0
Lessens (Ok None) xs ys = ys ≡ xs
Lessens (Ok (Some r)) xs ys = length ys < length xs
Lessens (Err f) xs ys = ys ≡ xs

-- the bytes of a file that holds these records
abbrev pub write_all : List Rec → List ℕ
write_all rs = version ∷ flat_map encode rs

-- what a writer has written, and what it has after one more call
abbrev pub bytes_of : Writer → List ℕ
bytes_of w = take w.place w.out.now

abbrev pub grown : Option ℕ → List ℕ → List ℕ → List ℕ
grown None bs piece = bs ++ piece
grown (Some e) bs piece = bs

-- a writer before and after it was to write kind and fields, and its answer
pub record Puts (ys text : List ℕ) (x y : Writer) (o : Result (Unit {0}) Cause) : Type 0 where
  pub value : refused o ≡ refusal (putting ys text x.place x.out.now)
  pub place : y.place ≡ place_now (putting ys text x.place x.out.now) x.place
  pub out : y.out.now ≡ laid_over (putting ys text x.place x.out.now) x.out.now x.place (framed ys)
  pub whole : bytes_of y ≡ grown (refused o) (bytes_of x) (framed ys)

-- the writer takes the record
abbrev pub Fair : Rec → Type 0
Fair r = Held r × (flaw_of r ≡ None)

-- records that begin with their only head, each of which the writer takes
abbrev pub Sheet : List Rec → Type 0
Sheet [] = ⊥
Sheet (r ∷ rs) = (headed r ≡ true) × AllByRecursion (λ x. headed x ≡ false) rs × AllByRecursion Fair (r ∷ rs)

-- reading and writing undo each other
pub record Undone : Type 0 where
  -- a record, whatever bytes follow it
  pub decoded : (r : Rec) (rest : List ℕ) → Fair r → decode (encode r ++ rest) ≡ Ok (r, length (encode r))
  pub encoded : (xs : List ℕ) (r : Rec) (n : ℕ) → Bytes xs → decode xs ≡ Ok (r, n) → encode r ++ drop n xs ≡ xs
  -- reading on is one step, and then reading on
  pub steps : (file : List ℕ) (at : ℕ) (begun : Bool) → read_on file at begun ≡ follow (turn begun (drop at file)) at (λ next. read_on file next true)
  -- the records of an accepted file are a sheet, and written they give its bytes
  pub accepted : (file : List ℕ) (rs : List Rec) → Bytes file → read_all file ≡ Ok rs → Sheet rs × (write_all rs ≡ file)
  -- one more record written is one more at the end
  pub more : (rs : List Rec) (r : Rec) → write_all rs ++ encode r ≡ write_all (rs ++ (r ∷ []))
  -- a sheet that is not too long reads back, and a longer one is refused
  pub written : (rs : List Rec) → Sheet rs → length (write_all rs) ≤ longest → read_all (write_all rs) ≡ Ok rs
  pub over : (rs : List Rec) → longest < length (write_all rs) → read_all (write_all rs) ≡ Err (10, 0)
