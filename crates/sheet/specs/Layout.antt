-- How a sheet file is laid out: numbers, records, and the bytes of a record. Assumes nothing.
use Rattle.std.specs.Prelude.{ℕ, zero, suc, ◌+◌, ◌*◌, ◌/◌, ◌%◌, ◌^◌, ◌<◌, Bool, true, false, cond, List, [], ◌∷◌, ◌++◌, length, get_or, take, drop, Some, None, Ok, Err, Option, Result, ◌==◌, nat_le, nat_lt, slice_index, slice_index_or}
use Rattle.std.specs.List.{AllByRecursion, list_all}

-- the version byte
unfoldable pub version : ℕ
version = 1

-- how many bytes a file has at most
unfoldable pub longest : ℕ
longest = 32768

-- how many bytes the kind word takes
unfoldable pub word_width : ℕ
word_width = 4

-- how many bytes a mask takes
unfoldable pub mask_width : ℕ
mask_width = 8

-- the number that bytes write, the greatest place first
abbrev pub value : List ℕ → ℕ
value [] = 0
value (b ∷ bs) = b * 256 ^ length bs + value bs

-- a number in so many bytes
abbrev pub digits : ℕ → ℕ → List ℕ
digits zero x = []
digits (suc n) x = (x / 256 ^ n % 256) ∷ digits n x

-- these are bytes
abbrev pub Bytes : List ℕ → Type 0
Bytes bs = AllByRecursion (λ b. b < 256) bs

-- a record, as numbers and lists of bytes
pub data Rec : Type 0 where
  head : ℕ → ℕ → ℕ → ℕ → Rec
  name : ℕ → List ℕ → Rec
  limit : ℕ → ℕ → Rec
  claim : ℕ → ℕ → Rec
  bar : ℕ → ℕ → Rec
  range : ℕ → ℕ → ℕ → Rec
  roots : ℕ → ℕ → ℕ → Rec
  within : ℕ → ℕ → Rec
  apart : ℕ → ℕ → Rec
  count : ℕ → ℕ → ℕ → Rec
  row : ℕ → Rec

-- the least and the greatest length of each kind, from kind 0, which is none
abbrev pub lengths : List (ℕ × ℕ)
lengths = (0, 0) ∷ (4 + word_width, 4 + word_width) ∷ (3, 34) ∷ (2 + mask_width, 2 + mask_width) ∷ (2 + mask_width, 2 + mask_width) ∷ (2 + mask_width, 2 + mask_width) ∷ (3 + mask_width, 3 + mask_width) ∷ (3 + mask_width, 3 + mask_width) ∷ (3, 3) ∷ (3, 3) ∷ (4, 4) ∷ (2, 2) ∷ []

abbrev pub known : ℕ → Bool
known k = cond (nat_le 1 k) (nat_le k 11) false

abbrev pub lengths_of : ℕ → Option (ℕ × ℕ)
lengths_of k = cond (known k) (Some (slice_index_or lengths k (0, 0))) None

abbrev pub least : ℕ → ℕ
least k = (get_or lengths k (0, 0)).0

abbrev pub greatest : ℕ → ℕ
greatest k = (get_or lengths k (0, 0)).1

abbrev pub sized : ℕ → ℕ → Bool
sized k n = cond (nat_le (least k) n) (nat_le n (greatest k)) false

abbrev pub plain_byte : ℕ → Bool
plain_byte b = cond (nat_le 0x20 b) (nat_le b 0x7E) false

-- every byte of a name's text can be printed
abbrev pub plain : List ℕ → Bool
plain bs = list_all plain_byte bs

-- what is wrong with a record of kind k and length n; the text matters for a name only
abbrev pub flaw : ℕ → ℕ → List ℕ → Option ℕ
flaw k n text =
    cond (known k) (
    cond (sized k n) (
    cond (cond (k == 2) (plain text) true) None (Some 14)) (Some 13)) (Some 12)

abbrev pub ruled : {X : Type 0} → Option ℕ → Result X ℕ → Result X ℕ
ruled None r = r
ruled (Some n) r = Err n

abbrev pub mask_at : ℕ → List ℕ → ℕ
mask_at i xs = value (take mask_width (drop i xs))

-- the record of a kind whose fields are these bytes
abbrev pub parsed : ℕ → List ℕ → Rec
parsed k xs =
    cond (k == 1) (head (slice_index xs 0) (slice_index xs 1) (slice_index xs 2) (value (take word_width (drop 3 xs)))) (
    cond (k == 2) (name (slice_index xs 0) (drop 1 xs)) (
    cond (k == 3) (limit (slice_index xs 0) (mask_at 1 xs)) (
    cond (k == 4) (claim (slice_index xs 0) (mask_at 1 xs)) (
    cond (k == 5) (bar (slice_index xs 0) (mask_at 1 xs)) (
    cond (k == 6) (range (mask_at 0 xs) (slice_index xs mask_width) (slice_index xs (mask_width + 1))) (
    cond (k == 7) (roots (mask_at 0 xs) (slice_index xs mask_width) (slice_index xs (mask_width + 1))) (
    cond (k == 8) (within (slice_index xs 0) (slice_index xs 1)) (
    cond (k == 9) (apart (slice_index xs 0) (slice_index xs 1)) (
    cond (k == 10) (count (slice_index xs 0) (slice_index xs 1) (slice_index xs 2)) (
    row (slice_index xs 0)))))))))))

-- the kind and the fields of a record, as bytes
abbrev pub inner : Rec → List ℕ
inner (head n m k w) = 1 ∷ n ∷ m ∷ k ∷ digits word_width w
inner (name s t) = 2 ∷ s ∷ t
inner (limit s x) = 3 ∷ s ∷ digits mask_width x
inner (claim s x) = 4 ∷ s ∷ digits mask_width x
inner (bar s x) = 5 ∷ s ∷ digits mask_width x
inner (range g s t) = 6 ∷ (digits mask_width g ++ (s ∷ t ∷ []))
inner (roots g s t) = 7 ∷ (digits mask_width g ++ (s ∷ t ∷ []))
inner (within a b) = 8 ∷ a ∷ b ∷ []
inner (apart a b) = 9 ∷ a ∷ b ∷ []
inner (count a p q) = 10 ∷ a ∷ p ∷ q ∷ []
inner (row a) = 11 ∷ a ∷ []

-- what is wrong with a record
abbrev pub flaw_of : Rec → Option ℕ
flaw_of r = flaw (slice_index (inner r) 0) (length (inner r)) (drop 2 (inner r))

-- the length in front of kind and fields
abbrev pub framed : List ℕ → List ℕ
framed ys = (length ys / 256) ∷ (length ys % 256) ∷ ys

abbrev pub encode : Rec → List ℕ
encode r = framed (inner r)

-- what kind and fields say
abbrev pub inside : List ℕ → Result Rec ℕ
inside ys = ruled (flaw (slice_index ys 0) (length ys) (drop 2 ys)) (Ok (parsed (slice_index ys 0) (drop 1 ys)))

-- the length that a record's first two bytes write
abbrev pub counted : List ℕ → ℕ
counted xs = slice_index xs 0 * 256 + slice_index xs 1

abbrev pub taking : ℕ → Result Rec ℕ → Result (Rec × ℕ) ℕ
taking n (Ok r) = Ok (r, n)
taking n (Err e) = Err e

-- the record at the front of some bytes, and how many of them it takes
abbrev pub decode : List ℕ → Result (Rec × ℕ) ℕ
decode xs =
    cond (nat_lt (length xs) 2) (Err 11) (
    cond (cond (counted xs == 0) true (nat_lt (length (drop 2 xs)) (counted xs))) (Err 11) (
    taking (2 + counted xs) (inside (take (counted xs) (drop 2 xs)))))

abbrev pub headed : Rec → Bool
headed (head n m k w) = true
headed (name s t) = false
headed (limit s x) = false
headed (claim s x) = false
headed (bar s x) = false
headed (range g s t) = false
headed (roots g s t) = false
headed (within a b) = false
headed (apart a b) = false
headed (count a p q) = false
headed (row a) = false

-- the numbers of several bytes fit their fields
abbrev pub Held : Rec → Type 0
Held (head n m k w) = w < 256 ^ word_width
Held (name s t) = Unit {0}
Held (limit s x) = x < 256 ^ mask_width
Held (claim s x) = x < 256 ^ mask_width
Held (bar s x) = x < 256 ^ mask_width
Held (range g s t) = g < 256 ^ mask_width
Held (roots g s t) = g < 256 ^ mask_width
Held (within a b) = Unit {0}
Held (apart a b) = Unit {0}
Held (count a p q) = Unit {0}
Held (row a) = Unit {0}
