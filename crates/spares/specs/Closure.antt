-- What numbers lead to, by edges: `edges` has for each number the mask of those next to it. Assumes nothing.
use Rattle.std.specs.Prelude.{◌≡◌, ℕ, ◌<◌, true, false, cond, List, length, bit_or, slice_index}
use Rattle.masks.specs.Masks.{has}

-- the mask `own`, with the members of `row` if it has k
abbrev pub joined : ℕ → ℕ → ℕ → ℕ
joined own k row = cond (has own k) (bit_or own row) own

-- u leads to itself, and to what is next to something that it leads to
pub data Leads (edges : List ℕ) (u : ℕ) : ℕ → Type 0 where
  stay : Leads edges u u
  step : (x y : ℕ) → Leads edges u x → has (slice_index edges x) y ≡ true → Leads edges u y

-- `next` has for each number below `end` some of those that it leads to, and what its own edges and the ways through `among` give, as far
-- as the numbers of `left` have not been gone through
pub record Closing (end : ℕ) (edges : List ℕ) (among left : ℕ) (next : List ℕ) : Type 0 where
  pub long : length next ≡ 64
  pub inside : (k : ℕ) → has left k ≡ true → has among k ≡ true
  pub edge : (u v : ℕ) → u < end → has (slice_index edges u) v ≡ true → has (slice_index next u) v ≡ true
  pub via : (k u v : ℕ) → has among k ≡ true → has left k ≡ false → u < end → has (slice_index next u) k ≡ true → has (slice_index next k) v ≡ true
      → has (slice_index next u) v ≡ true
  pub from : (u v : ℕ) → u < end → has (slice_index next u) v ≡ true → Leads edges u v
