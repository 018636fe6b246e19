-- Which of several causes of a refusal is given. Assumes nothing.
use Rattle.std.specs.Prelude.{ℕ, suc, Bool, cond, List, [], ◌∷◌, ◌==◌, nat_le}

-- the numbers of refusals in the order in which causes count: of several, the one that stands first
abbrev pub order : List ℕ
order = 1 ∷ 2 ∷ 3 ∷ 4 ∷ 5 ∷ 6 ∷ 7 ∷ 8 ∷ 9 ∷ []

-- a refusal's number, with whether its cause is there
abbrev pub Cause : Type 0
Cause = ℕ × Bool

-- n, where one of the causes that are there has that number
abbrev pub either : ℕ → List Cause → ℕ → ℕ
either n [] later = later
either n (c ∷ cs) later = cond (c.0 == n) (cond c.1 n (either n cs later)) (either n cs later)

abbrev pub first_in : List ℕ → List Cause → ℕ
first_in [] cs = 0
first_in (n ∷ ns) cs = either n cs (first_in ns cs)

-- the first number in the order whose cause is there; 0 where none is
abbrev pub refusal : List Cause → ℕ
refusal cs = first_in order cs

-- the place of a number in the order
abbrev pub rank_in : List ℕ → ℕ → ℕ
rank_in [] n = 0
rank_in (m ∷ ms) n = cond (m == n) 0 (suc (rank_in ms n))

-- of two answers, 0 being no refusal, the one that stands first
abbrev pub earlier : ℕ → ℕ → ℕ
earlier a b = cond (a == 0) b (cond (b == 0) a (cond (nat_le (rank_in order a) (rank_in order b)) a b))
