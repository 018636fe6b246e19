-- How long the texts are. Assumes nothing.
use Rattle.std.proofs.Common.{◌≡◌, ℕ, zero, suc, ◌+◌, ◌-◌, ◌*◌, ◌^◌, ◌<◌, ◌≤◌, cond, eqb, List, [], ◌∷◌, ◌++◌, length, get_or, replicate, codes, decimal, refl, suc-add, zero-add, arith, length-append}
use lib.ListN.{get_or-replicate}
use Rattle.std.specs.Fmt.{digits}
use Rattle.std.proofs.lemmas.Fmt.{length-decimal-le}
use Rattle.std.proofs.lemmas.Bool.{cond_both}
use Rattle.masks.specs.Masks.{has}
use Rattle.model.specs.Capacity.{most_sensors, most_sets}
use Rattle.model.specs.Board.{Board}
use Rattle.model.specs.Box.{Box, live}
use Rattle.text.specs.Lines.{members, bound, sensor_line, set_line, sensor_lines, set_lines, dead_text, refused_line, listing, longest_listing, LongestHolds}

-- the digits of the numbers below one
wide : ℕ → ℕ
wide zero = 0
wide (suc i) = wide i + length (decimal i)

wide-sensors : wide most_sensors ≡ 118
unfolding wide digits
wide-sensors = refl

wide-sets : wide most_sets ≡ 54
unfolding wide digits
wide-sets = refl

members-most : (m k : ℕ) → length (members m k) ≤ wide k + k
unfolding wide members
members-most m zero = omega arith
members-most m (suc i) =
    let l : length (cond (has m i) (32 ∷ decimal i) []) ≤ 1 + length (decimal i) = cond_both (has m i) (32 ∷ decimal i) [] (λ t. length t ≤ 1 + length (decimal i)) (λ _. omega arith) (λ _. omega arith) in
    simp length-append (omega (arith, members-most m i))

bound-most : (m : ℕ) → length (bound m) ≤ 182
bound-most m = cond_both (eqb m 0) (codes " -") (members m 64) (λ t. length t ≤ 182) (λ _. omega arith) (λ _. omega (arith, members-most m 64, wide-sensors))

bound-full : length (bound (2 ^ 64 - 1)) ≡ 182
unfolding members has digits
bound-full = refl

sensor-size : (i m : ℕ) → length (sensor_line i m) ≡ 9 + length (decimal i) + length (bound m)
sensor-size i m = simp length-append (omega arith)

set-size : (j lo hi : ℕ) → length (set_line j lo hi) ≡ 8 + length (decimal j) + length (bound lo) + length (bound hi)
set-size j lo hi = simp length-append (omega arith)

sensors-most : (c : List ℕ) (n : ℕ) → length (sensor_lines c n) ≤ 191 * n + wide n
unfolding wide sensor_lines
sensors-most c zero = omega arith
sensors-most c (suc i) =
    omega (arith, length-append (sensor_lines c i) (sensor_line i (get_or c i 0)), sensors-most c i, sensor-size i (get_or c i 0), bound-most (get_or c i 0))

sets-most : (lo hi : List ℕ) (k : ℕ) → length (set_lines lo hi k) ≤ 372 * k + wide k
unfolding wide set_lines
sets-most lo hi zero = omega arith
sets-most lo hi (suc j) =
    omega (arith, length-append (set_lines lo hi j) (set_line j (get_or lo j 0) (get_or hi j 0)), sets-most lo hi j, set-size j (get_or lo j 0) (get_or hi j 0), bound-most (get_or lo j 0), bound-most (get_or hi j 0))

sensors-full : (n x : ℕ) → length (bound x) ≡ 182 → (i : ℕ) → i ≤ n → length (sensor_lines (replicate n x) i) ≡ 191 * i + wide i
unfolding wide sensor_lines
sensors-full n x e zero h = omega arith
sensors-full n x e (suc i) h =
    let f : length (bound (get_or (replicate n x) i 0)) ≡ 182 = rw (get_or-replicate n i x 0 h) e in
    omega (arith, length-append (sensor_lines (replicate n x) i) (sensor_line i (get_or (replicate n x) i 0)), sensors-full n x e i (omega arith), sensor-size i (get_or (replicate n x) i 0))

sets-full : (k x : ℕ) → length (bound x) ≡ 182 → (j : ℕ) → j ≤ k → length (set_lines (replicate k x) (replicate k x) j) ≡ 372 * j + wide j
unfolding wide set_lines
sets-full k x e zero h = omega arith
sets-full k x e (suc j) h =
    let y : ℕ = get_or (replicate k x) j 0 in
    let f : length (bound y) ≡ 182 = rw (get_or-replicate k j x 0 h) e in
    omega (arith, length-append (set_lines (replicate k x) (replicate k x) j) (set_line j y y), sets-full k x e j (omega arith), set-size j y y)

wide-more : (m d : ℕ) → wide m ≤ wide (d + m)
unfolding wide
wide-more m zero = rw zero-add (omega arith)
wide-more m (suc d) = simp suc-add (omega (arith, wide-more m d))

wide-le : {m n : ℕ} → m ≤ n → wide m ≤ wide n
wide-le {m} {n} h =
    let e : (n - m) + m ≡ n = omega arith in
    rw e at (wide-more m (n - m))

refused-size : (n p : ℕ) → length (refused_line n p) ≡ 13 + length (decimal n) + length (decimal p)
refused-size n p = simp length-append (omega arith)

-- a number has at most 20 digits
pub refused-most : (number position : ℕ) → number < 2 ^ 64 → position < 2 ^ 64 → length (refused_line number position) ≤ longest_listing
refused-most n p hn hp = omega (arith, refused-size n p, length-decimal-le 20 n (omega arith) (omega arith) hn, length-decimal-le 20 p (omega arith) (omega arith) hp)

-- no text is empty

pub refused-some : (number position : ℕ) → 0 < length (refused_line number position)
refused-some n p = omega (arith, refused-size n p)

sensors-some : (c : List ℕ) (n : ℕ) → 0 < n → 0 < length (sensor_lines c n)
unfolding sensor_lines
sensors-some c zero h = absurd (omega arith)
sensors-some c (suc i) h = omega (arith, length-append (sensor_lines c i) (sensor_line i (get_or c i 0)), sensor-size i (get_or c i 0))

pub listing-some : (bd : Board) (b : Box) → 0 < bd.sensors → 0 < length (listing bd b)
listing-some bd b h =
    let n = bd.sensors in
    let k = bd.sets in
    cond_both (live bd b) (sensor_lines b.cands n ++ set_lines b.lows b.highs k) dead_text (λ t. 0 < length t)
    (λ _. omega (arith, length-append (sensor_lines b.cands n) (set_lines b.lows b.highs k), sensors-some b.cands n h)) (λ _. omega arith)

pub longest : LongestHolds
longest = record {
  most = λ bd b hn hk.
      let n = bd.sensors in
      let k = bd.sets in
      cond_both (live bd b) (sensor_lines b.cands n ++ set_lines b.lows b.highs k) dead_text (λ t. length t ≤ longest_listing)
      (λ _. omega (arith, length-append (sensor_lines b.cands n) (set_lines b.lows b.highs k), sensors-most b.cands n, sets-most b.lows b.highs k, wide-le hn, wide-le hk, wide-sensors, wide-sets))
      (λ _. omega arith);
  reached =
      let x : ℕ = 2 ^ 64 - 1 in
      omega (arith, length-append (sensor_lines (replicate most_sensors x) most_sensors) (set_lines (replicate most_sets x) (replicate most_sets x) most_sets), sensors-full most_sensors x bound-full most_sensors (omega arith), sets-full most_sets x bound-full most_sets (omega arith), wide-sensors, wide-sets);
}
