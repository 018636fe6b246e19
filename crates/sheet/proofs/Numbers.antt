-- Numbers as bytes, for any width.
use Rattle.std.proofs.Common.{◌≡◌, ℕ, zero, suc, ◌+◌, ◌*◌, ◌/◌, ◌%◌, ◌^◌, ◌<◌, ◌≤◌, List, [], ◌∷◌, length, get_or, take, drop, sym, refl, ap, ◌∙◌, mod-eq_of_lt, mul_assoc, arith, length-take}
use native.Mathlib.Nat.{mul-add-div_right, mul-add-mod_self_right, pow-succ', pow-le-pow_right}
use lib.Arith.{mod-mul, digits_div, digits_lt}
use Rattle.std.proofs.lemmas.List.{drop_more}
use Rattle.std.proofs.ByRecursion.{All-take}
use Rattle.sheet.specs.Layout.{value, digits, Bytes, word_width, mask_width}

-- so many elements, from a place on
abbrev pub items : List ℕ → ℕ → ℕ → List ℕ
items xs i zero = []
items xs i (suc n) = get_or xs i 0 ∷ items xs (i + 1) n

pub take-items : (xs : List ℕ) (i n : ℕ) → i + n ≤ length xs → take n (drop i xs) ≡ items xs i n
take-items xs i zero h = refl
take-items xs i (suc n) h = ap (take (suc n)) (drop_more xs i 0 (omega arith)) ∙ ap (λ t. get_or xs i 0 ∷ t) (take-items xs (i + 1) n (omega arith))

pub length_digits : (n x : ℕ) → length (digits n x) ≡ n
length_digits zero x = refl
length_digits (suc n) x = ap suc (length_digits n x)

pow_pos : (n : ℕ) → 0 < 256 ^ n
pow_pos zero = omega arith
pow_pos (suc n) = omega (arith, pow_pos n)

value-mod : (n x : ℕ) → value (digits n x) ≡ x % 256 ^ n
value-mod zero x = omega arith
value-mod (suc n) x =
    let l : length (digits n x) ≡ n = length_digits n x in
    ap (λ k. (x / 256 ^ n % 256) * 256 ^ k + value (digits n x)) l ∙ ap (λ v. (x / 256 ^ n % 256) * 256 ^ n + v) (value-mod n x) ∙ sym (mod-mul x {m = 256} {c = 256 ^ n} (omega arith) (pow_pos n)) ∙ ap (λ p. x % p) (sym (pow-succ' 256 n))

pub value-digits : (n x : ℕ) → x < 256 ^ n → value (digits n x) ≡ x
value-digits n x h = value-mod n x ∙ mod-eq_of_lt h

value-lt : (xs : List ℕ) → Bytes xs → value xs < 256 ^ length xs
value-lt [] b = omega arith
value-lt (x ∷ xs) b = rw pow-succ' (digits_lt b.0 (value-lt xs b.1))

-- the number that at most so many bytes write
pub value-part : (n : ℕ) (xs : List ℕ) → Bytes xs → value (take n xs) < 256 ^ n
value-part n xs b =
    let l : length (take n xs) ≤ n = simp length-take (omega arith) in
    let v = value-lt (take n xs) (All-take (λ x. x < 256) n xs b) in
    omega (arith, v, pow-le-pow_right {n = 256} (omega arith) l)

digits-add : (n y v : ℕ) → digits n (y * 256 ^ n + v) ≡ digits n v
digits-add zero y v = refl
digits-add (suc n) y v =
    let p : ℕ = 256 ^ n in
    let e : y * 256 ^ suc n ≡ y * 256 * p = ap (λ t. y * t) (pow-succ' 256 n) ∙ sym (mul_assoc y 256 p) in
    let first : (y * 256 ^ suc n + v) / p % 256 ≡ v / p % 256 = ap (λ t. (t + v) / p % 256) e ∙ ap (λ t. t % 256) (mul-add-div_right (pow_pos n) (y * 256) v) ∙ mul-add-mod_self_right y 256 (v / p) in
    let rest : digits n (y * 256 ^ suc n + v) ≡ digits n v = ap (λ t. digits n (t + v)) e ∙ digits-add n (y * 256) v in
    cc

pub digits_value : (xs : List ℕ) → Bytes xs → digits (length xs) (value xs) ≡ xs
digits_value [] b = refl
digits_value (x ∷ xs) b =
    let p : ℕ = 256 ^ length xs in
    let first : (x * p + value xs) / p % 256 ≡ x = ap (λ t. t % 256) (digits_div x (value-lt xs b.1)) ∙ mod-eq_of_lt b.0 in
    let rest : digits (length xs) (x * p + value xs) ≡ xs = digits-add (length xs) x (value xs) ∙ digits_value xs b.1 in
    cc

-- the bytes of a word and of a mask, as the code makes them
pub word_bytes : (x : ℕ) (bs : List ℕ) → bs ≡ (x / 16777216 % 256) ∷ (x / 65536 % 256) ∷ (x / 256 % 256) ∷ (x % 256) ∷ [] → bs ≡ digits word_width x
unfolding word_width
word_bytes x bs e = let z : x / 1 ≡ x = omega arith in e ∙ ap (λ t. (x / 16777216 % 256) ∷ (x / 65536 % 256) ∷ (x / 256 % 256) ∷ (t % 256) ∷ []) (sym z)

pub mask_bytes : (x : ℕ) (bs : List ℕ) → bs ≡ (x / 72057594037927936 % 256) ∷ (x / 281474976710656 % 256) ∷ (x / 1099511627776 % 256) ∷ (x / 4294967296 % 256) ∷ (x / 16777216 % 256) ∷ (x / 65536 % 256) ∷ (x / 256 % 256) ∷ (x % 256) ∷ [] → bs ≡ digits mask_width x
unfolding mask_width
mask_bytes x bs e = let z : x / 1 ≡ x = omega arith in e ∙ ap (λ t. (x / 72057594037927936 % 256) ∷ (x / 281474976710656 % 256) ∷ (x / 1099511627776 % 256) ∷ (x / 4294967296 % 256) ∷ (x / 16777216 % 256) ∷ (x / 65536 % 256) ∷ (x / 256 % 256) ∷ (t % 256) ∷ []) (sym z)
