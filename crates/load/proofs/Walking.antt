-- Walks over a file: steps enough, one step at a time, and the records of a walk.
use Rattle.std.proofs.Common.{◌≡◌, ℕ, zero, suc, ◌+◌, ◌<◌, Bool, true, false, List, length, drop, Some, None, Ok, Err, Option, Result, sym, refl, ap, ◌∙◌, arith}
use Rattle.sheet.specs.declared.reader.Reader.{Reader}
use Rattle.sheet.specs.Layout.{Rec}
use Rattle.sheet.specs.Steps.{turn, told, onward, started, begun_at, turned, Moved}
use Rattle.sheet.specs.Files.{before, follow, read_from, read_on}
use Rattle.sheet.proofs.Whole.{shorter}
use Rattle.load.specs.Walks.{Walk, goes, walk_from, walk_on, walks_on, records_of, then_walk}

goes_same : (t : Result (Option (Rec × ℕ)) ℕ) (at : ℕ) (f g : ℕ → Walk) → ((p : Rec × ℕ) → t ≡ Ok (Some p) → f (at + p.1) ≡ g (at + p.1)) → goes t at f ≡ goes t at g
goes_same (Ok None) at f g h = refl
goes_same (Ok (Some p)) at f g h = ap (Walk.step at p.0) (h p refl)
goes_same (Err e) at f g h = refl

enough : (n m : ℕ) (file : List ℕ) (at : ℕ) (begun : Bool) → length (drop at file) < n → length (drop at file) < m → walk_from n file at begun ≡ walk_from m file at begun
unfolding walk_from
enough zero m file at begun p q = absurd (omega arith)
enough (suc n) zero file at begun p q = absurd (omega arith)
enough (suc n) (suc m) file at begun p q =
    goes_same (turn begun (drop at file)) at (λ next. walk_from n file next true) (λ next. walk_from m file next true)
    (λ r h. let s = shorter file at begun r h in enough n m file (at + r.1) true (omega (arith, s)) (omega (arith, s)))

pub steps : (file : List ℕ) (at : ℕ) (begun : Bool) → walk_on file at begun ≡ goes (turn begun (drop at file)) at (λ next. walk_on file next true)
unfolding walk_from walk_on
steps file at begun =
    goes_same (turn begun (drop at file)) at (λ next. walk_from (length (drop at file)) file next true) (λ next. walk_on file next true)
    (λ r h. let s = shorter file at begun r h in enough (length (drop at file)) (suc (length (drop (at + r.1) file))) file (at + r.1) true s (omega arith))

-- the same as a reader's answer and the rest
goes-told : (file : List ℕ) (at next : ℕ) (begun : Bool) (t : Result (Option (Rec × ℕ)) ℕ) → next ≡ onward at t → goes t at (λ i. walk_on file i true) ≡ then_walk (told at t) at (walk_on file next (started begun t))
goes-told file at next begun (Ok None) e = refl
goes-told file at next begun (Ok (Some p)) e = ap (λ i. Walk.step at p.0 (walk_on file i true)) (sym e)
goes-told file at next begun (Err x) e = refl

pub walked : (x y : Reader) (a : Result (Option Rec) (ℕ × ℕ)) → a ≡ told x.at (turned x) → Moved x y → walks_on x ≡ then_walk a x.at (walks_on y)
walked x y a e m =
    steps x.file.now x.at (begun_at x.at) ∙ goes-told x.file.now x.at y.at (begun_at x.at) (turned x) m.at
    ∙ ap (λ b. then_walk (told x.at (turned x)) x.at (walk_on x.file.now y.at b)) (sym m.begun) ∙ ap (λ f. then_walk (told x.at (turned x)) x.at (walk_on f y.at (begun_at y.at))) (sym m.file) ∙ ap (λ u. then_walk u x.at (walks_on y)) (sym e)

-- a reader just opened
pub opened : (file : List ℕ) (x : Reader) → x.file.now ≡ file → x.at ≡ 1 → walks_on x ≡ walk_on file 1 false
opened file x f a = cc

-- reading gives the records of the walk
follow-goes : (t : Result (Option (Rec × ℕ)) ℕ) (at : ℕ) (f : ℕ → Result (List Rec) (ℕ × ℕ)) (g : ℕ → Walk) → ((i : ℕ) → f i ≡ records_of (g i)) → follow t at f ≡ records_of (goes t at g)
follow-goes (Ok None) at f g h = refl
follow-goes (Ok (Some p)) at f g h = ap (before p.0) (h (at + p.1))
follow-goes (Err e) at f g h = refl

read-from : (n : ℕ) (file : List ℕ) (at : ℕ) (begun : Bool) → read_from n file at begun ≡ records_of (walk_from n file at begun)
unfolding read_from walk_from
read-from zero file at begun = refl
read-from (suc n) file at begun =
    follow-goes (turn begun (drop at file)) at (λ next. read_from n file next true) (λ next. walk_from n file next true) (λ next. read-from n file next true)

pub read_walk : (file : List ℕ) (at : ℕ) (begun : Bool) → read_on file at begun ≡ records_of (walk_on file at begun)
unfolding read_on walk_on
read_walk file at begun = read-from (suc (length (drop at file))) file at begun
