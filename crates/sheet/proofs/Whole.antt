-- Whole files: reading and writing undo each other.
use Rattle.std.proofs.Common.{◌≡◌, ℕ, zero, suc, ◌+◌, ◌-◌, ◌<◌, ◌≤◌, Bool, true, false, cond, not, eqb, leb, List, [], ◌∷◌, ◌++◌, length, get_or, drop, Some, None, Ok, Err, Option, Result, MatchResult, IsErrAnd, sym, refl, ap, ◌∙◌, subst, inl, inr, arith, length-append, length-drop}
use Rattle.std.specs.List.{flat_map, AllByRecursion}
use Rattle.std.proofs.lemmas.List.{flat_map_more, drop_more, drop-drop, drop_at, nil_from_length}
use Rattle.std.proofs.ByRecursion.{All-drop}
use Rattle.std.proofs.lemmas.Bool.{cases_eq, eq-eqb, ne_eqb, le-leb, lt-leb, lt-ltb, cond-true, cond-false}
use Rattle.std.proofs.lemmas.Bool.Decides.{nat_tests}
use Rattle.sheet.specs.Layout.{Rec, version, longest, Bytes, headed, encode, decode}
use Rattle.sheet.specs.declared.fault.Fault.{Fault}
use Rattle.sheet.specs.declared.format.Cause.{Cause}
use Rattle.sheet.specs.declared.format.Record.{Record}
use Rattle.sheet.specs.declared.reader.Reader.{Reader}
use Rattle.sheet.specs.Steps.{number, meant_if, step_of, answer, opens, ordered, turn, bare, told, onward, started, begun_at, turned, Moved}
use Rattle.sheet.specs.Files.{before, follow, read_from, read_on, read_all, reads_on, then, unread, Lessens, write_all, Fair, Sheet, Undone}
use Rattle.sheet.proofs.Records.{found, decode-encode, encode-decode, decode-fair}

-- What a step is.

refused-some : (b : Bool) (q p : Rec × ℕ) → ◌≡◌ {A = Result (Option (Rec × ℕ)) ℕ} (cond b (Err 15) (Ok (Some q))) (Ok (Some p)) → (b ≡ false) × (q ≡ p)
refused-some true q p h = (cc, cc)
refused-some false q p h = (refl, cc)

given-some : (b : Bool) (q p : Rec × ℕ) → ◌≡◌ {A = Result (Option (Rec × ℕ)) ℕ} (cond b (Ok (Some q)) (Err 15)) (Ok (Some p)) → (b ≡ true) × (q ≡ p)
given-some true q p h = (refl, cc)
given-some false q p h = (cc, cc)

ordered-some : (begun : Bool) (o : Result (Rec × ℕ) ℕ) (p : Rec × ℕ) → ordered begun o ≡ Ok (Some p) → (o ≡ Ok p) × (headed p.0 ≡ not begun)
ordered-some true (Ok q) p h = let e = refused-some (headed q.0) q p h in (ap Ok e.1, ap (λ (x : Rec × ℕ). headed x.0) (sym e.1) ∙ e.0)
ordered-some false (Ok q) p h = let e = given-some (headed q.0) q p h in (ap Ok e.1, ap (λ (x : Rec × ℕ). headed x.0) (sym e.1) ∙ e.0)
ordered-some true (Err e) p h = (cc, cc)
ordered-some false (Err e) p h = (cc, cc)

refused_none : (b : Bool) (q : Rec × ℕ) → ◌≡◌ {A = Result (Option (Rec × ℕ)) ℕ} (cond b (Err 15) (Ok (Some q))) (Ok None) → ◌≡◌ {A = ℕ} 0 1
refused_none true q h = cc
refused_none false q h = cc

given-none : (b : Bool) (q : Rec × ℕ) → ◌≡◌ {A = Result (Option (Rec × ℕ)) ℕ} (cond b (Ok (Some q)) (Err 15)) (Ok None) → ◌≡◌ {A = ℕ} 0 1
given-none true q h = cc
given-none false q h = cc

ordered-none : (begun : Bool) (o : Result (Rec × ℕ) ℕ) → ordered begun o ≡ Ok None → ◌≡◌ {A = ℕ} 0 1
ordered-none true (Ok q) h = refused_none (headed q.0) q h
ordered-none false (Ok q) h = given-none (headed q.0) q h
ordered-none true (Err e) h = cc
ordered-none false (Err e) h = cc

end-some : (begun : Bool) (p : Rec × ℕ) → ◌≡◌ {A = Result (Option (Rec × ℕ)) ℕ} (cond begun (Ok None) (Err 15)) (Ok (Some p)) → ◌≡◌ {A = ℕ} 0 1
end-some true p h = cc
end-some false p h = cc

end_none : (begun : Bool) → ◌≡◌ {A = Result (Option (Rec × ℕ)) ℕ} (cond begun (Ok None) (Err 15)) (Ok None) → begun ≡ true
end_none true h = refl
end_none false h = cc

pub turn_end : (begun : Bool) (xs : List ℕ) → length xs ≡ 0 → turn begun xs ≡ cond begun (Ok None) (Err 15)
turn_end begun xs e = cond-true (eqb (length xs) 0) _ _ (eq-eqb (length xs) 0 e)

pub turn_more : (begun : Bool) (xs : List ℕ) → (length xs ≡ 0 → ⊥) → turn begun xs ≡ ordered begun (decode xs)
turn_more begun xs e = cond-false (eqb (length xs) 0) _ _ (ne_eqb (length xs) 0 e)

pub turn-some : (begun : Bool) (xs : List ℕ) (p : Rec × ℕ) → turn begun xs ≡ Ok (Some p) → (decode xs ≡ Ok p) × (headed p.0 ≡ not begun)
turn-some begun xs p h = elim (cases_eq (length xs) 0) [
  | inl e ↦ (let z = end-some begun p (sym (turn_end begun xs e) ∙ h) in absurd (omega arith))
  | inr n ↦ ordered-some begun (decode xs) p (sym (turn_more begun xs n) ∙ h)
]

pub turn-none : (begun : Bool) (xs : List ℕ) → turn begun xs ≡ Ok None → (length xs ≡ 0) × (begun ≡ true)
turn-none begun xs h = elim (cases_eq (length xs) 0) [
  | inl e ↦ (e, end_none begun (sym (turn_end begun xs e) ∙ h))
  | inr n ↦ (let z = ordered-none begun (decode xs) (sym (turn_more begun xs n) ∙ h) in absurd (omega arith))
]

-- Steps enough.

follow-same : (t : Result (Option (Rec × ℕ)) ℕ) (at : ℕ) (f g : ℕ → Result (List Rec) (ℕ × ℕ)) → ((p : Rec × ℕ) → t ≡ Ok (Some p) → f (at + p.1) ≡ g (at + p.1)) → follow t at f ≡ follow t at g
follow-same (Ok None) at f g h = refl
follow-same (Ok (Some p)) at f g h = ap (before p.0) (h p refl)
follow-same (Err e) at f g h = refl

-- a step leaves less
pub shorter : (file : List ℕ) (at : ℕ) (begun : Bool) (p : Rec × ℕ) → turn begun (drop at file) ≡ Ok (Some p) → length (drop (at + p.1) file) < length (drop at file)
shorter file at begun p h =
    let f = found (drop at file) p.0 p.1 (turn-some begun (drop at file) p h).0 in
    omega (arith, f.some, f.room, f.size, length-drop at file, length-drop (at + p.1) file)

enough : (n m : ℕ) (file : List ℕ) (at : ℕ) (begun : Bool) → length (drop at file) < n → length (drop at file) < m → read_from n file at begun ≡ read_from m file at begun
unfolding read_from
enough zero m file at begun p q = absurd (omega arith)
enough (suc n) zero file at begun p q = absurd (omega arith)
enough (suc n) (suc m) file at begun p q =
    follow-same (turn begun (drop at file)) at (λ next. read_from n file next true) (λ next. read_from m file next true)
    (λ r h. let s = shorter file at begun r h in enough n m file (at + r.1) true (omega (arith, s)) (omega (arith, s)))

pub steps : (file : List ℕ) (at : ℕ) (begun : Bool) → read_on file at begun ≡ follow (turn begun (drop at file)) at (λ next. read_on file next true)
unfolding read_from read_on
steps file at begun =
    follow-same (turn begun (drop at file)) at (λ next. read_from (length (drop at file)) file next true) (λ next. read_on file next true)
    (λ r h. let s = shorter file at begun r h in enough (length (drop at file)) (suc (length (drop (at + r.1) file))) file (at + r.1) true s (omega arith))

-- a step from behind the version byte shows by its place
begun-goes : (file : List ℕ) (at : ℕ) (t : Result (Option (Rec × ℕ)) ℕ) → 0 < at → turn (begun_at at) (drop at file) ≡ t → begun_at (onward at t) ≡ started (begun_at at) t
begun-goes file at (Ok None) l h = refl
begun-goes file at (Ok (Some p)) l h =
    let f = found (drop at file) p.0 p.1 (turn-some (begun_at at) (drop at file) p h).0 in
    lt-ltb 1 (at + p.1) (omega (arith, f.size))
begun-goes file at (Err e) l h = refl

-- a step stays in the file
pub goes-in : (x : Reader) (rest : List ℕ) (r : Rec) (n : ℕ) → rest ≡ drop x.at x.file.now → decode rest ≡ Ok (r, n) → x.at + n ≤ length x.file.now
goes-in x rest r n e h =
    let f = found rest r n h in
    let l : length rest ≡ length x.file.now - x.at = ap length e ∙ length-drop x.at x.file.now in
    omega (arith, f.room, f.size, l, x.within)

pub moves : (x y : Reader) → y.file.now ≡ x.file.now → y.at ≡ onward x.at (turned x) → Moved x y
moves x y f a = record { file = f; at = a; begun = ap begun_at a ∙ begun-goes x.file.now x.at (turned x) x.begins refl }

-- the same as a reader's answer and the rest
pub told-by : (at : ℕ) (t : Result (Option (Rec × ℕ)) ℕ) (o : Option Rec) → Ok o ≡ bare t → Ok o ≡ told at t
told-by at (Ok None) o h = cc
told-by at (Ok (Some p)) o h = cc
told-by at (Err e) o h = cc

pub told-fault : (at : ℕ) (t : Result (Option (Rec × ℕ)) ℕ) (e : ℕ) → Err e ≡ bare t → Err (e, at) ≡ told at t
told-fault at (Ok None) e h = cc
told-fault at (Ok (Some p)) e h = cc
told-fault at (Err d) e h = cc

-- an answer of a step, with its place
pub placed : (at : ℕ) (t : Result (Option (Rec × ℕ)) ℕ) (a : Result (Option Record) Cause) (b : Result (Option Record) Fault) →
    MatchResult a (λ x. b ≡ Ok x) (λ e. IsErrAnd b (λ f. f ≡ record { cause = e; position = at })) → step_of a ≡ bare t → answer b ≡ told at t
placed at t (Ok o) b m h = ap answer m ∙ told-by at t (meant_if o) h
placed at t (Err e) (Ok o) m h = absurd m
placed at t (Err e) (Err f) m h = ap (λ (g : Fault). answer (Err g)) m ∙ told-fault at t (number e) h

follow-told : (file : List ℕ) (at next : ℕ) (begun : Bool) (t : Result (Option (Rec × ℕ)) ℕ) → next ≡ onward at t → follow t at (λ i. read_on file i true) ≡ then (told at t) (read_on file next (started begun t))
follow-told file at next begun (Ok None) e = refl
follow-told file at next begun (Ok (Some p)) e = ap (λ i. before p.0 (read_on file i true)) (sym e)
follow-told file at next begun (Err x) e = refl

pub walked : (x y : Reader) (a : Result (Option Rec) (ℕ × ℕ)) → a ≡ told x.at (turned x) → Moved x y → reads_on x ≡ then a (reads_on y)
walked x y a e m =
    steps x.file.now x.at (begun_at x.at) ∙ follow-told x.file.now x.at y.at (begun_at x.at) (turned x) m.at
    ∙ ap (λ b. then (told x.at (turned x)) (read_on x.file.now y.at b)) (sym m.begun) ∙ ap (λ f. then (told x.at (turned x)) (read_on f y.at (begun_at y.at))) (sym m.file) ∙ ap (λ u. then u (reads_on y)) (sym e)

lessens : (file : List ℕ) (at : ℕ) (begun : Bool) (t : Result (Option (Rec × ℕ)) ℕ) → turn begun (drop at file) ≡ t → Lessens (told at t) (drop at file) (drop (onward at t) file)
lessens file at begun (Ok None) h = refl
lessens file at begun (Ok (Some p)) h = shorter file at begun p h
lessens file at begun (Err e) h = refl

pub lessened : (x y : Reader) (a : Result (Option Rec) (ℕ × ℕ)) → a ≡ told x.at (turned x) → Moved x y → Lessens a (unread x) (unread y)
lessened x y a e m =
    let d : drop (onward x.at (turned x)) x.file.now ≡ unread y = ap (λ i. drop i x.file.now) (sym m.at) ∙ ap (drop y.at) (sym m.file) in
    subst (λ (b : Result (Option Rec) (ℕ × ℕ)). Lessens b (unread x) (unread y)) (sym e)
    (subst (λ (ys : List ℕ). Lessens (told x.at (turned x)) (unread x) ys) d (lessens x.file.now x.at (begun_at x.at) (turned x) refl))

-- An accepted file.

before-ok : (r : Rec) (o : Result (List Rec) (ℕ × ℕ)) (rs : List Rec) → before r o ≡ Ok rs → (ts : List Rec) × (o ≡ Ok ts) × (rs ≡ r ∷ ts)
before-ok r (Ok ts) rs h = (ts, refl, cc)
before-ok r (Err f) rs h = ([], cc, cc)

-- what is known of the records from a place on
abbrev Order : Bool → List Rec → Type 0
Order true rs = AllByRecursion (λ x. headed x ≡ false) rs
Order false [] = ⊥
Order false (r ∷ rs) = (headed r ≡ true) × AllByRecursion (λ x. headed x ≡ false) rs

record From (file : List ℕ) (at : ℕ) (begun : Bool) (rs : List Rec) : Type 0 where
  pub order : Order begun rs
  pub fair : AllByRecursion Fair rs
  pub bytes : flat_map encode rs ≡ drop at file

order-more : (begun : Bool) (r : Rec) (rs : List Rec) → headed r ≡ not begun → Order true rs → Order begun (r ∷ rs)
order-more true r rs h o = (h, o)
order-more false r rs h o = (h, o)

from_step : (file : List ℕ) (at : ℕ) (begun : Bool) (rs : List Rec) (t : Result (Option (Rec × ℕ)) ℕ) (rest : ℕ → Result (List Rec) (ℕ × ℕ)) →
    ((next : ℕ) (ts : List Rec) → rest next ≡ Ok ts → From file next true ts) → Bytes file → turn begun (drop at file) ≡ t → follow t at rest ≡ Ok rs → From file at begun rs
from_step file at begun rs (Ok None) rest ih b e h =
    let z = turn-none begun (drop at file) e in
    let n : rs ≡ [] = cc in
    let d : drop at file ≡ [] = nil_from_length (drop at file) z.0 in
    subst (λ u. From file at u rs) (sym z.1) (subst (From file at true) (sym n) (record { order = tt; fair = tt; bytes = sym d }))
from_step file at begun rs (Ok (Some p)) rest ih b e h =
    let s = turn-some begun (drop at file) p e in
    let o = before-ok p.0 (rest (at + p.1)) rs h in
    let f = ih (at + p.1) o.0 o.1 in
    let bd : Bytes (drop at file) = All-drop (λ x. x < 256) at file b in
    let d : drop (at + p.1) file ≡ drop p.1 (drop at file) = sym (drop-drop p.1 at file) in
    subst (From file at begun) (sym o.2) (record {
      order = order-more begun p.0 o.0 s.1 f.order;
      fair = (decode-fair (drop at file) p.0 p.1 bd s.0, f.fair);
      bytes = ap (λ u. encode p.0 ++ u) (f.bytes ∙ d) ∙ encode-decode (drop at file) p.0 p.1 bd s.0;
    })
from_step file at begun rs (Err x) rest ih b e h = absurd (let z : ◌≡◌ {A = ℕ} 0 1 = cc in omega arith)

from : (n : ℕ) (file : List ℕ) (at : ℕ) (begun : Bool) (rs : List Rec) → Bytes file → read_from n file at begun ≡ Ok rs → From file at begun rs
unfolding read_from
from zero file at begun rs b h = absurd (let z : ◌≡◌ {A = ℕ} 0 1 = cc in omega arith)
from (suc n) file at begun rs b h =
    from_step file at begun rs (turn begun (drop at file)) (λ next. read_from n file next true) (λ next ts e. from n file next true ts b e) b refl h

opened : (b : Bool) (o : Result (List Rec) (ℕ × ℕ)) (rs : List Rec) → cond b o (Err (10, 0)) ≡ Ok rs → (b ≡ true) × (o ≡ Ok rs)
opened true o rs h = (refl, h)
opened false o rs h = (cc, cc)

-- the first byte of a file that opens is the version
first_byte : (file : List ℕ) → opens file ≡ true → version ∷ drop 1 file ≡ file
first_byte file h =
    let l : 0 < length file = grind (arith, nat_tests) in
    let v : get_or file 0 0 ≡ version = grind (arith, nat_tests) in
    ap (λ x. x ∷ drop 1 file) (sym v) ∙ sym (drop_more file 0 0 l)

sheet-of : (rs : List Rec) → Order false rs → AllByRecursion Fair rs → Sheet rs
sheet-of [] o f = o
sheet-of (r ∷ rs) o f = (o.0, o.1, f)

accepted : (file : List ℕ) (rs : List Rec) → Bytes file → read_all file ≡ Ok rs → Sheet rs × (write_all rs ≡ file)
unfolding read_on
accepted file rs b h =
    let o = opened (opens file) (read_on file 1 false) rs h in
    let f = from (suc (length (drop 1 file))) file 1 false rs b o.1 in
    (sheet-of rs f.order f.fair, ap (λ u. version ∷ u) f.bytes ∙ first_byte file o.0)

-- A file that was written.

ordered-right : (begun : Bool) (p : Rec × ℕ) → headed p.0 ≡ not begun → ordered begun (Ok p) ≡ Ok (Some p)
ordered-right true p h = cond-false (headed p.0) _ _ h
ordered-right false p h = cond-true (headed p.0) _ _ h

turn-fair : (begun : Bool) (r : Rec) (xs : List ℕ) → Fair r → headed r ≡ not begun → turn begun (encode r ++ xs) ≡ Ok (Some (r, length (encode r)))
turn-fair begun r xs f h = turn_more begun (encode r ++ xs) (omega arith) ∙ ap (ordered begun) (decode-encode r xs f.0 f.1) ∙ ordered-right begun (r, length (encode r)) h

-- where the bytes after the first record begin
after_first : (file : List ℕ) (at : ℕ) (r : Rec) (xs : List ℕ) → drop at file ≡ encode r ++ xs → (drop (at + length (encode r)) file ≡ xs) × (length xs < length (drop at file))
after_first file at r xs e =
    (sym (drop-drop (length (encode r)) at file) ∙ ap (drop (length (encode r))) e ∙ drop_at (encode r) xs (length (encode r)) refl, omega (arith, ap length e, length-append (encode r) xs))

read_back : (rs : List Rec) (n : ℕ) (file : List ℕ) (at : ℕ) → drop at file ≡ flat_map encode rs → AllByRecursion (λ x. headed x ≡ false) rs → AllByRecursion Fair rs → length (drop at file) < n → read_from n file at true ≡ Ok rs
unfolding read_from
read_back rs zero file at e u f l = absurd (omega arith)
read_back [] (suc n) file at e u f l = ap (λ xs. follow (turn true xs) at (λ next. read_from n file next true)) e
read_back (r ∷ rs) (suc n) file at e u f l =
    let t : turn true (drop at file) ≡ Ok (Some (r, length (encode r))) = ap (turn true) e ∙ turn-fair true r (flat_map encode rs) f.0 u.0 in
    let d = after_first file at r (flat_map encode rs) e in
    ap (λ o. follow o at (λ next. read_from n file next true)) t ∙ ap (before r) (read_back rs n file (at + length (encode r)) d.0 u.1 f.1 (omega (arith, ap length d.0, d.1)))

opens_by : (xs : List ℕ) → opens (version ∷ xs) ≡ leb (length (version ∷ xs)) longest
opens_by xs =
    let n : length (version ∷ xs) ≡ 0 → ⊥ = omega arith in
    cond-false (eqb (length (version ∷ xs)) 0) false (cond (eqb version version) (leb (length (version ∷ xs)) longest) false) (ne_eqb (length (version ∷ xs)) 0 n)
    ∙ cond-true (eqb version version) (leb (length (version ∷ xs)) longest) false (eq-eqb version version refl)

written : (rs : List Rec) → Sheet rs → length (write_all rs) ≤ longest → read_all (write_all rs) ≡ Ok rs
unfolding read_from read_on
written [] s h = absurd s
written (r ∷ rs) s h =
    let file : List ℕ = write_all (r ∷ rs) in
    let t : turn false (drop 1 file) ≡ Ok (Some (r, length (encode r))) = turn-fair false r (flat_map encode rs) s.2.0 s.0 in
    let d = after_first file 1 r (flat_map encode rs) refl in
    let n : ℕ = length (drop 1 file) in
    cond-true (opens file) _ _ (opens_by (flat_map encode (r ∷ rs)) ∙ le-leb (length file) longest h)
    ∙ ap (λ o. follow o 1 (λ next. read_from n file next true)) t ∙ ap (before r) (read_back rs n file (1 + length (encode r)) d.0 s.1 s.2.1 (omega (arith, ap length d.0, d.1)))

over : (rs : List Rec) → longest < length (write_all rs) → read_all (write_all rs) ≡ Err (10, 0)
over rs h = cond-false (opens (write_all rs)) _ _ (opens_by (flat_map encode rs) ∙ lt-leb (length (write_all rs)) longest h)

pub undone : Undone
undone = record {
  decoded = λ r rest f. decode-encode r rest f.0 f.1;
  encoded = encode-decode;
  steps = steps;
  accepted = accepted;
  more = λ rs r. flat_map_more encode (version ∷ []) rs r;
  written = written;
  over = over;
}
