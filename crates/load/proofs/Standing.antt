-- What the check keeps of a plan suffices for what the planner answers.
use Rattle.std.proofs.Common.{◌≡◌, ℕ, Some, None, Ok, Err, Option, Result, MatchResult, sym, refl, ap, ◌∙◌, arith}
use Rattle.std.specs.Result.{IsErrAnd}
use Rattle.model.specs.Calls.{State}
use Rattle.kinds.specs.declared.SheetRule.{SheetRule}
use Rattle.sheet.specs.Layout.{Rec}
use Rattle.sheet.specs.Steps.{number, answer, told}
use Rattle.sheet.specs.declared.fault.Fault.{Fault}
use Rattle.sheet.specs.declared.format.Record.{Record}
use Rattle.sheet.specs.declared.reader.Reader.{Reader}
use Rattle.load.specs.declared.check.Sketch.{Sketch}
use Rattle.load.specs.declared.fault.LoadCause.{LoadCause}
use Rattle.load.specs.declared.fault.LoadCause.TheVariants.{Sheet}
use Rattle.load.specs.declared.fault.LoadFault.{LoadFault}
use Rattle.load.specs.Walks.{walks_on}
use Rattle.load.specs.Loads.{Stands, first_fault, cause_number}

-- a check on its way: the first fault is that of the plan by now, on what is still to be read
pub record GoesOn (s : State SheetRule) (x y : Reader) (t : Sketch) : Type 0 where
  pub plan : State SheetRule
  pub stands : Stands plan t
  pub same : first_fault s (walks_on x) ≡ first_fault plan (walks_on y)

pub some-fault : {a b p q : ℕ} → a ≡ b → p ≡ q → ◌≡◌ {A = Option (ℕ × ℕ)} (Some (a, p)) (Some (b, q))
some-fault e f = cc

-- an answer, and what the check makes of it at a place
abbrev pub AtPlace : {X E : Type 0} → (E → LoadCause) → Result X E → Result X LoadFault → ℕ → Type 0
AtPlace cause a b at = MatchResult a (λ x. b ≡ Ok x) (λ e. IsErrAnd b (λ f. f ≡ record { cause = cause e; position = at }))

pub passed : {X E : Type 0} (cause : E → LoadCause) (a : Result X E) (b : Result X LoadFault) (at : ℕ) (x : X) → AtPlace cause a b at → b ≡ Ok x → a ≡ Ok x
passed cause (Ok z) b at x m e = cc
passed cause (Err r) b at x m e = absurd (rw e at m)

pub faulted : {X E : Type 0} (cause : E → LoadCause) (a : Result X E) (b : Result X LoadFault) (at : ℕ) (f : LoadFault) → AtPlace cause a b at → b ≡ Err f → (r : E) × (a ≡ Err r) × (f ≡ record { cause = cause r; position = at })
faulted cause (Ok z) b at f m e = absurd (let z : ◌≡◌ {A = ℕ} 0 1 = cc in omega arith)
faulted cause (Err r) b at f m e = (r, refl, rw e at m)

abbrev pub read_cause : Fault → LoadCause
read_cause fault = Sheet fault.cause

-- what the reader refuses is refused at its own place
own-place : (at : ℕ) (t : Result (Option (Rec × ℕ)) ℕ) (n p : ℕ) → Err (n, p) ≡ told at t → Err (n, at) ≡ told at t
own-place at (Ok None) n p h = cc
own-place at (Ok (Some r)) n p h = cc
own-place at (Err d) n p h =
    let q : ◌≡◌ {A = ℕ × ℕ} (n, p) (d, at) = cc in
    ap (λ (f : ℕ × ℕ). Err (f.0, at)) q

pub read-fault : (at : ℕ) (t : Result (Option (Rec × ℕ)) ℕ) (a : Result (Option Record) Fault) (b : Result (Option Record) LoadFault) (f : LoadFault) →
    AtPlace read_cause a b at → b ≡ Err f → answer a ≡ told at t → Err (cause_number f.cause, f.position) ≡ told at t
read-fault at t a b f m e v =
    let w = faulted read_cause a b at f m e in
    ap (λ (l : LoadFault). Err (cause_number l.cause, l.position)) w.2 ∙ own-place at t (number w.0.cause) w.0.position (ap answer (sym w.1) ∙ v)
