use Rattle.std.proofs.Common.{◌≡◌, ◌≤◌, Ok, sym, ap, ◌∙◌, subst, arith, rules}
use Rattle.std.proofs.lemmas.Result.{err_from_is_err_and}
use Rattle.rule.proofs.Answers.{some_number}
use Rattle.board.specs.Numbers.{outcome}
use Rattle.sheet.specs.Steps.{meant, answer, turned}
use Rattle.load.specs.declared.act.Act.{Act}
use Rattle.load.specs.declared.fault.LoadCause.TheVariants.{Plan}
use Rattle.load.specs.declared.fault.LoadFault.{LoadFault}
use Rattle.load.specs.Acts.{act_of_lem, verdict, taken}
use Rattle.load.specs.Walks.{walks_on}
use Rattle.load.specs.Loads.{first_fault, cause_number}
use Rattle.load.proofs.Standing.{some-fault, AtPlace, passed, faulted, read_cause, read-fault}
use Rattle.load.proofs.Faults.{here_end, here-stop, here_on, here-fault}
use Rattle.load.proofs.check.check_records.Goals as goal

pub overflow_cast-position : goal.overflow_cast-position
overflow_cast-position c =
    let x = c.loop-next.reader in
    let l : c.position.result ≤ 32768 = omega (arith, x.within, x.short, c.position.ensures) in
    search rules

pub returns-in_err-next : goal.returns-in_err-next
returns-in_err-next c = λ s h.
    let x = c.loop-next.reader in
    let g = c.loop-next.invariant s h in
    let e = c.next.ensures in
    let m : AtPlace read_cause c.next.result c.map_err.result c.position.result = search rules in
    let v = read-fault x.at (turned x) c.next.result c.map_err.result _ (subst (AtPlace read_cause c.next.result c.map_err.result) c.position.ensures m) c.in_err-next.was e.value in
    let p = err_from_is_err_and c.from_residual.result c.from_residual.ensures.1 in
    rw (p.1, p.2) (sym (g.same ∙ here-stop g.plan x c.next.new.self e.moved _ v))

pub returns-in_default : goal.returns-in_default
returns-in_default c = λ s h.
    let g = c.loop-next.invariant s h in
    let e = c.next.ensures in
    let m : AtPlace read_cause c.next.result c.map_err.result c.position.result = search rules in
    let q = passed read_cause c.next.result c.map_err.result c.position.result _ m c.in_ok-next.was in
    let v = ap answer (sym (q ∙ ap Ok c.in_default.is)) ∙ e.value in
    sym (g.same ∙ here_end g.plan c.loop-next.reader c.next.new.self e.moved v)

pub loop-next-preserved : goal.loop-next-preserved
loop-next-preserved c = λ s h.
    let x = c.loop-next.reader in
    let y = c.next.new.self in
    let g = c.loop-next.invariant s h in
    let e = c.next.ensures in
    let n : AtPlace read_cause c.next.result c.map_err.result c.position.result = search rules in
    let o = passed read_cause c.next.result c.map_err.result c.position.result _ n c.in_ok-next.was in
    let v = ap answer (sym (o ∙ ap Ok c.in-Some.is)) ∙ e.value in
    let t = c.take.ensures in
    let r = meant c.in-Some.one in
    let a : c.from.result ≡ act_of_lem r = c.from.ensures in
    let m : AtPlace Plan c.take.result c.map_err-in-loop-next.result c.position.result = search rules in
    let q = passed Plan c.take.result c.map_err-in-loop-next.result c.position.result _ m c.in_ok-map_err.was in
    let z : verdict (act_of_lem r) g.plan ≡ 0 = ap (λ (b : Act). verdict b g.plan) (sym a) ∙ sym (t.answer g.plan g.stands) ∙ ap outcome q in
    record {
      plan = taken c.from.result g.plan;
      stands = (rw q at t.after) g.plan g.stands;
      same = g.same ∙ here_on g.plan x y e.moved r v z ∙ ap (λ (b : Act). first_fault (taken b g.plan) (walks_on y)) (sym a);
    }

pub returns-in_err-map_err : goal.returns-in_err-map_err
returns-in_err-map_err c = λ s h.
    let g = c.loop-next.invariant s h in
    let e = c.next.ensures in
    let n : AtPlace read_cause c.next.result c.map_err.result c.position.result = search rules in
    let o = passed read_cause c.next.result c.map_err.result c.position.result _ n c.in_ok-next.was in
    let v = ap answer (sym (o ∙ ap Ok c.in-Some.is)) ∙ e.value in
    let m : AtPlace Plan c.take.result c.map_err-in-loop-next.result c.position.result = search rules in
    let f = faulted Plan c.take.result c.map_err-in-loop-next.result c.position.result _ m c.in_err-map_err.was in
    let q = ap outcome (sym f.1) ∙ c.take.ensures.answer g.plan g.stands ∙ ap (λ (b : Act). verdict b g.plan) c.from.ensures in
    let p = err_from_is_err_and c.from_residual-in_err-map_err.result c.from_residual-in_err-map_err.ensures.1 in
    rw (p.1, p.2) (some-fault (ap (λ (l : LoadFault). cause_number l.cause) f.2 ∙ q) (ap (λ (l : LoadFault). l.position) f.2 ∙ c.position.ensures)
    ∙ sym (g.same ∙ here-fault g.plan c.loop-next.reader c.next.new.self e.moved (meant c.in-Some.one) v (λ z. some_number f.0 (q ∙ z))))
