use Rattle.std.proofs.Common.{length, Ok, ap, ◌∙◌, arith}
use Rattle.std.proofs.lemmas.Slice.{between_to_end}
use Rattle.std.proofs.lemmas.Result.{err_from_is_err_and}
use Rattle.sheet.specs.Layout.{parsed}
use Rattle.sheet.specs.Kinds.{code_of}
use Rattle.sheet.proofs.Records.{second, inside_by}
use Rattle.sheet.proofs.fields.body.Goals as goal

pub returns-in_err-check : goal.returns-in_err-check
returns-in_err-check c =
    let xs = c.args.bytes.now in
    let t = c.after_one.result.now in
    let p = err_from_is_err_and c.from_residual-in_err-check.result c.from_residual-in_err-check.ensures.1 in
    rw (p.1, p.2) (inside_by xs t (code_of c.in_ok-kind.kind) _ c.in_ok-kind.ensures (second xs t c.after_one.ensures) c.in_err-check.ensures)

pub returns : goal.returns
returns c =
    let xs = c.args.bytes.now in
    let t = c.after_one.result.now in
    let k = code_of c.in_ok-kind.kind in
    ap Ok (c.parse.ensures ∙ ap (parsed k) (between_to_end xs 1 (length xs) (omega arith))) ∙ inside_by xs t k _ c.in_ok-kind.ensures (second xs t c.after_one.ensures) c.in_ok-check.ensures
