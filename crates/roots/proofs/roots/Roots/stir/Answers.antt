use Rattle.std.proofs.Common.{sym}
use Rattle.roots.proofs.Sweeps.{inside, outside, quiet}
use Rattle.roots.proofs.roots.Roots.stir.Goals as goal

pub returns-then-not-contains-clause-model : goal.returns-then-not-contains-clause-model
returns-then-not-contains-clause-model c =
    let e = c.bar.ensures in
    (outside c.args.self.now c.args.sensor c.args.d.now c.requires.fit c.requires.sensor c.bar.new.self c.bar.result
    (sym c.if-not-contains.ensures) (e.board, rw c.only.ensures at e.model, e.moved)).result

pub returns-clause-model : goal.returns-clause-model
returns-clause-model c =
    let e = c.forward-forth.ensures in
    let f = c.backward-back.ensures in
    (inside c.args.self.now c.args.sensor c.args.d.now c.requires.fit c.requires.sensor c.forward-forth.new.d c.backward-back.new.d
    c.forward-forth.result c.backward-back.result (sym c.if-not-contains.ensures) (e.board, e.model, e.moved) (f.board, f.model, f.moved)).result

pub returns-then-is_unsure-clause-model : goal.returns-then-is_unsure-clause-model
returns-then-is_unsure-clause-model c =
    (quiet c.args.self.now c.args.sensor c.args.d.now c.requires.fit c.requires.sensor (sym c.if-not-contains.ensures) (sym c.if-is_unsure.ensures)).result
